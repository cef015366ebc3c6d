-- `ack::edges::others_in` meets its contract: a word that is lent is one of the window's. Assumes nothing.
use Prim.Native.Nat.{ℕ, ◌+◌, ◌*◌}
use mathlib.Core.Path.{◌≡◌, refl, sym, ap, ◌∙◌, subst}
use lib.ListN.{get_or}
use Rattle.window.specs.Words.{words_in, other_than}
use Rattle.window.specs.Window.{lent_value}
use Rattle.window.proofs.Sixteen.{lent}
use Rattle.ack.specs.Walk.{Others}
use Rattle.ack.proofs.Ends.{lent-word, whole_word}
use Rattle.ack.proofs.edges.others_in.Goals as goal

pub returns : goal.returns
returns c =
    let a = c.args in
    let e : get_or a.words.now a.i 0 ≡ get_or (words_in 16 a.words.now) a.i 0 = lent-word a.words.now a.i (get_or a.words.now a.i 0) c.requires c.other_than.ensures.1 refl in
    subst (λ (x : ℕ). Others a.marked (lent_value a.words.now) (64 * a.i + 64) a.i x) (sym (c.other_than.ensures.0 ∙ ap (other_than a.marked) e))
    (whole_word (words_in 16 a.words.now) (lent a.words.now) a.marked a.i c.requires)
