-- `none_below` meets its contract: no place below p is marked where the run of places that are not has them all. Assumes nothing.
use mathlib.Core.Path.{ap, ◌∙◌}
use mathlib.Core.Bool.{false}
use Prim.Native.Nat.{ℕ}
use lib.Dec.{eqb}
use Rattle.window.specs.Words.{number_of}
use Rattle.window.specs.Window.{run_below}
use Rattle.window.proofs.Laws.{none-by-run}
use Rattle.window.proofs.none_below.Goals as goal

pub returns : goal.returns
returns c =
    let k = c in
    let a = k.args in
    ap (λ (r : ℕ). eqb r a.p) (c.run_below.ensures ∙ ap (λ (w : ℕ). run_below false a.p w) (ap number_of k.told_words.ensures))
    ∙ none-by-run a.p (number_of a.words.now)
