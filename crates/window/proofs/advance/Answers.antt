-- `advance` meets its contract, since W / 2 ^ d is W / 2 ^ (64 * (d / 64)) / 2 ^ (d % 64). Assumes nothing.
use mathlib.Core.Path.{◌≡◌, refl, sym, ap, ◌∙◌}
use mathlib.Core.List.{List}
use Prim.Native.Nat.{ℕ, ◌/◌, ◌%◌, ◌^◌}
use lib.ListN.{replicate}
use Rattle.window.specs.Words.{number_of, words_of}
use Rattle.window.proofs.Sixteen.{Sixteen, told}
use Rattle.window.proofs.Shift.{shifted-out, in_two}
use Rattle.window.proofs.advance.Goals as goal
use Rattle.window.proofs.advance.Goals.{After-told_words}

known : (c : After-told_words) → Sixteen c.args.words.now
known c = told _ c.told_words.ensures

-- no word of 0 has a mark
zeros : replicate 16 0 ≡ words_of 16 0
unfolding words_of
zeros = refl

pub returns-then-d-ge-PLACES : goal.returns-then-d-ge-PLACES
returns-then-d-ge-PLACES c =
    let s = c in zeros ∙ ap (words_of 16) (sym (shifted-out _ (known (goal.at.returns-then-d-ge-PLACES c).After-told_words) s.args.d c.if-d-ge-PLACES.true))

pub returns : goal.returns
returns c =
    let k = c in
    let d = k.args.d in
    c.bits_down-2.ensures ∙ ap (λ (ws : List ℕ). words_of 16 (number_of ws / 2 ^ (d % 64))) c.words_down.ensures
    ∙ ap (words_of 16) (in_two _ (known (goal.at.returns k).After-told_words) d)
