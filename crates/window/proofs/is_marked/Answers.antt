-- `is_marked` meets its contract: a bit of the number is a bit of one word. Assumes nothing.
use mathlib.Core.Path.{sym, ap}
use Prim.Native.Nat.{ℕ}
use lib.Dec.{eqb}
use Rattle.window.specs.Words.{bit}
use Rattle.window.proofs.Sixteen.{Sixteen, told, at_place, past}
use Rattle.window.proofs.is_marked.Goals as goal
use Rattle.window.proofs.is_marked.Goals.{After-told_words}

known : (c : After-told_words) → Sixteen c.args.words.now
known c = told _ c.told_words.ensures

pub returns-then-place-ge-PLACES : goal.returns-then-place-ge-PLACES
returns-then-place-ge-PLACES c = sym (ap (λ (x : ℕ). eqb x 1) (past _ (known (goal.at.returns-then-place-ge-PLACES c).After-told_words) c.args.place c.if-place-ge-PLACES.true))

pub returns : goal.returns
unfolding bit
returns c = sym (ap (λ (x : ℕ). eqb x 1) (at_place _ (known (goal.at.returns c).After-told_words) c.args.place))
