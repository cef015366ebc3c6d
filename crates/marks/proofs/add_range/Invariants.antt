-- `marks::add_range` meets its contract. The loop's invariant: the words are those with the numbers up to here marked.
-- The measure is what is left of them. Assumes nothing.
use mathlib.Core.Path.{◌≡◌}
use Prim.Native.Nat.{◌+◌, ◌-◌, ◌≤◌}
use Rattle.marks.specs.Marks.{with_range}
use Rattle.marks.proofs.add_range.Given as goal

abbrev pub invariant-loop-at : goal.invariant-loop-at
invariant-loop-at l =
    (l.from ≤ l.at) × (l.at ≤ l.from + (l.to - l.from)) × (l.words ≡ with_range l.initial.words (l.at - l.from) l.from)

abbrev pub decreases-loop-at : goal.decreases-loop-at
decreases-loop-at l = l.to - l.at
