-- `marks::next_marked` meets its contract. The loop's invariant: what is looked for from the start is what is looked for from here.
-- The measure is what is left of the numbers. Assumes nothing.
use mathlib.Core.Path.{◌≡◌}
use Prim.Native.Nat.{◌-◌}
use Rattle.marks.specs.Marks.{mark, first_in}
use Rattle.marks.proofs.next_marked.Given as goal

abbrev pub invariant-loop-at : goal.invariant-loop-at
invariant-loop-at l = first_in (mark l.words) (l.to - l.from) l.from ≡ first_in (mark l.words) (l.to - l.at) l.at

abbrev pub decreases-loop-at : goal.decreases-loop-at
decreases-loop-at l = l.to - l.at
