-- `marks::count_marks` meets its contract. The loop's invariant: those counted and those from here on are all.
-- The measure is what is left of the numbers. Assumes nothing.
use mathlib.Core.Path.{◌≡◌}
use Prim.Native.Nat.{◌+◌, ◌-◌, ◌≤◌}
use lib.ListN.{length}
use Rattle.marks.specs.Marks.{mark, listed}
use Rattle.marks.proofs.count_marks.Given as goal

abbrev pub invariant-loop-found : goal.invariant-loop-found
invariant-loop-found l =
    (l.count + l.from ≤ l.at) × (length (listed (mark l.words) (l.to - l.from) l.from) ≡ l.count + length (listed (mark l.words) (l.to - l.at) l.at))

abbrev pub decreases-loop-found : goal.decreases-loop-found
decreases-loop-found l = l.to - l.at
