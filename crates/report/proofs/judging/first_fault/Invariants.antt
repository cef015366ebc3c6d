-- `report::first_fault` meets its contract. The loop's invariant: the numbers to come, after those passed, have the fault of the whole.
-- Assumes nothing.
use mathlib.Core.Path.{◌≡◌}
use Prim.Native.Nat.{◌%◌, ◌≤◌}
use lib.ListN.{take, drop}
use Rattle.report.specs.Header.{fault_after, first_fault}
use Rattle.report.proofs.judging.first_fault.Given as goal

abbrev pub invariant-loop-i : goal.invariant-loop-i
invariant-loop-i l = (8 ≤ l.i) × ((l.i % 2 ≡ 0) × (fault_after l.profile (take l.i l.numbers) (drop l.i l.numbers) ≡ first_fault l.profile l.numbers))
