-- `report::read_numbers` meets its contract. The loop's invariant: reading on from here, after the numbers so far, gives the whole reading.
-- Assumes nothing.
use mathlib.Core.Path.{◌≡◌}
use Prim.Native.Nat.{◌-◌, ◌≤◌}
use lib.ListN.{length, take}
use Rattle.report.specs.Limits.{most_numbers}
use Rattle.report.specs.Reader.{numbers_from, read_numbers}
use Rattle.report.proofs.reader.read_numbers.Given as goal

abbrev pub invariant-loop-count : goal.invariant-loop-count
invariant-loop-count l = (l.count ≤ most_numbers) × ((length l.numbers ≡ most_numbers) × ((l.at ≤ length l.s) × (numbers_from l.profile (most_numbers - l.count) l.s l.at (take l.count l.numbers) ≡ read_numbers l.profile l.s)))

abbrev pub decreases-loop-count : goal.decreases-loop-count
decreases-loop-count l = most_numbers - l.count
