-- `frames::ack_ranges::walk_ranges` meets its contract. The loop's invariant: the walk from here ends as the walk from the start does, and where there is room what is written, with the ranges still to write after it, is the whole.
-- Assumes nothing.
use Prim.Native.Nat.{◌+◌, ◌-◌, ◌*◌, ◌≤◌}
use mathlib.Core.Path.{◌≡◌}
use lib.ListN.{length}
use Rattle.wire.specs.Bytes.{splice}
use Rattle.frames.specs.Ack.{ranges_from}
use Rattle.frames.proofs.ack_ranges.walk_ranges.Given as goal

abbrev pub invariant-loop-smallest : goal.invariant-loop-smallest
invariant-loop-smallest l =
    (length l.ranges ≡ length l.initial.ranges) × (l.passed ≤ l.count) × (l.i ≤ length l.ranges)
    × ((ranges_from (l.count - l.passed) l.s l.place l.high).walk ≡ (ranges_from l.count l.s l.at l.largest).walk)
    × (2 * (l.count + 1) ≤ length l.initial.ranges
    → (l.i ≡ 2 * l.passed) × (splice l.ranges l.i (ranges_from (l.count - l.passed) l.s l.place l.high).pairs ≡ splice l.initial.ranges 0 (ranges_from l.count l.s l.at l.largest).pairs))

abbrev pub decreases-loop-smallest : goal.decreases-loop-smallest
decreases-loop-smallest l = l.count - l.passed
