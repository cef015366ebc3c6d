-- `sent::hearing::frame_marks` meets its contract. The loop's invariant: the walk from here is whole, and what is marked, with the ranges still to mark, is the whole.
-- Assumes nothing.
use mathlib.Core.Path.{◌≡◌}
use Prim.Native.Nat.{◌≤◌}
use lib.ListN.{length}
use Rattle.frames.specs.Ack.{ranges_from, IsWhole}
use Rattle.sent.specs.Heard.{ranges_of, within}
use Rattle.sent.proofs.Marking.{Marked}
use Rattle.sent.proofs.hearing.frame_marks.Given as goal

abbrev pub invariant-loop-smallest : goal.invariant-loop-smallest
invariant-loop-smallest l =
    (l.high ≤ l.checked.largest) × IsWhole (ranges_from l.left l.s l.place l.high).walk × (length l.words ≡ 16)
    × Marked l.words l.floor (ranges_from l.left l.s l.place l.high) (within (ranges_of l.s l.checked).pairs)

abbrev pub decreases-loop-smallest : goal.decreases-loop-smallest
decreases-loop-smallest l = l.left
