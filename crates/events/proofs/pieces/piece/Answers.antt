-- `events::piece` meets its contract. The loop's invariant: what is left to play, after what was played, is the whole.
-- Assumes nothing.
use Prim.Native.Nat.{◌+◌, ◌*◌, ◌^◌, ◌≤◌, ◌<◌}
use native.Mathlib.Omega.{arith}
use lib.ListN.{length}
use Rattle.events.proofs.Playing.{begun, more, ended, inside, has-bytes, has_room, has-index}
use Rattle.events.proofs.pieces.piece.Goals as goal
use Rattle.events.proofs.pieces.piece.Goals.{In-loop-i}

-- what is left, from a turn of the loop
bytes_left : (t : In-loop-i) → 24 * t.loop-i.i < length t.args.s.now
bytes_left t = has-bytes _ _ _ _ _ t.count_of-count.ensures t.loop-i-test.true

room-left : (t : In-loop-i) → t.loop-i.at + 63 ≤ length t.loop-i.buf
room-left t =
    let p = t.loop-i.invariant in
    omega (arith, has_room _ _ _ _ _ t.count_of-count.ensures t.loop-i-test.true, p.room, p.long)

index-left : (t : In-loop-i) → t.args.index + t.loop-i.i < 2 ^ 64
index-left t = has-index _ _ _ _ _ t.count_of-count.ensures t.loop-i-test.true

pub loop-i-init : goal.loop-i-init
loop-i-init c = begun _ _ _ _ _

pub overflow_mul-i : goal.overflow_mul-i
overflow_mul-i c = omega (arith, bytes_left (goal.at.overflow_mul-i c).In-loop-i)

pub slice_bounds-step-count : goal.slice_bounds-step-count
slice_bounds-step-count c = omega (arith, bytes_left (goal.at.slice_bounds-step-count c).In-loop-i)

pub slice_bounds-step-start : goal.slice_bounds-step-start
slice_bounds-step-start c = omega (arith, bytes_left (goal.at.slice_bounds-step-start c).In-loop-i)

pub slice_bounds-step-end : goal.slice_bounds-step-end
slice_bounds-step-end c = omega (arith, bytes_left (goal.at.slice_bounds-step-end c).In-loop-i)

pub overflow_add-index : goal.overflow_add-index
overflow_add-index c = record { fits = index-left (goal.at.overflow_add-index c).In-loop-i }

pub step-stepped-requires : goal.step-stepped-requires
step-stepped-requires c = room-left (goal.at.step-stepped-requires c).In-loop-i

pub loop-i-preserved : goal.loop-i-preserved
loop-i-preserved c =
    let e = c.step-stepped.ensures in
    more _ _ _ _ _ c.loop-i.invariant c.loop-i-test.true (room-left (goal.at.loop-i-preserved c).In-loop-i) c.step-stepped.auto.buf e.3 e.0 e.1 e.2

pub shape_of-buf : goal.shape_of-buf
shape_of-buf c = c.loop-i.invariant.long

pub returns : goal.returns
returns c =
    let p = c.loop-i.invariant in
    let h = c.loop-i-test.false in
    let e = c.count_of-count.ensures in
    let a = ended _ _ _ _ _ p h e in
    (a.0, a.1, inside _ _ _ _ _ p e, omega arith)
