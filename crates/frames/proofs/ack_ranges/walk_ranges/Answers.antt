-- `frames::ack_ranges::walk_ranges` meets its contract. The loop's invariant: the walk from here ends as the walk from the start does, and where there is room what is written, with the ranges still to write after it, is the whole.
-- Assumes nothing.
use Prim.Native.Nat.{ℕ, ◌+◌, ◌≤◌}
use mathlib.Core.Path.{refl, ap, ◌∙◌}
use native.Mathlib.Omega.{arith}
use lib.ListN.{length}
use Rattle.std.specs.Prelude.{Result}
use Rattle.std.proofs.lemmas.Result.{err_from_is_err_and}
use Rattle.wire.specs.declared.Refusal.{Refusal}
use Rattle.frames.specs.Ack.{Ranges}
use Rattle.frames.proofs.Ranges.{wrote-last}
use Rattle.frames.proofs.Steps.{step_fault, step-last, whole-no-fault}
use Rattle.frames.proofs.Few.{walk-begun, fill-begun, stepped, wrote_so}
use Rattle.frames.proofs.ack_ranges.walk_ranges.Goals as goal

abbrev ending : Ranges → Result ℕ Refusal
ending r = r.walk

pub loop-smallest-init : goal.loop-smallest-init
loop-smallest-init c = (refl, omega arith, omega arith, walk-begun _ _ _ _, λ f. (refl, fill-begun _ _ _ _ _))

pub returns-in_err-smallest : goal.returns-in_err-smallest
returns-in_err-smallest c =
    let l = c.loop-smallest in
    let p = err_from_is_err_and c.from_residual.result c.from_residual.ensures.1 in
    let w = step_fault _ _ l.place l.high c.read_range.ensures c.in_err-smallest.was ∙ l.invariant.3 in
    rw (p.1, p.2) (w, λ h f. absurd (whole-no-fault h w))

pub put_range-requires : goal.put_range-requires
put_range-requires c = c.loop-smallest.invariant.2

pub shape_of-ranges-then-passed-count : goal.shape_of-ranges-then-passed-count
shape_of-ranges-then-passed-count c = c.put_range.ensures.0 ∙ c.loop-smallest.invariant.0

pub returns-then-passed-count : goal.returns-then-passed-count
returns-then-passed-count c =
    let l = c.loop-smallest in
    let e = step-last _ _ l.place l.high c.read_range.ensures c.in_ok-smallest.was (omega arith) in (
      ap ending e ∙ l.invariant.3,
      λ h f.
          let q = l.invariant.4 f in
          let room : l.i + 2 ≤ length l.ranges = omega (arith, q.0, l.invariant.0, l.invariant.1, f) in
          (c.put_range.ensures.2 room).1 ∙ wrote-last l.ranges l.i q.1 e room,
    )

pub put_range-i-requires : goal.put_range-i-requires
put_range-i-requires c = c.loop-smallest.invariant.2

pub overflow_add-passed : goal.overflow_add-passed
overflow_add-passed c = omega (arith, c.loop-smallest.invariant.1, c.if-passed-count.false)

pub loop-smallest-smaller : goal.loop-smallest-smaller
loop-smallest-smaller c = omega (arith, c.loop-smallest.invariant.1, c.if-passed-count.false)

pub loop-smallest-preserved : goal.loop-smallest-preserved
loop-smallest-preserved c =
    let l = c.loop-smallest in
    let n = c.put_range-i.ensures in
    let e = stepped _ l.passed _ l.place l.high c.read_range.ensures c.in_ok-smallest.was l.invariant.1 c.if-passed-count.false in (
      n.0 ∙ l.invariant.0,
      omega (arith, l.invariant.1, c.if-passed-count.false),
      omega (arith, n.0, n.1),
      ap ending e ∙ l.invariant.3,
      λ f.
          let q = l.invariant.4 f in
          let room : l.i + 2 ≤ length l.ranges = omega (arith, q.0, l.invariant.0, l.invariant.1, f) in
          let m = n.2 room in
          (omega (arith, q.0, m.0), wrote_so l.ranges l.i q.1 e room m.0 m.1),
    )
