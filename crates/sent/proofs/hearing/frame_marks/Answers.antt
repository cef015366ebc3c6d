-- `sent::hearing::frame_marks` meets its contract. The loop's invariant: the walk from here is whole, and what is marked, with the ranges still to mark, is the whole.
-- Assumes nothing.
use mathlib.Core.Path.{refl, sym, ap, subst, ◌∙◌}
use Prim.Native.Nat.{◌+◌, ◌<◌}
use native.Mathlib.Omega.{arith}
use lib.ListN.{length}
use Rattle.frames.specs.Ack.{Ranges, ranges_from, IsWhole}
use Rattle.frames.proofs.Ranges.{some}
use Rattle.frames.proofs.Steps.{step_fault, step-last, step-more, whole-no-fault}
use Rattle.frames.proofs.Check.{step_falls}
use Rattle.marks.proofs.Ranges.{range-long}
use Rattle.sent.specs.Heard.{ranges_of, within}
use Rattle.sent.proofs.Marking.{marked-none, marked_more, marked-last}
use Rattle.sent.proofs.hearing.frame_marks.Goals as goal

pub loop-smallest-init : goal.loop-smallest-init
loop-smallest-init c = (omega arith, c.requires.2, refl, marked-none _ _)

pub returns-in_default : goal.returns-in_default
returns-in_default c =
    let l = c.loop-smallest in
    absurd (whole-no-fault l.invariant.1 (step_fault l.left _ l.place l.high c.read_range.ensures c.in_default.is))

pub returns-then-left-eq0 : goal.returns-then-left-eq0
returns-then-left-eq0 c =
    let e = step-last c.loop-smallest.left _ c.loop-smallest.place c.loop-smallest.high c.read_range.ensures c.in-Ok.is c.if-left-eq0.true in
    let f = step_falls c.loop-smallest.left _ c.loop-smallest.place c.loop-smallest.high c.read_range.ensures c.in-Ok.is in
    let n = c.loop-smallest.invariant.2 in
    let b : Ranges = ranges_from c.loop-smallest.left c.args.s.now c.loop-smallest.place c.loop-smallest.high in
    let w = within (ranges_of c.args.s.now c.args.checked.now).pairs in
    let m : c.loop-smallest.high < c.args.floor + 1024 = omega (arith, c.loop-smallest.invariant.0, c.requires.0) in
    record { marks = marked-last c.loop-smallest.words c.add_range.new.words c.args.floor _ c.loop-smallest.high c.larger.result n m (omega (arith, c.larger.ensures)) c.add_range.ensures b w c.loop-smallest.invariant.3 refl e }

pub loop-smallest-preserved : goal.loop-smallest-preserved
loop-smallest-preserved c =
    let e = step-more c.loop-smallest.left _ c.loop-smallest.place c.loop-smallest.high c.read_range.ensures c.in-Ok.is (some c.if-left-eq0.false) in
    let f = step_falls c.loop-smallest.left _ c.loop-smallest.place c.loop-smallest.high c.read_range.ensures c.in-Ok.is in
    let n = c.loop-smallest.invariant.2 in
    let b : Ranges = ranges_from c.loop-smallest.left c.args.s.now c.loop-smallest.place c.loop-smallest.high in
    let w = within (ranges_of c.args.s.now c.args.checked.now).pairs in
    let m : c.loop-smallest.high < c.args.floor + 1024 = omega (arith, c.loop-smallest.invariant.0, c.requires.0) in (
      omega (arith, c.loop-smallest.invariant.0, f.1),
      subst IsWhole (sym (ap (λ (x : Ranges). x.walk) e)) c.loop-smallest.invariant.1,
      ap length c.add_range.ensures ∙ range-long _ _ _ ∙ n,
      marked_more c.loop-smallest.words c.add_range.new.words c.args.floor _ c.loop-smallest.high c.larger.result n m (omega (arith, c.larger.ensures)) c.add_range.ensures b w c.loop-smallest.invariant.3 e,
    )
