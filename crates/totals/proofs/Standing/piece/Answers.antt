-- `totals::Standing::piece` meets its contract. The loop's invariant: the work left gives the whole.
-- Assumes nothing.
use native.Mathlib.Omega.{arith}
use borrow.Author.Rules.{rules}
use mir.Val.{Fits}
use mir.Syntax.{w64}
use lib.ListN.{get_or}
use Rattle.totals.proofs.Stepping.{going-begun, going-within, going-stop, going-held, going_on, going_end}
use Rattle.totals.proofs.Standing.piece.Goals as goal

pub loop-at-init : goal.loop-at-init
loop-at-init c =
    let a = c.args in (
      going-begun _ _,
      record {
        sums-long = search rules;
        marks-long = search rules;
        words = λ i h. let f : Fits w64 (get_or a.self.totals.sums i 0) = search rules in omega (arith, f.fits);
      },
    )

pub slice_bounds-step_in-count : goal.slice_bounds-step_in-count
slice_bounds-step_in-count c = c.loop-at.invariant.0.within

pub slice_bounds-step_in-start : goal.slice_bounds-step_in-start
slice_bounds-step_in-start c = omega (arith, c.loop-at.invariant.0.within)

pub slice_bounds-step_in-end : goal.slice_bounds-step_in-end
slice_bounds-step_in-end c = omega (arith, c.loop-at.invariant.0.within)

pub step_in-step-requires : goal.step_in-step-requires
step_in-step-requires c = c.loop-at.invariant.1

pub overflow_add-at : goal.overflow_add-at
overflow_add-at c =
    let l = c.loop-at in
    omega (arith, going-within _ _ l.invariant.0 _ c.step_in-step.ensures)

pub loop-at-smaller : goal.loop-at-smaller
loop-at-smaller c =
    let l = c.loop-at in
    omega (arith, going-within _ _ l.invariant.0 _ c.step_in-step.ensures)

pub loop-at-preserved : goal.loop-at-preserved
loop-at-preserved c =
    let l = c.loop-at in
    let e = c.step_in-step.ensures in
    (going_on _ _ l.invariant.0 _ e c.if-step-eq0.false, going-held _ _ l.invariant.0 _ e l.invariant.1)

pub returns-after-loop-at : goal.returns-after-loop-at
returns-after-loop-at c = (going_end _ _ c.loop-at.invariant.0 c.loop-at-test.false, c.loop-at.invariant.0.within)

pub returns-then-step-eq0 : goal.returns-then-step-eq0
returns-then-step-eq0 c =
    let l = c.loop-at in
    (going-stop _ _ l.invariant.0 _ c.step_in-step.ensures c.if-step-eq0.true, l.invariant.0.within)
