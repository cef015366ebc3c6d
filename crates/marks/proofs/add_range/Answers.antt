-- `marks::add_range` meets its contract. The loop's invariant: the words are those with the numbers up to here marked.
-- The measure is what is left of them. Assumes nothing.
use native.Mathlib.Omega.{arith}
use Rattle.marks.proofs.Ranges.{range_none, range-run}
use Rattle.marks.proofs.add_range.Goals as goal

pub loop-at-init : goal.loop-at-init
loop-at-init c = (omega arith, omega arith, range_none _ _ _ (omega arith))

pub loop-at-preserved : goal.loop-at-preserved
loop-at-preserved c =
    let l = c.loop-at.invariant in
    let e = c.min-len.ensures in
    let t = c.loop-at-test.true in
    (omega (arith, l.0), omega (arith, e, t), range-run _ _ _ _ _ l.0 (omega (arith, e, t)) (omega (arith, e)) l.2)
