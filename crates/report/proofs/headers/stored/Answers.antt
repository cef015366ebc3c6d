-- `report::stored` meets its contract: the code's signed steps give the magnitude, by cases on the sign.
-- Assumes nothing.
use native.Mathlib.Omega.{arith}
use Rattle.report.proofs.Signed.{Negative, Positive, negative, positive}
use Rattle.report.proofs.headers.stored.Goals as goal
use Rattle.report.proofs.headers.stored.Goals.{Else-n-lt0, Then-n-lt0}

neg : (c : Then-n-lt0) → Negative c.args.n
neg c = negative c.args.n c.ranges.n c.if-n-lt0.true

pos : (c : Else-n-lt0) → Positive c.args.n
pos c = positive c.args.n c.ranges.n c.if-n-lt0.false

pub overflow_add-m : goal.overflow_add-m
overflow_add-m c = (neg c).up_fits

pub overflow_sub-m : goal.overflow_sub-m
overflow_sub-m c = (neg c).minus-fits

pub overflow_cast-result : goal.overflow_cast-result
overflow_cast-result c = rw (neg c).is (tt, record { fits = omega (arith, (neg c).small) })

pub overflow_mul-result : goal.overflow_mul-result
overflow_mul-result c = rw (neg c).is (record { fits = omega (arith, (neg c).small) })

pub overflow_add-result : goal.overflow_add-result
overflow_add-result c = rw (neg c).is (record { fits = omega (arith, (neg c).small) })

pub overflow_cast-result-else-n-lt0 : goal.overflow_cast-result-else-n-lt0
overflow_cast-result-else-n-lt0 c = rw (pos c).is (tt, record { fits = omega (arith, (pos c).small) })

pub overflow_mul-result-else-n-lt0 : goal.overflow_mul-result-else-n-lt0
overflow_mul-result-else-n-lt0 c = rw (pos c).is (record { fits = omega (arith, (pos c).small) })

pub returns-then-n-lt0 : goal.returns-then-n-lt0
returns-then-n-lt0 c = rw (neg c).is (neg c).stored

pub returns-else-n-lt0 : goal.returns-else-n-lt0
returns-else-n-lt0 c = rw (pos c).is (pos c).stored
