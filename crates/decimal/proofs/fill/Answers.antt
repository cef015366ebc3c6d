-- `decimal::fill` meets its contract.
-- Assumes nothing.
use mathlib.Core.Path.{◌≡◌, refl, ◌∙◌}
use native.Mathlib.Omega.{arith}
use native.Mathlib.Nat.{le_refl}
use lib.Seq.{drop-length}
use lib.ListN.{length-set}
use Rattle.decimal.proofs.Digits.{two_digits, one-digit}
use Rattle.decimal.proofs.fill.Goals as goal

pub loop-i-init : goal.loop-i-init
loop-i-init c = (le_refl _, refl, rw drop-length)

pub bounds-buf-i : goal.bounds-buf-i
bounds-buf-i c = rw length-set (omega arith)

pub loop-i-preserved : goal.loop-i-preserved
loop-i-preserved c =
    let l = c.loop-i in
    (simp length-set (omega arith), simp length-set l.invariant.1, two_digits _ _ _ c.loop-i-test.true l.invariant.0 ∙ l.invariant.2)

pub returns-then-i-eq1 : goal.returns-then-i-eq1
returns-then-i-eq1 c =
    let l = c.loop-i in
    one-digit _ _ _ c.if-i-eq1.true l.invariant.0 ∙ l.invariant.2

pub returns-else-i-eq1 : goal.returns-else-i-eq1
returns-else-i-eq1 c =
    let l = c.loop-i in
    let e : l.i ≡ 0 = omega (arith, c.if-i-eq1.false, c.loop-i-test.false) in
    rw e at l.invariant.2
