-- `tracker::counting::reach` meets its contract: its tests are the definition's.
-- Assumes nothing.
use Prim.Native.Nat.{◌-◌}
use native.Mathlib.Nat.{div-le_self}
use native.Mathlib.Omega.{arith}
use borrow.Author.Tests.{eq-eqb, ne_eqb}
use Rattle.tracker.proofs.counting.reach.Goals as goal

pub returns-then-passed-eq0 : goal.returns-then-passed-eq0
returns-then-passed-eq0 c = (rw (eq-eqb c.args.passed 0 c.if-passed-eq0.true), omega arith)

pub returns-then-interval-eq0 : goal.returns-then-interval-eq0
returns-then-interval-eq0 c =
    let a = c.args in
    (rw (ne_eqb a.passed 0 c.if-passed-eq0.false, eq-eqb a.interval 0 c.if-interval-eq0.true), omega arith)

pub returns : goal.returns
returns c =
    let a = c.args in
    (rw (ne_eqb a.passed 0 c.if-passed-eq0.false, ne_eqb a.interval 0 c.if-interval-eq0.false), omega (arith, div-le_self (a.passed - 1) a.interval))
