-- `tracker::average::mean` meets its contract: each branch is one test of the definition.
-- Assumes nothing.
use Prim.Native.Nat.{◌/◌, ◌%◌, ◌-◌, ◌+◌, ◌≤◌}
use native.Mathlib.Nat.{div-le_self}
use native.Mathlib.Omega.{arith}
use borrow.Author.Tests.{le-leb, lt-leb, eq-eqb, ne_eqb}
use Rattle.tracker.specs.Counting.{mean_by}
use Rattle.tracker.proofs.Signed.{size_is, minus-read}
use Rattle.tracker.proofs.average.mean.Goals as goal

pub returns-then-gaps-eq0 : goal.returns-then-gaps-eq0
unfolding mean_by
returns-then-gaps-eq0 c = rw (eq-eqb c.args.gaps 0 c.if-gaps-eq0.true)

pub returns-then-interval-whole : goal.returns-then-interval-whole
unfolding mean_by
returns-then-interval-whole c =
    let a = c.args in
    let w : a.spread / a.gaps ≤ a.spread = div-le_self a.spread a.gaps in
    rw (ne_eqb a.gaps 0 c.if-gaps-eq0.false, le-leb a.interval (a.spread / a.gaps) c.if-interval-whole.true) (size_is (a.spread / a.gaps - a.interval) (omega (arith, c.requires)))

pub returns-then-spread-gaps-eq0 : goal.returns-then-spread-gaps-eq0
unfolding mean_by
returns-then-spread-gaps-eq0 c =
    let a = c.args in
    rw (ne_eqb a.gaps 0 c.if-gaps-eq0.false, lt-leb a.interval (a.spread / a.gaps) c.if-interval-whole.false, eq-eqb (a.spread % a.gaps) 0 c.if-spread-gaps-eq0.true) (minus-read (a.interval - a.spread / a.gaps) (omega (arith, c.requires)))

pub returns : goal.returns
unfolding mean_by
returns c =
    let a = c.args in
    rw (ne_eqb a.gaps 0 c.if-gaps-eq0.false, lt-leb a.interval (a.spread / a.gaps) c.if-interval-whole.false, ne_eqb (a.spread % a.gaps) 0 c.if-spread-gaps-eq0.false) (minus-read (a.interval - (a.spread / a.gaps + 1)) (omega (arith, c.requires)))
