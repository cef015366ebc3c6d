-- `ack::edges::first_run` meets its contract. The invariant: the run below the last place is the whole words passed over and the run below word i.
-- Assumes nothing.
use Prim.Native.Nat.{ℕ, ◌+◌, ◌-◌, ◌*◌}
use mathlib.Core.Path.{◌≡◌, refl, subst}
use mathlib.Core.Bool.{true}
use native.Mathlib.Omega.{arith}
use lib.Count.{count_leading_zeros}
use Rattle.window.specs.Window.{lent_value, run_below}
use Rattle.window.proofs.Runs.{run_none}
use Rattle.ack.specs.Walk.{Others}
use Rattle.ack.proofs.Ends.{goes_on, zeros-few, run_ends}
use Rattle.ack.proofs.edges.first_run.Goals as goal
use Rattle.ack.proofs.edges.first_run.Goals.{After-others_in-other}

-- the word below
others : (c : After-others_in-other) → Others true (lent_value c.args.words.now) (64 * c.loop-i.i) (c.loop-i.i - 1) c.others_in-other.result
others c =
    let e : 64 * (c.loop-i.i - 1) + 64 ≡ 64 * c.loop-i.i = omega (arith, c.loop-i-test.true) in
    subst (λ (p : ℕ). Others true (lent_value c.args.words.now) p (c.loop-i.i - 1) c.others_in-other.result) e c.others_in-other.ensures

pub returns-then-other-ne0 : goal.returns-then-other-ne0
returns-then-other-ne0 c =
    let o = others (goal.at.returns-then-other-ne0 c).After-others_in-other in
    let e : run_below true (64 * c.loop-i.i) (lent_value c.args.words.now) ≡ count_leading_zeros 64 c.others_in-other.result =
    omega (arith, zeros-few o refl c.if-other-ne0.true, run_ends o refl c.if-other-ne0.true, c.loop-i-test.true) in
    omega (arith, c.loop-i.invariant, c.loop-i.auto.i, c.loop-i-test.true)

pub loop-i-preserved : goal.loop-i-preserved
loop-i-preserved c =
    let f = goes_on (others (goal.at.loop-i-preserved c).After-others_in-other) c.if-other-ne0.false in
    omega (arith, c.loop-i.invariant, c.loop-i.auto.i, c.loop-i-test.true, f)

pub returns : goal.returns
returns c =
    let z : 64 * c.loop-i.i ≡ 0 = omega (arith, c.loop-i-test.false) in
    omega (arith, c.loop-i.invariant, c.loop-i.auto.i, run_none true (64 * c.loop-i.i) (lent_value c.args.words.now) z)
