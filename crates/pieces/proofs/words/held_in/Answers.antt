-- `pieces::words::held_in` meets its contract. The loop's invariant: what was passed is what stands there.
-- Assumes nothing.
use borrow.Author.Rules.{rules}
use mathlib.Core.Path.{◌≡◌, refl}
use native.Mathlib.Omega.{arith}
use Prim.Native.Nat.{zero-le}
use lib.ListN.{length-set}
use Rattle.pieces.proofs.Loading.{held-turn}
use Rattle.pieces.proofs.words.held_in.Goals as goal

pub loop-i-init : goal.loop-i-init
loop-i-init c = (zero-le, (refl, refl))

pub loop-i-preserved : goal.loop-i-preserved
loop-i-preserved c =
    let l = c.loop-i in
    (search rules, (simp length-set l.invariant.1.0, held-turn c.args.state.now l.held l.i l.invariant.1.0 (omega (arith, c.loop-i-test.true, c.requires)) l.invariant.1.1))

pub returns : goal.returns
returns c =
    let l = c.loop-i in
    let z : l.i ≡ c.args.carried = omega (arith, l.invariant.0, c.loop-i-test.false) in
    (l.invariant.1.0, rw z at l.invariant.1.1)
