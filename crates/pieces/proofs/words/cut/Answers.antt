-- `pieces::words::cut` meets its contract. The loop's invariant: so many words hold a byte.
-- Assumes nothing.
use mathlib.Core.Path.{◌≡◌, ap}
use native.Mathlib.Omega.{arith}
use Prim.Native.Nat.{ℕ, ◌+◌, ◌%◌, zero-le}
use lib.ListN.{get_or}
use Rattle.pieces.proofs.Laying.{laid_none, laid_more}
use Rattle.pieces.proofs.words.cut.Goals as goal

pub loop-i-init : goal.loop-i-init
loop-i-init c = (zero-le, laid_none (λ j. get_or c.args.state.now j 0 % 256) c.args.state.now 32)

pub loop-i-preserved : goal.loop-i-preserved
loop-i-preserved c =
    let l = c.loop-i in
    let w = c.args.state.now in
    let t = c.loop-i-test.true in
    let z : 32 + l.i + 1 ≡ 32 + (l.i + 1) = omega arith in
    (omega (arith, t), rw z at (laid_more (λ j. get_or w j 0 % 256) w 32 (32 + l.i) l.state (get_or l.state (32 + l.i) 0 % 256) l.invariant.1 (omega arith) (omega (arith, c.requires, t)) (ap (λ (x : ℕ). x % 256) (l.invariant.1.behind (32 + l.i) (omega arith)))))

pub returns : goal.returns
returns c =
    let l = c.loop-i in
    let z : l.i ≡ c.args.carried = omega (arith, l.invariant.0, c.loop-i-test.false) in
    rw z at l.invariant.1
