-- `pieces::words::keep` meets its contract. The loop's invariant: so many bytes were laid behind those that are carried.
-- Assumes nothing.
use mathlib.Core.Path.{◌≡◌, sym, ap}
use native.Mathlib.Omega.{arith}
use Prim.Native.Nat.{ℕ, ◌+◌, ◌-◌, ◌<◌, zero-le}
use lib.ListN.{length, get_or}
use Rattle.pieces.proofs.Laying.{laid_none, laid_more, numbers_stay, bytes-laid}
use Rattle.pieces.proofs.words.keep.Goals as goal

pub loop-i-init : goal.loop-i-init
loop-i-init c =
    let a = c.args in
    let z : 32 + a.carried + 0 ≡ 32 + a.carried = omega arith in
    (zero-le, rw z (laid_none (λ j. get_or a.more.now (j - (32 + a.carried)) 0) a.state.now (32 + a.carried)))

pub overflow_cast-state : goal.overflow_cast-state
overflow_cast-state c = omega (arith, c.type_inv.more c.loop-i.i)

pub loop-i-preserved : goal.loop-i-preserved
loop-i-preserved c =
    let l = c.loop-i in
    let a = c.args in
    let k = c.all_of.ensures.1 in
    let t = c.loop-i-test.true in
    let z : 32 + a.carried + l.i - (32 + a.carried) ≡ l.i = omega arith in
    let y : 32 + a.carried + l.i + 1 ≡ 32 + a.carried + (l.i + 1) = omega arith in
    (omega (arith, t), rw y at (laid_more (λ j. get_or a.more.now (j - (32 + a.carried)) 0) a.state.now (32 + a.carried) (32 + a.carried + l.i) l.state (get_or a.more.now l.i 0) l.invariant.1 (omega arith) (omega (arith, k, c.requires, t)) (ap (λ (x : ℕ). get_or a.more.now x 0) (sym z))))

pub returns : goal.returns
returns c =
    let l = c.loop-i in
    let a = c.args in
    let z : l.i ≡ length a.more.now = omega (arith, l.invariant.0, c.loop-i-test.false) in
    let h = rw z at l.invariant.1 in
    let o : (i : ℕ) → get_or a.more.now i 0 < 256 = λ i. (c.type_inv.more i).fits in
    (numbers_stay a.state.now l.state a.more.now a.carried h (omega (arith, c.requires)) o, bytes-laid a.state.now l.state a.more.now a.carried h (omega (arith, c.requires)) o)
