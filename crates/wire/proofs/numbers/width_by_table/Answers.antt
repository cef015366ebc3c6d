-- `wire::width_by_table` meets its contract. The loop's invariant: the first code from k that holds v is the first of all.
-- Assumes nothing.
use Prim.Native.Nat.{ℕ, suc, ◌+◌, ◌-◌, ◌<◌}
use mathlib.Core.Path.{◌≡◌, sym, ap, ◌∙◌}
use borrow.Author.Tests.{le-leb, lt-leb}
use lib.Dec.{leb}
use native.Mathlib.Numerals.{add-one}
use native.Mathlib.Omega.{arith}
use Rattle.wire.specs.Bytes.{pick}
use Rattle.wire.specs.Numbers.{first_from, code_of, width_of, largest_of, len_of}
use Rattle.wire.proofs.Lengths.{width-found, width-none}
use Rattle.wire.proofs.numbers.width_by_table.Goals as goal

turn : (v k : ℕ) → k < 4 → first_from (4 - k) k v ≡ pick (leb v (largest_of k)) k (first_from (4 - (k + 1)) (k + 1) v)
unfolding first_from
turn v k h =
    let e : 4 - k ≡ suc (4 - (k + 1)) = omega arith in
    rw (e, add-one)

-- the code k is found, and its length with it
found : (v k len : ℕ) → k ≡ code_of v → k < 4 → len ≡ len_of k → len ≡ width_of v
found v k len e h l = l ∙ ap len_of e ∙ sym (width-found v (rw e at h))

-- no code is found
none : (v k : ℕ) → k ≡ 4 → k ≡ code_of v → 0 ≡ width_of v
none v k f e = sym (width-none v (omega arith))

pub returns-then-v-f : goal.returns-then-v-f
returns-then-v-f c =
    let l = c.loop-code in
    let v = c.args.v in
    let h = c.loop-code-test.true in
    found v l.code _ (rw (turn v l.code h, le-leb v (largest_of l.code) (omega arith)) at l.invariant) h c.form_at-f.ensures.0

pub loop-code-preserved : goal.loop-code-preserved
loop-code-preserved c =
    let l = c.loop-code in
    let v = c.args.v in
    rw (turn v l.code c.loop-code-test.true, lt-leb v (largest_of l.code) (omega arith)) at l.invariant

pub returns : goal.returns
unfolding first_from
returns c =
    let e : c.loop-code.code ≡ 4 = omega arith in
    none _ _ e (e ∙ rw e at c.loop-code.invariant)
