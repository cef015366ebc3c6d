-- `report::store_numbers` meets its contract. The loop's invariant: the numbers to come, laid over the buffer as it is, give the whole.
-- Assumes nothing.
use Prim.Native.Nat.{ℕ, ◌+◌, ◌≤◌, ◌<◌}
use mathlib.Core.List.{List}
use native.Mathlib.Nat.{add-zero}
use mathlib.Core.Path.{◌≡◌, sym, ◌∙◌}
use native.Mathlib.Omega.{arith}
use lib.ListN.{length, get_or, drop, drop_of_length-le, length-append, take-append-drop}
use Rattle.wire.specs.Bytes.{splice}
use Rattle.wire.specs.Numbers.{limit, width_of, encode_all}
use Rattle.wire.proofs.Writing.{small-next, small-here, store-next, encode-next, length-encode}
use Rattle.report.proofs.writer.store_numbers.Goals as goal

-- the number at i and those after it take what the code says
split-length : (vs : List ℕ) (i : ℕ) → i < length vs → get_or vs i 0 ≤ limit
    → length (encode_all (drop i vs)) ≡ width_of (get_or vs i 0) + length (encode_all (drop (i + 1) vs))
split-length vs i h l = rw (encode-next vs i h, ← length-encode (get_or vs i 0) l) (simp length-append)

-- none is left
done : (xs vs : List ℕ) (at i : ℕ) → length vs ≤ i → splice xs at (encode_all (drop i vs)) ≡ xs
unfolding encode_all
done xs vs at i h = rw (drop_of_length-le vs h, add-zero) (take-append-drop at xs)

pub overflow_add-place : goal.overflow_add-place
overflow_add-place c =
    let l = c.loop-v in
    let vs = c.args.numbers.now in
    let h = c.loop-v-test.true in
    omega (arith, split-length vs l.v-index h (small-here vs l.v-index h l.invariant.3), l.invariant, c.width-place.ensures)

pub loop-v-preserved : goal.loop-v-preserved
loop-v-preserved c =
    let l = c.loop-v in
    let vs = c.args.numbers.now in
    let h = c.loop-v-test.true in
    let s = small-here vs l.v-index h l.invariant.3 in
    let w = c.width-place.ensures in
    let k = c.put_number.auto.buf in
    let n = split-length vs l.v-index h s in
    (omega arith, omega arith, omega arith, sym (small-next vs l.v-index h s) ∙ l.invariant.3, rw (w, c.put_number.ensures.1) (store-next _ _ vs l.v-index h s (omega arith)) ∙ l.invariant.4)

pub returns : goal.returns
returns c =
    let l = c.loop-v in
    sym (done l.buf _ l.place l.v-index c.loop-v-test.false) ∙ l.invariant.4
