-- `wire::several::store_numbers` meets its contract. The loop's invariant: the numbers to come, laid over the buffer as it is, give the whole.
-- Assumes nothing.
use Prim.Native.Nat.{ℕ, ◌+◌, ◌≤◌, ◌<◌}
use mathlib.Core.List.{List}
use native.Mathlib.Nat.{add-zero}
use mathlib.Core.Path.{◌≡◌, sym, ◌∙◌}
use native.Mathlib.Omega.{arith}
use lib.ListN.{length, get_or, drop, drop_of_length-le, length-append, take-append-drop}
use Rattle.wire.specs.Bytes.{splice}
use Rattle.wire.specs.Numbers.{limit, width_of, encode_all}
use Rattle.wire.proofs.Writing.{small-next, small-here, one-place, store-next, encode-next, length-encode}
use Rattle.wire.proofs.several.store_numbers.Goals as goal
use Rattle.wire.proofs.several.store_numbers.Goals.{in-Ok, in_default}

-- the number at i and those after it take what the code says
split-length : (vs : List ℕ) (i : ℕ) → i < length vs → get_or vs i 0 ≤ limit
    → length (encode_all (drop i vs)) ≡ width_of (get_or vs i 0) + length (encode_all (drop (i + 1) vs))
split-length vs i h l = rw (encode-next vs i h, ← length-encode (get_or vs i 0) l) (simp length-append)

-- none is left
done : (xs vs : List ℕ) (at i : ℕ) → length vs ≤ i → splice xs at (encode_all (drop i vs)) ≡ xs
unfolding encode_all
done xs vs at i h = rw (drop_of_length-le vs h, add-zero) (take-append-drop at xs)

pub loop-value-preserved : goal.loop-value-preserved
loop-value-preserved c =
    let l = c.loop-value in
    let vs = c.args.values.now in
    let v : ℕ = get_or vs l.value-index 0 in
    let t = c.loop-value-test.true in
    let i = l.invariant in
    let s : v ≤ limit = small-here vs l.value-index t i.2 in
    let n = split-length vs l.value-index t s in
    let f : l.place + width_of v ≤ length l.buf = omega arith in
    let r = c.put_number.ensures.0 ∙ sym (one-place l.buf l.place v s f) in
    let e : c.match-put_number.place ≡ l.place + width_of v =
    elim c.match-put_number.branch [
      | in-Ok w ↦ let is = w.in-Ok.is in w.place-is ∙ cc
      | in_default w ↦ let is = w.in_default.not-Ok _ r in absurd is
    ] in
    let k = c.put_number.auto.buf in
    (omega arith, omega arith, sym (small-next vs l.value-index t s) ∙ i.2, rw (e, c.put_number.ensures.1) (store-next _ _ vs l.value-index t s f) ∙ i.3)

pub returns : goal.returns
returns c =
    let l = c.loop-value in
    sym (done l.buf _ l.place l.value-index c.loop-value-test.false) ∙ l.invariant.3
