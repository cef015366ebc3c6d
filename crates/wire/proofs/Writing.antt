-- What a write answers and leaves in the buffer: bytes at a place, one number, and numbers one after the other.
-- Assumes nothing.
use Prim.Native.Nat.{ℕ, suc, ◌+◌, ◌-◌, ◌*◌, ◌^◌, ◌≤◌, ◌<◌}
use mathlib.Core.Path.{◌≡◌, refl, sym, ap, ◌∙◌}
use mathlib.Core.Bool.{Bool, true, false}
use mathlib.Core.List.{List, [], ◌∷◌, ◌++◌, append_assoc, append-nil}
use native.Mathlib.Omega.{arith}
use borrow.Author.Tests.{le-leb, lt-leb, leb-true}
use lib.Dec.{leb}
use lib.Arith.{digits_lt}
use lib.ListN.{length, get_or, take, drop, length-take, length-drop}
use lib.Seq.{drop-drop, drop-cons}
use native.Mathlib.Numerals.{add-one}
use Rattle.std.specs.Prelude.{Ok, Err}
use Rattle.wire.specs.Bytes.{pick, splice}
use Rattle.wire.specs.Fields.{fixed, placed, after, written}
use Rattle.wire.specs.declared.Refusal.{Refusal}
use Rattle.wire.specs.declared.Refusal.TheVariants.{TooLarge, NoRoom}
use Rattle.wire.specs.Numbers.{len_of, room_of, largest_of, limit, code_of, width_of, form, encode, encode_all, all_small, length_of, put_answer, put_bytes}
use Rattle.wire.proofs.Bytes.{length-fixed, splice-splice}
use Rattle.wire.proofs.Lengths.{room_of_lem, room-le, code_fits, code-small, small-code, width-found}

pub placed-no : (xs : List ℕ) (at : ℕ) (ys : List ℕ) → length xs < at + length ys → (Err NoRoom ≡ placed xs at ys) × (xs ≡ written xs at ys)
unfolding placed after
placed-no xs at ys h = rw (lt-leb (at + length ys) (length xs) h) (refl, refl)

pub placed-yes : (xs : List ℕ) (at : ℕ) (ys : List ℕ) → at + length ys ≤ length xs
    → (Ok (at + length ys) ≡ placed xs at ys) × (splice xs at ys ≡ written xs at ys)
unfolding placed after
placed-yes xs at ys h = rw (le-leb (at + length ys) (length xs) h) (refl, refl)

-- ---- a field of len bytes

module _ (xs : List ℕ) (at len v : ℕ) where
  pub fixed_no : length xs < at + len → (Err NoRoom ≡ placed xs at (fixed len v)) × (xs ≡ written xs at (fixed len v))
  fixed_no h = placed-no xs at (fixed len v) (omega (arith, length-fixed len v))

  -- ys is what the callee left of the part that it was lent
  pub fixed-yes : (ys : List ℕ) → at + len ≤ length xs → ys ≡ fixed (length (take (at + len - at) (drop at xs))) v
      → (Ok (at + len) ≡ placed xs at (fixed len v)) × (take at xs ++ (ys ++ drop (at + len - at) (drop at xs)) ≡ written xs at (fixed len v))
  fixed-yes ys h d =
      let m : at + len - at ≡ len = omega arith in
      let n : length (take len (drop at xs)) ≡ len = simp (length-take, length-drop) (omega arith) in
      let b : ys ≡ fixed len v = rw (m, n) at d in
      let p = placed-yes xs at (fixed len v) (omega (arith, length-fixed len v)) in
      (rw (length-fixed len v) at p.0, rw (m, b, drop-drop) (rw (length-fixed len v) at p.1))

-- ---- a number in the form of code k: len and big are what the table says of the code

pub form-fits : (k v big : ℕ) → k < 4 → v < room_of k → big ≡ largest_of k → k * (big + 1) + v < 2 ^ 64
form-fits k v big h l g = rw (room_of_lem k big g) (omega (arith, digits_lt h l, room-le k h))

pub form-made : (k v len big : ℕ) → len ≡ len_of k → big ≡ largest_of k → fixed len (k * (big + 1) + v) ≡ form k v
unfolding form
form-made k v len big f g = rw (f, room_of_lem k big g)

pub code-found : (v k : ℕ) → k ≡ code_of v → k < 4 → v < room_of k
code-found v k e h = rw e (code_fits v (rw e at h))

pub length-encode : (v : ℕ) → v ≤ limit → length (encode v) ≡ width_of v
unfolding encode form
length-encode v h = length-fixed (len_of (code_of v)) (code_of v * room_of (code_of v) + v) ∙ sym (width-found v (small-code v h))

-- ---- numbers one after the other: in two parts, and from the one at i on

pub encode-append : (us vs : List ℕ) → encode_all (us ++ vs) ≡ encode_all us ++ encode_all vs
unfolding encode_all
encode-append [] vs = refl
encode-append (u ∷ us) vs = rw (encode-append us vs) (sym (append_assoc (encode u) (encode_all us) (encode_all vs)))

module _ (vs : List ℕ) (i : ℕ) (h : i < length vs) where
  pub encode-next : encode_all (drop i vs) ≡ encode (get_or vs i 0) ++ encode_all (drop (i + 1) vs)
  unfolding encode_all
  encode-next = rw (add-one, drop-cons vs i 0)

  pub small-next : get_or vs i 0 ≤ limit → all_small (drop i vs) ≡ all_small (drop (i + 1) vs)
  unfolding all_small
  small-next l = rw (add-one, drop-cons vs i 0, le-leb (get_or vs i 0) limit l)

  pub large-here : limit < get_or vs i 0 → all_small (drop i vs) ≡ false
  unfolding all_small
  large-here l = rw (drop-cons vs i 0, lt-leb (get_or vs i 0) limit l)

  pub small-here : all_small (drop i vs) ≡ true → get_or vs i 0 ≤ limit
  unfolding all_small
  small-here e = first (get_or vs i 0) (drop (suc i) vs) (rw (drop-cons vs i 0) at e)
    where
      first : (v : ℕ) (us : List ℕ) → pick (leb v limit) (all_small us) false ≡ true → v ≤ limit
      first v us e = leb-true v limit (go (leb v limit) e)
        where
          go : (b : Bool) → pick b (all_small us) false ≡ true → b ≡ true
          go true e = refl
          go false e = e

-- ---- what the length of numbers says

pub length-bytes : (vs : List ℕ) (n : ℕ) → Ok n ≡ length_of vs → (all_small vs ≡ true) × (n ≡ length (encode_all vs))
unfolding length_of
length-bytes vs n e = go (all_small vs) e
  where
    go : (b : Bool) → Ok n ≡ pick b (Ok (length (encode_all vs))) (Err TooLarge) → (b ≡ true) × (n ≡ length (encode_all vs))
    go true e = (refl, cc)
    go false e = (cc, cc)

pub large-length : (vs : List ℕ) → all_small vs ≡ false → Err TooLarge ≡ length_of vs
unfolding length_of
large-length vs e = rw e

pub bytes-length : (vs : List ℕ) (n : ℕ) → all_small vs ≡ true → n ≡ length (encode_all vs) → Ok n ≡ length_of vs
unfolding length_of
bytes-length vs n e f = rw (e, f)

-- ---- what writing numbers answers

module _ (xs : List ℕ) (at : ℕ) (vs : List ℕ) where
  pub put-large : all_small vs ≡ false → (Err TooLarge ≡ put_answer xs at vs) × (xs ≡ put_bytes xs at vs)
  unfolding put_answer put_bytes after
  put-large e = rw e (refl, refl)

  pub put_small : all_small vs ≡ true → (placed xs at (encode_all vs) ≡ put_answer xs at vs) × (written xs at (encode_all vs) ≡ put_bytes xs at vs)
  unfolding put_answer put_bytes
  put_small e = rw e (refl, refl)

-- the refusal of the length is that of the writer
pub put-refused : (xs : List ℕ) (at : ℕ) (vs : List ℕ) {refusal : Refusal} → Err refusal ≡ length_of vs → (Err refusal ≡ put_answer xs at vs) × (xs ≡ put_bytes xs at vs)
unfolding length_of
put-refused xs at vs {refusal} e = go (all_small vs) refl e
  where
    go : (b : Bool) → all_small vs ≡ b → Err refusal ≡ pick b (Ok (length (encode_all vs))) (Err TooLarge) → (Err refusal ≡ put_answer xs at vs) × (xs ≡ put_bytes xs at vs)
    go true t e = absurd (cc)
    go false t e = let p = put-large xs at vs t in (e ∙ p.0, p.1)

-- one number: k is the code that was found
pub encode_one : (v k : ℕ) → k ≡ code_of v → form k v ≡ encode_all (v ∷ [])
unfolding encode_all encode
encode_one v k e = rw (append-nil, e)

small_one : (v : ℕ) → v ≤ limit → all_small (v ∷ []) ≡ true
unfolding all_small
small_one v h = rw (le-leb v limit h)

large-one : (v : ℕ) → limit < v → all_small (v ∷ []) ≡ false
unfolding all_small
large-one v h = rw (lt-leb v limit h)

module _ (xs : List ℕ) (at v : ℕ) where
  pub one-done : (k : ℕ) {ys : List ℕ} {r : _} → k ≡ code_of v → k < 4 → r ≡ placed xs at (form k v) → ys ≡ written xs at (form k v)
      → (r ≡ put_answer xs at (v ∷ [])) × (ys ≡ put_bytes xs at (v ∷ []))
  one-done k e h p q =
      let s = put_small xs at (v ∷ []) (small_one v (code-small v (rw e at h))) in
      (p ∙ ap (placed xs at) (encode_one v k e) ∙ s.0, q ∙ ap (written xs at) (encode_one v k e) ∙ s.1)

  pub one-large : limit < v → (Err TooLarge ≡ put_answer xs at (v ∷ [])) × (xs ≡ put_bytes xs at (v ∷ []))
  one-large h = put-large xs at (v ∷ []) (large-one v h)

-- a number that fits is laid over what stood there
pub one-splice : (xs : List ℕ) (at v : ℕ) → v ≤ limit → at + width_of v ≤ length xs → put_bytes xs at (v ∷ []) ≡ splice xs at (encode v)
unfolding encode_all
one-splice xs at v h l =
    let p = placed-yes xs at (encode v) (omega (arith, length-encode v h)) in
    sym (p.1 ∙ ap (written xs at) (sym (append-nil (encode v))) ∙ (put_small xs at (v ∷ []) (small_one v h)).1)

-- and the place after it is told
pub one-place : (xs : List ℕ) (at v : ℕ) → v ≤ limit → at + width_of v ≤ length xs → Ok (at + width_of v) ≡ put_answer xs at (v ∷ [])
unfolding encode_all
one-place xs at v h l =
    let p = placed-yes xs at (encode v) (omega (arith, length-encode v h)) in
    rw (← length-encode v h) (p.0 ∙ ap (placed xs at) (sym (append-nil (encode v))) ∙ (put_small xs at (v ∷ []) (small_one v h)).0)

-- numbers that all fit, one more laid over the buffer
pub store-next : (xs : List ℕ) (at : ℕ) (vs : List ℕ) (i : ℕ) → i < length vs → get_or vs i 0 ≤ limit → at + width_of (get_or vs i 0) ≤ length xs
    → splice (put_bytes xs at (get_or vs i 0 ∷ [])) (at + width_of (get_or vs i 0)) (encode_all (drop (i + 1) vs)) ≡ splice xs at (encode_all (drop i vs))
store-next xs at vs i h l f =
    let v : ℕ = get_or vs i 0 in
    let n : length (encode v) ≡ width_of v = length-encode v l in
    rw (one-splice xs at v l f, ← n, encode-next vs i h) (splice-splice xs (encode v) (encode_all (drop (i + 1) vs)) at (omega arith))
