-- What was written is read back, over the code, so for the four lengths at once and for forms that are longer than they need be.
-- Assumes nothing.
use Prim.Native.Nat.{ℕ, suc, ◌+◌, ◌-◌, ◌*◌, ◌/◌, ◌%◌, ◌^◌, ◌≤◌, ◌<◌}
use mathlib.Core.Path.{◌≡◌, refl, sym, ap, ◌∙◌, subst}
use mathlib.Core.Bool.{true}
use mathlib.Core.List.{List, [], ◌∷◌, ◌++◌}
use native.Mathlib.Nat.{add-zero, zero-add, zero-mul, mul_assoc, pow-succ', one-le-pow, mul-add-div_right, mul-add-mod_self_right, mod-eq_of_lt, div-lt_iff_lt-mul}
use native.Mathlib.Omega.{arith}
use borrow.Author.Tests.{le-leb, eq-eqb}
use lib.Dec.{lit<}
use lib.Arith.{digits_lt}
use lib.Pow.{suc_ones, pow_pos}
use lib.ListN.{length, get_or, take, drop, length-append, get_or-append}
use lib.Seq.{drop_at, take_at, get_or-drop, length-take-le}
use Rattle.std.specs.Prelude.{Result}
use Rattle.wire.specs.Bytes.{be}
use Rattle.wire.specs.Fields.{read_fixed, found, field, fixed, written}
use Rattle.wire.specs.Numbers.{len_of, room_of, limit, code_of, width_of, form, encode, is_shortest, read_form, read_number, put_bytes}
use Rattle.wire.specs.Exactly.{FieldsAccept}
use Rattle.wire.specs.declared.Number.{Number}
use Rattle.wire.specs.declared.Refusal.{Refusal}
use Rattle.wire.proofs.Bytes.{be-digits, length-fixed, digits-head}
use Rattle.wire.proofs.Lengths.{code_fits, small-code, width-found}
use Rattle.wire.proofs.Reading.{whole as whole_field}
use Rattle.wire.proofs.Writing.{placed-yes, one-splice}

-- a field of len bytes, with anything before and after it, reads as what it holds
pub read-fixed : (len n : ℕ) (p q : List ℕ) (at : ℕ) → length p ≡ at → n < 256 ^ len → whole_field n (at + len) ≡ read_fixed len (p ++ (fixed len n ++ q)) at
unfolding read_fixed
read-fixed len n p q at e h =
    let s : List ℕ = p ++ (fixed len n ++ q) in
    let d : drop at s ≡ fixed len n ++ q = drop_at p (fixed len n ++ q) at e in
    let t : take len (drop at s) ≡ fixed len n = rw d (take_at (fixed len n) q len (length-fixed len n)) in
    let b : be 0 (fixed len n) ≡ n = be-digits len n [] 0 ∙ rw (mod-eq_of_lt h, zero-mul, zero-add) in
    let l : at + len ≤ length s = simp length-append (omega (arith, length-fixed len n)) in
    rw (le-leb (at + len) (length s) l, t, b)

-- a field that was written is read back
pub fixed_back : (xs : List ℕ) (at len v : ℕ) → v < 256 ^ len → at + len ≤ length xs → whole_field v (at + len) ≡ read_fixed len (written xs at (fixed len v)) at
fixed_back xs at len v h l =
    rw (← (placed-yes xs at (fixed len v) (omega (arith, length-fixed len v))).1)
    (read-fixed len v (take at xs) (drop (at + length (fixed len v)) xs) at (length-take-le at xs (omega arith)) h)

-- at any length suc t: the first byte's top two bits are the code, and the number is below the code
head : (t k v : ℕ) → k < 4 → v < 64 * 256 ^ t → get_or (fixed (suc t) (k * (64 * 256 ^ t) + v)) 0 0 / 64 ≡ k
head t k v h l =
    let p : 0 < 256 ^ t = one-le-pow t 256 (lit< tt) in
    let q : v / 256 ^ t < 64 = (div-lt_iff_lt-mul p).1 l in
    rw (digits-head t (k * (64 * 256 ^ t) + v) [], ← mul_assoc, mul-add-div_right p) (omega arith)

whole : (t k v : ℕ) → k < 4 → v < 64 * 256 ^ t → k * (64 * 256 ^ t) + v < 256 ^ suc t
whole t k v h l = rw pow-succ' (omega (arith, digits_lt h l))

module _ (k v : ℕ) (h : k < 4) (l : v < room_of k) where
  form-head : get_or (form k v) 0 0 / 64 ≡ k
  unfolding form
  form-head = subst (λ (n : ℕ). get_or (fixed n (k * room_of k + v)) 0 0 / 64 ≡ k) (suc_ones k) (head (2 ^ k - 1) k v h l)

  form-whole : k * room_of k + v < 256 ^ len_of k
  form-whole = subst (λ (n : ℕ). k * room_of k + v < 256 ^ n) (suc_ones k) (whole (2 ^ k - 1) k v h l)

  -- v in the form of code k, with anything before and after it, reads as v, and whether the form is the shortest is told
  pub read-form : (p q : List ℕ) (at : ℕ) → length p ≡ at → found v (at + len_of k) (is_shortest k v) ≡ read_number (p ++ (form k v ++ q)) at
  unfolding read_number read_form form
  read-form p q at e =
      let s : List ℕ = p ++ (form k v ++ q) in
      let d : drop at s ≡ form k v ++ q = drop_at p (form k v ++ q) at e in
      let n : 0 < length (form k v) = omega (arith, length-fixed (len_of k) (k * room_of k + v), pow_pos k) in
      let g : get_or s at 0 ≡ get_or (form k v) 0 0 =
      ap (λ (i : ℕ). get_or s i 0) (sym (add-zero at)) ∙ sym (get_or-drop at s 0 0) ∙ ap (λ (r : List ℕ). get_or r 0 0) d ∙ get_or-append (form k v) q 0 0 n in
      let m : (k * room_of k + v) % room_of k ≡ v = rw (mul-add-mod_self_right, mod-eq_of_lt l) in
      rw (g, form-head, ← read-fixed (len_of k) (k * room_of k + v) p q at e form-whole, m)

pub fields-accept : FieldsAccept
fields-accept R k v h l before behind refused f =
    ap (λ (n : Result Number Refusal). field n refused f) (sym (read-form k v h l before behind (length before) refl))

-- the shortest form of v, anywhere in s
pub read-encoded : (s p q : List ℕ) (v at : ℕ) → v ≤ limit → s ≡ p ++ (encode v ++ q) → length p ≡ at → found v (at + width_of v) true ≡ read_number s at
unfolding encode
read-encoded s p q v at h e l =
    let k : code_of v < 4 = small-code v h in
    rw (e, width-found v k)
    (ap (found v (at + len_of (code_of v))) (sym (eq-eqb (code_of v) (code_of v) refl)) ∙ read-form (code_of v) v k (code_fits v k) p q at l)

-- what `put_number` wrote, `read_number` reads
pub read_back : (xs : List ℕ) (at v : ℕ) → v ≤ limit → at + width_of v ≤ length xs → found v (at + width_of v) true ≡ read_number (put_bytes xs at (v ∷ [])) at
read_back xs at v h l =
    read-encoded (put_bytes xs at (v ∷ [])) (take at xs) (drop (at + length (encode v)) xs) v at h (one-splice xs at v h l) (length-take-le at xs (omega arith))
