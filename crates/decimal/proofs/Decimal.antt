-- Decimal numbers: how many digits there are, and that the digits, read back, are the number.
-- Assumes nothing.
use Prim.Native.Nat.{ℕ, zero, suc, ◌+◌, ◌*◌, ◌/◌, ◌%◌, ◌^◌, ◌≤◌, ◌<◌}
use mathlib.Core.Path.{◌≡◌, refl, sym, ap, ◌∙◌}
use mathlib.Core.List.{List, [], ◌∷◌}
use native.Mathlib.Nat.{le_refl, lt_of_not-le, pow-suc, mul_assoc, one-le-pow, mod-eq_of_lt, zero-mul, zero-add, add-zero}
use native.Mathlib.Decide.{dec_le}
use native.Mathlib.Omega.{arith}
use borrow.Author.Tests.{lt-ltb, le-ltb}
use lib.Dec.{lit<}
use lib.Arith.{mod-mul}
use lib.ListN.{length, get_or}
use Rattle.decimal.specs.Decimal.{places_from, places_of, last_digits, decimal, spelt, Digits, DecimalSpells}

-- ---- how many digits

from_one : (s n : ℕ) → n < 10 → places_from (suc s) n ≡ 1
unfolding places_from
from_one s n h = rw (lt-ltb n 10 h, places_from)

from_more : (s n : ℕ) → 10 ≤ n → places_from (suc s) n ≡ suc (places_from s (n / 10))
unfolding places_from
from_more s n h = rw (le-ltb n 10 h, places_from)

-- the steps do not matter, where there are enough
steps-enough : (s t n : ℕ) → n ≤ s → n ≤ t → places_from s n ≡ places_from t n
unfolding places_from
steps-enough zero zero n h l = refl
steps-enough zero (suc t) n h l = sym (from_one t n (omega arith))
steps-enough (suc s) zero n h l = from_one s n (omega arith)
steps-enough (suc s) (suc t) n h l =
    elim (dec_le 10 n) [
      | yes g ↦ rw (from_more s n g, from_more t n g) (ap suc (steps-enough s t (n / 10) (omega arith) (omega arith)))
      | no g ↦ let f : n < 10 = lt_of_not-le g in from_one s n f ∙ sym (from_one t n f)
    ]

pub places-one : (n : ℕ) → n < 10 → places_of n ≡ 1
unfolding places_of places_from
places-one zero h = refl
places-one (suc n) h = from_one n (suc n) h

pub places-more : (n : ℕ) → 10 ≤ n → places_of n ≡ suc (places_of (n / 10))
unfolding places_of
places-more zero h = absurd (omega arith)
places-more (suc n) h = from_more n (suc n) h ∙ ap suc (steps-enough n (suc n / 10) (suc n / 10) (omega arith) (le_refl (suc n / 10)))

-- the power of ten that n has just reached says how many
pub places-power : (k n : ℕ) → 10 ^ k ≤ n → n < 10 * 10 ^ k → places_of n ≡ suc k
places-power zero n h l = places-one n (omega arith)
places-power (suc k) n h l =
    let p : 10 ^ suc k ≡ 10 ^ k * 10 = pow-suc 10 k in
    let q : 0 < 10 ^ k = one-le-pow k 10 (lit< tt) in
    places-more n (omega arith) ∙ ap suc (places-power k (n / 10) (omega arith) (omega arith))

pub places-some : (n : ℕ) → 0 < places_of n
places-some n = elim (dec_le 10 n) [ yes g ↦ omega (arith, places-more n g) | no g ↦ omega (arith, places-one n (lt_of_not-le g)) ]

pub places-most : (k n : ℕ) → n < 10 ^ suc k → places_of n ≤ suc k
places-most zero n h = omega (arith, places-one n h)
places-most (suc k) n h =
    let l : n < 10 ^ suc k * 10 = rw pow-suc at h in
    elim (dec_le 10 n) [
      | yes g ↦ omega (arith, places-more n g, places-most k (n / 10) (omega arith))
      | no g ↦ omega (arith, places-one n (lt_of_not-le g))
    ]

-- a word has at most twenty digits
pub word-places : (n : ℕ) → n < 2 ^ 64 → places_of n ≤ 20
word-places n h = places-most 19 n (omega arith)

-- so many digits hold n
below : (s n : ℕ) → n ≤ s → n < 10 ^ places_of n
below zero n h = let e : n ≡ 0 = omega arith in rw (e, places-one 0 (lit< tt)) (lit< tt)
below (suc s) n h =
    elim (dec_le 10 n) [
      | yes g ↦ rw (places-more n g, pow-suc) (omega (arith, below s (n / 10) (omega arith)))
      | no g ↦ let l : n < 10 = lt_of_not-le g in rw (places-one n l) (omega arith)
    ]

-- ---- the digits

pub length_last : (k n : ℕ) (tl : List ℕ) → length (last_digits k n tl) ≡ k + length tl
length_last zero n tl = omega arith
length_last (suc k) n tl = omega (arith, length_last k (n / 10) ((48 + n % 10) ∷ tl))

pub length-decimal : (n : ℕ) → length (decimal n) ≡ places_of n
unfolding decimal
length-decimal n = length_last (places_of n) n [] ∙ add-zero (places_of n)

pub all_digits : (n k : ℕ) → k ≡ places_of n → last_digits k n [] ≡ decimal n
unfolding decimal
all_digits n k e = rw e

spelt-last : (k n : ℕ) (tl : List ℕ) (acc : ℕ) → spelt acc (last_digits k n tl) ≡ spelt (acc * 10 ^ k + n % 10 ^ k) tl
spelt-last zero n tl acc = ap (λ (a : ℕ). spelt a tl) (omega arith)
spelt-last (suc k) n tl acc =
    spelt-last k (n / 10) ((48 + n % 10) ∷ tl) acc
    ∙ ap (λ (a : ℕ). spelt a tl)
    (rw (pow-suc, mod-mul n {m = 10 ^ k} {c = 10} (one-le-pow k 10 (lit< tt)) (lit< tt), ← mul_assoc) (omega arith))

last_digits_lem : (k n : ℕ) (tl : List ℕ) → Digits tl → Digits (last_digits k n tl)
last_digits_lem zero n tl h = h
last_digits_lem (suc k) n tl h = last_digits_lem k (n / 10) ((48 + n % 10) ∷ tl) more
  where
    more : Digits ((48 + n % 10) ∷ tl)
    more zero l = (omega arith, omega arith)
    more (suc i) l = h i (omega arith)

-- the first digit of a number that is not 0
first-digit : (s n : ℕ) (tl : List ℕ) → n ≤ s → 0 < n → 48 < get_or (last_digits (places_of n) n tl) 0 0
first-digit zero n tl h p = absurd (omega arith)
first-digit (suc s) n tl h p =
    elim (dec_le 10 n) [
      | yes g ↦ rw (places-more n g) (first-digit s (n / 10) ((48 + n % 10) ∷ tl) (omega arith) (omega arith))
      | no g ↦ let l : n < 10 = lt_of_not-le g in rw (places-one n l) (omega arith)
    ]

pub decimal-spells : DecimalSpells
unfolding decimal
decimal-spells n =
    record {
      value = spelt-last (places_of n) n [] 0 ∙ rw (mod-eq_of_lt (below n n (le_refl n)), zero-mul, zero-add);
      digit = last_digits_lem (places_of n) n [] (λ i l. absurd (omega arith));
      some = rw (length-decimal n) (places-some n);
      leading = λ e. rw (length-decimal n) (places-one n (elim (dec_le 1 n) [ yes g ↦ absurd (omega (arith, first-digit n n [] (le_refl n) g)) | no g ↦ omega (arith, lt_of_not-le g) ]));
    }
