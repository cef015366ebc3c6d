-- The bits of a word that code makes: of `&`, `|` and `!`, of a run of ones, and the first that is set.
-- Assumes nothing.
use Prim.Native.Nat.{ℕ, zero, suc, ◌+◌, ◌-◌, ◌*◌, ◌/◌, ◌%◌, ◌^◌, ◌≤◌, ◌<◌, min, max}
use mathlib.Core.Path.{◌≡◌, refl, sym, ap, ap₂, ◌∙◌, subst}
use mathlib.Core.Bool.{Bool, false, not, ◌&&◌, ◌||◌}
use native.Mathlib.Nat.{min-le_left, mod-lt}
use native.Mathlib.Omega.{arith}
use borrow.Author.Tests.{le-leb, lt-leb, lt-ltb, le-ltb}
use lib.Bits.{bit_and, bit_or, and_step, or_step, and_shr, or_shr}
use lib.Count.{count_trailing_zeros}
use native.Mathlib.Decide.{dec_le}
use lib.Dec.{ltb, eqb}
use lib.Pow.{shr_lt, pow_pos}
use Rattle.window.specs.Words.{bit}
use Rattle.window.specs.Window.{is_set}
use Rattle.window.proofs.Bits.{bit-add, bit-lt, bit-above, bit-cat, bit-low, bit_up, bit_not}
use Rattle.window.proofs.Zeros.{below-zeros, at-zeros, zeros-in}
use Rattle.marks.specs.Marks.{first_in, between}
use Rattle.marks.proofs.Listing.{first-hit, first-skip, first-none}

-- ---- `&`, `|` and `!`

and_low : (a b : ℕ) → bit_and a b % 2 ≡ min (a % 2) (b % 2)
and_low a b =
    let l : min (a % 2) (b % 2) < 2 = omega (arith, min-le_left (a % 2) (b % 2), mod-lt a (pow_pos 1)) in
    ap (λ (x : ℕ). x % 2) (and_step a b) ∙ omega arith

or-low : (a b : ℕ) → bit_or a b % 2 ≡ max (a % 2) (b % 2)
or-low a b =
    let l : max (a % 2) (b % 2) < 2 = two (a % 2) (b % 2) (mod-lt a (pow_pos 1)) (mod-lt b (pow_pos 1)) in
    ap (λ (x : ℕ). x % 2) (or_step a b) ∙ omega arith
  where
    two : (x y : ℕ) → x < 2 → y < 2 → max x y < 2
    two zero zero h k = h
    two zero (suc zero) h k = k
    two zero (suc (suc y)) h k = absurd (omega arith)
    two (suc zero) zero h k = h
    two (suc zero) (suc zero) h k = h
    two (suc zero) (suc (suc y)) h k = absurd (omega arith)
    two (suc (suc x)) y h k = absurd (omega arith)

bit-and : (a b p : ℕ) → bit (bit_and a b) p ≡ min (bit a p) (bit b p)
unfolding bit
bit-and a b p = ap (λ (x : ℕ). x % 2) (and_shr a b p) ∙ and_low (a / 2 ^ p) (b / 2 ^ p)

bit-or : (a b p : ℕ) → bit (bit_or a b) p ≡ max (bit a p) (bit b p)
unfolding bit
bit-or a b p = ap (λ (x : ℕ). x % 2) (or_shr a b p) ∙ or-low (a / 2 ^ p) (b / 2 ^ p)

pub set-and : (a b p : ℕ) → is_set (bit_and a b) p ≡ (is_set a p && is_set b p)
set-and a b p = ap (λ (x : ℕ). eqb x 1) (bit-and a b p) ∙ go (bit a p) (bit b p) (bit-lt a p) (bit-lt b p)
  where
    go : (x y : ℕ) → x < 2 → y < 2 → eqb (min x y) 1 ≡ (eqb x 1 && eqb y 1)
    go zero zero h k = refl
    go zero (suc zero) h k = refl
    go zero (suc (suc y)) h k = absurd (omega arith)
    go (suc zero) zero h k = refl
    go (suc zero) (suc zero) h k = refl
    go (suc zero) (suc (suc y)) h k = absurd (omega arith)
    go (suc (suc x)) y h k = absurd (omega arith)

pub set-or : (a b p : ℕ) → is_set (bit_or a b) p ≡ (is_set a p || is_set b p)
set-or a b p = ap (λ (x : ℕ). eqb x 1) (bit-or a b p) ∙ go (bit a p) (bit b p) (bit-lt a p) (bit-lt b p)
  where
    go : (x y : ℕ) → x < 2 → y < 2 → eqb (max x y) 1 ≡ (eqb x 1 || eqb y 1)
    go zero zero h k = refl
    go zero (suc zero) h k = refl
    go zero (suc (suc y)) h k = absurd (omega arith)
    go (suc zero) zero h k = refl
    go (suc zero) (suc zero) h k = refl
    go (suc zero) (suc (suc y)) h k = absurd (omega arith)
    go (suc (suc x)) y h k = absurd (omega arith)

pub set-not : (a p : ℕ) → a < 2 ^ 64 → p < 64 → is_set (2 ^ 64 - 1 - a) p ≡ not (is_set a p)
set-not a p h l = ap (λ (x : ℕ). eqb x 1) (bit_not 64 a p h l) ∙ go (bit a p) (bit-lt a p)
  where
    go : (x : ℕ) → x < 2 → eqb (1 - x) 1 ≡ not (eqb x 1)
    go zero h = refl
    go (suc zero) h = refl
    go (suc (suc x)) h = absurd (omega arith)

pub set-zero : (p : ℕ) → is_set 0 p ≡ false
set-zero p = ap (λ (x : ℕ). eqb x 1) (bit-above 0 0 p (omega arith) (omega arith))

-- ---- a run of ones: `(MAX >> (64 - len)) << k`

ones_bit : (c p : ℕ) → c + p < 64 → bit ((2 ^ 64 - 1) / 2 ^ c) p ≡ 1
ones_bit c p h =
    sym (bit-add (2 ^ 64 - 1) c p) ∙ bit_not 64 0 (c + p) (pow_pos 64) h
    ∙ ap (λ (x : ℕ). 1 - x) (bit-above 0 0 (c + p) (omega arith) (omega arith))

ones_none : (c p : ℕ) → 64 ≤ c + p → bit ((2 ^ 64 - 1) / 2 ^ c) p ≡ 0
ones_none c p h = sym (bit-add (2 ^ 64 - 1) c p) ∙ bit-above (2 ^ 64 - 1) 64 (c + p) (omega (arith, pow_pos 64)) h

up_none : (x k p : ℕ) → p < k → bit (x * 2 ^ k) p ≡ 0
up_none x k p h =
    ap (λ (y : ℕ). bit y p) (omega arith) ∙ bit-cat k x 0 p h ∙ bit-above 0 0 p (omega arith) (omega arith)

pub set-run : (len k p : ℕ) → k + len ≤ 64 → p < 64 → is_set ((2 ^ 64 - 1) / 2 ^ (64 - len) * 2 ^ k % 2 ^ 64) p ≡ between k (k + len) p
set-run len k p h l =
    ap (λ (x : ℕ). eqb x 1) (bit-low ((2 ^ 64 - 1) / 2 ^ (64 - len) * 2 ^ k) 64 p l) ∙ elim (dec_le k p) [
      | yes m ↦ elim (dec_le (k + len) p) [
        | yes o ↦ ap (λ (x : ℕ). eqb x 1) (above m ∙ ones_none (64 - len) (p - k) (omega arith)) ∙ sym (ap₂ ◌&&◌ (le-leb k p m) (le-ltb p (k + len) o))
        | no o ↦ ap (λ (x : ℕ). eqb x 1) (above m ∙ ones_bit (64 - len) (p - k) (omega arith)) ∙ sym (ap₂ ◌&&◌ (le-leb k p m) (lt-ltb p (k + len) (omega arith)))
      ]
      | no m ↦ ap (λ (x : ℕ). eqb x 1) (up_none ((2 ^ 64 - 1) / 2 ^ (64 - len)) k p (omega arith)) ∙ sym (ap (λ (b : Bool). b && ltb p (k + len)) (lt-leb k p (omega arith)))
    ]
  where
    above : k ≤ p → bit ((2 ^ 64 - 1) / 2 ^ (64 - len) * 2 ^ k) p ≡ bit ((2 ^ 64 - 1) / 2 ^ (64 - len)) (p - k)
    above m = ap (bit ((2 ^ 64 - 1) / 2 ^ (64 - len) * 2 ^ k)) (omega arith) ∙ bit_up ((2 ^ 64 - 1) / 2 ^ (64 - len)) k (p - k)

-- ---- the first bit that is set, from bit k on: `trailing_zeros(word >> k)`

module _ (word k : ℕ) (h : word < 2 ^ 64) (l : k < 64) where
  rest-bit : (q : ℕ) → bit (word / 2 ^ k) q ≡ bit word (k + q)
  rest-bit q = sym (bit-add word k q)

  -- none is left
  pub none_left : word / 2 ^ k ≡ 0 → 64 ≡ first_in (is_set word) (64 - k) k
  none_left e =
      let n : k + (64 - k) ≡ 64 = omega arith in
      sym (first-none (is_set word) (64 - k) k (λ q m. ap (λ (x : ℕ). eqb x 1) (sym (rest-bit q) ∙ ap (λ (x : ℕ). bit x q) e ∙ bit-above 0 0 q (omega arith) (omega arith))) ∙ n)

  module _ (some : word / 2 ^ k ≡ 0 → ⊥) where
    abbrev zeros : ℕ
    zeros = count_trailing_zeros 64 (word / 2 ^ k)

    pub in-word : zeros < 64 - k
    in-word =
        let e : 64 - k + k ≡ 64 = omega arith in
        zeros-in (64 - k) 64 (word / 2 ^ k) (omega arith) (omega arith) (shr_lt (64 - k) k (subst (λ (x : ℕ). word < 2 ^ x) (sym e) h))

    pub found : k + zeros ≡ first_in (is_set word) (64 - k) k
    found =
        sym (first-skip (is_set word) zeros (64 - k) k (omega (arith, in-word)) (λ q m. ap (λ (x : ℕ). eqb x 1) (sym (rest-bit q) ∙ below-zeros 64 (word / 2 ^ k) q m))
        ∙ first-hit (is_set word) (64 - k - zeros) (k + zeros) (omega (arith, in-word)) (ap (λ (x : ℕ). eqb x 1) (sym (rest-bit zeros) ∙ at-zeros 64 (word / 2 ^ k) (omega (arith, in-word)))))
