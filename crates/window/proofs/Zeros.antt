-- What a count of trailing or leading zeros says of the bits, at every width. Assumes nothing.
use mathlib.Core.Path.{◌≡◌, refl, sym, ap, ◌∙◌}
use mathlib.Core.Bool.{Bool, true, false}
use mathlib.Core.Logic.{⊎_elim}
use Prim.Native.Nat.{ℕ, zero, suc, ◌+◌, ◌-◌, ◌*◌, ◌/◌, ◌%◌, ◌^◌, ◌≤◌, ◌<◌, suc-le-suc}
use native.Mathlib.Nat.{not-suc-le-zero, le_of_suc-le-suc, lt_of_not-le, zero-lt-suc, eq-zero-or-pos, add-zero, zero-mul, one-mul, mul-le-mul_right, mod-lt, mul-mod_left, pow-suc}
use native.Mathlib.Omega.{arith}
use borrow.Author.Tests.{eq-eqb, ne_eqb, eqb-true, eqb-false}
use lib.Count.{count_trailing_zeros, count_leading_zeros, under, trailing_of_zero, leading_length, leading_top, leading_of_zero}
use lib.Pow.{pow_pos, pow_mono, shr_lt, mod-pow-add}
use Rattle.window.specs.Words.{bit, other_than}
use Rattle.window.specs.Window.{is_set}
use Rattle.window.proofs.Bits.{bit-zero, bit-suc, bit-add, bit_not, bit-lt, bit-above, bit-low, bit_up, bit-top}

-- ---- from below: trailing zeros

-- the bits below the count are clear
pub below-zeros : (n x q : ℕ) → q < count_trailing_zeros n x → bit x q ≡ 0
unfolding count_trailing_zeros
below-zeros zero x q h = absurd (not-suc-le-zero h)
below-zeros (suc n) x q h = go (below-zeros n (x / 2)) (x % 2) refl q h
  where
    go : ((q : ℕ) → q < count_trailing_zeros n (x / 2) → bit (x / 2) q ≡ 0) → (d : ℕ) → x % 2 ≡ d → (q : ℕ) → q < under d (count_trailing_zeros n (x / 2)) → bit x q ≡ 0
    go rest zero e zero l = bit-zero x ∙ e
    go rest zero e (suc q) l = bit-suc x q ∙ rest q (le_of_suc-le-suc l)
    go rest (suc d) e q l = absurd (not-suc-le-zero l)

-- the bit at the count is set, where the count is not the width
pub at-zeros : (n x : ℕ) → count_trailing_zeros n x < n → bit x (count_trailing_zeros n x) ≡ 1
unfolding count_trailing_zeros
at-zeros zero x h = absurd (not-suc-le-zero h)
at-zeros (suc n) x h = go (at-zeros n (x / 2)) (x % 2) refl h
  where
    go : (count_trailing_zeros n (x / 2) < n → bit (x / 2) (count_trailing_zeros n (x / 2)) ≡ 1) → (d : ℕ) → x % 2 ≡ d → under d (count_trailing_zeros n (x / 2)) < suc n → bit x (under d (count_trailing_zeros n (x / 2))) ≡ 1
    go rest zero e l = bit-suc x (count_trailing_zeros n (x / 2)) ∙ rest (le_of_suc-le-suc l)
    go rest (suc d) e l = let z : x % 2 ≡ 1 = omega arith in bit-zero x ∙ z

-- a number below 2 ^ m that is not 0 has fewer than m of them
pub zeros-in : (m n x : ℕ) → m ≤ n → 0 < x → x < 2 ^ m → count_trailing_zeros n x < m
unfolding count_trailing_zeros
zeros-in zero n x l p h = absurd (omega arith)
zeros-in (suc m) zero x l p h = absurd (not-suc-le-zero l)
zeros-in (suc m) (suc n) x l p h = go (zeros-in m n (x / 2) (le_of_suc-le-suc l)) (x % 2) refl
  where
    go : (0 < x / 2 → x / 2 < 2 ^ m → count_trailing_zeros n (x / 2) < m) → (d : ℕ) → x % 2 ≡ d → under d (count_trailing_zeros n (x / 2)) < suc m
    go rest zero e = suc-le-suc (rest (omega arith) (omega (arith, pow-suc 2 m)))
    go rest (suc d) e = zero-lt-suc m

-- of an inverted number, from place k on: `trailing_zeros(!a >> k)`
module _ (n a k : ℕ) (h : a < 2 ^ n) where
  inverted : (q : ℕ) → k + q < n → bit (((2 ^ n - 1) - a) / 2 ^ k) q ≡ 1 - bit a (k + q)
  inverted q l = sym (bit-add ((2 ^ n - 1) - a) k q) ∙ bit_not n a (k + q) h l

  pub run-set : (q : ℕ) → k + q < n → q < count_trailing_zeros n (((2 ^ n - 1) - a) / 2 ^ k) → bit a (k + q) ≡ 1
  run-set q l t =
      let z : 1 - bit a (k + q) ≡ 0 = sym (inverted q l) ∙ below-zeros n _ q t in omega (arith, bit-lt a (k + q))

  pub run_end : k + count_trailing_zeros n (((2 ^ n - 1) - a) / 2 ^ k) < n → bit a (k + count_trailing_zeros n (((2 ^ n - 1) - a) / 2 ^ k)) ≡ 0
  run_end l =
      let t = count_trailing_zeros n (((2 ^ n - 1) - a) / 2 ^ k) in
      let z : 1 - bit a (k + t) ≡ 1 = sym (inverted t l) ∙ at-zeros n _ (omega arith) in omega arith

  -- what is left of it is 0 exactly where no bit from place k on is clear
  pub rest_some : k ≤ n → (((2 ^ n - 1) - a) / 2 ^ k ≡ 0 → ⊥) → count_trailing_zeros n (((2 ^ n - 1) - a) / 2 ^ k) < n - k
  rest_some l f =
      let e : 2 ^ (n - k + k) ≡ 2 ^ n = ap (λ (m : ℕ). 2 ^ m) (omega arith) in
      zeros-in (n - k) n _ (omega arith) (⊎_elim (λ z. absurd (f z)) (λ p. p) (eq-zero-or-pos (((2 ^ n - 1) - a) / 2 ^ k))) (shr_lt (n - k) k (omega arith))

  pub rest-none : ((2 ^ n - 1) - a) / 2 ^ k ≡ 0 → n - k ≤ count_trailing_zeros n (((2 ^ n - 1) - a) / 2 ^ k)
  rest-none e = let z : count_trailing_zeros n (((2 ^ n - 1) - a) / 2 ^ k) ≡ n = ap (count_trailing_zeros n) e ∙ trailing_of_zero n in omega arith

-- ---- from above: leading zeros

-- the bits above the count are clear
above-zeros : (n x q : ℕ) → x < 2 ^ n → q < count_leading_zeros n x → bit x (n - 1 - q) ≡ 0
above-zeros n x q h l = let m = leading_length n x h in bit-above x m.0 (n - 1 - q) m.2 (omega (arith, m.1))

-- the bit below them is set, where the count is not the width
under-zeros : (n x : ℕ) → x < 2 ^ n → count_leading_zeros n x < n → bit x (n - 1 - count_leading_zeros n x) ≡ 1
under-zeros n x h l = ⊎_elim none some (eq-zero-or-pos x)
  where
    none : x ≡ 0 → bit x (n - 1 - count_leading_zeros n x) ≡ 1
    none e = let z : count_leading_zeros n x ≡ n = ap (count_leading_zeros n) e ∙ leading_of_zero n in absurd (omega arith)

    some : 0 < x → bit x (n - 1 - count_leading_zeros n x) ≡ 1
    some p =
        let t = leading_top n x p h in
        let e : n - 1 - count_leading_zeros n x ≡ t.0 = omega (arith, t.1) in ap (bit x) e ∙ bit-top t.0 x t.2 t.3

-- a 0 or a 1 of the word that tells where the mark b is not
same-mark : (b : Bool) (x j : ℕ) → x < 2 ^ 64 → j < 64 → bit (other_than b x) j ≡ 0 → is_set x j ≡ b
same-mark true x j h l e = let z : 1 - bit x j ≡ 0 = sym (bit_not 64 x j h l) ∙ e in eq-eqb (bit x j) 1 (omega (arith, bit-lt x j))
same-mark false x j h l e = ne_eqb (bit x j) 1 (λ f. omega arith)

other-mark : (b : Bool) (x j : ℕ) → x < 2 ^ 64 → j < 64 → bit (other_than b x) j ≡ 1 → is_set x j ≡ b → ⊥
other-mark true x j h l e f =
    let z : 1 - bit x j ≡ 1 = sym (bit_not 64 x j h l) ∙ e in
    let o : bit x j ≡ 1 = eqb-true (bit x j) 1 f in omega arith
other-mark false x j h l e f = eqb-false (bit x j) 1 f e

-- `leading_zeros(other << (63 - k))`: how many places from k down have the mark b
abbrev pub run_in : Bool → ℕ → ℕ → ℕ
run_in b x k = count_leading_zeros 64 ((other_than b x * 2 ^ (63 - k)) % 2 ^ 64)

module _ (b : Bool) (x k : ℕ) (h : x < 2 ^ 64) (i : k < 64) where
  shown : (q : ℕ) → q ≤ k → bit ((other_than b x * 2 ^ (63 - k)) % 2 ^ 64) (63 - q) ≡ bit (other_than b x) (k - q)
  shown q l =
      let e : 63 - q ≡ 63 - k + (k - q) = omega arith in
      bit-low (other_than b x * 2 ^ (63 - k)) 64 (63 - q) (omega arith) ∙ ap (bit (other_than b x * 2 ^ (63 - k))) e
      ∙ bit_up (other_than b x) (63 - k) (k - q)

  pub run-has : (q : ℕ) → q ≤ k → q < run_in b x k → is_set x (k - q) ≡ b
  run-has q l r = same-mark b x (k - q) h (omega arith) (sym (shown q l) ∙ above-zeros 64 _ q (mod-lt _ (pow_pos 64)) r)

  pub run_ends : run_in b x k ≤ k → is_set x (k - run_in b x k) ≡ b → ⊥
  run_ends l =
      let t = run_in b x k in
      other-mark b x (k - t) h (omega arith) (sym (shown t l) ∙ under-zeros 64 _ (mod-lt _ (pow_pos 64)) (omega arith))

  -- what is left of the word is 0 exactly where no place from k down has the other mark
  pub some-other : ((other_than b x * 2 ^ (63 - k)) % 2 ^ 64 ≡ 0 → ⊥) → run_in b x k ≤ k
  some-other f =
      let y : ℕ = other_than b x * 2 ^ (63 - k) in
      let m : ℕ = y / 2 ^ (63 - k) % 2 ^ (k + 1) in
      let p : k + 1 + (63 - k) ≡ 64 = omega arith in
      let e : y % 2 ^ 64 ≡ m * 2 ^ (63 - k)
      = ap (λ (n : ℕ). y % 2 ^ n) (sym p) ∙ mod-pow-add y (k + 1) (63 - k)
      ∙ ap (λ (n : ℕ). m * 2 ^ (63 - k) + n) (mul-mod_left (other_than b x) (2 ^ (63 - k))) ∙ add-zero (m * 2 ^ (63 - k)) in
      let some : 0 < m = ⊎_elim (λ z. absurd (f (e ∙ ap (λ (n : ℕ). n * 2 ^ (63 - k)) z ∙ zero-mul (2 ^ (63 - k))))) (λ l. l) (eq-zero-or-pos m) in
      let least : 1 * 2 ^ (63 - k) ≤ m * 2 ^ (63 - k) = mul-le-mul_right (2 ^ (63 - k)) some in
      let t = leading_top 64 (y % 2 ^ 64) (⊎_elim (λ z. absurd (f z)) (λ l. l) (eq-zero-or-pos (y % 2 ^ 64))) (mod-lt y (pow_pos 64)) in
      let high : 63 - k < suc t.0
      = lt_of_not-le (λ (g : suc t.0 ≤ 63 - k). let u = pow_mono g in omega (arith, t.3, least, e, one-mul (2 ^ (63 - k)))) in
      omega (arith, t.1)

  pub no_other : (other_than b x * 2 ^ (63 - k)) % 2 ^ 64 ≡ 0 → k < run_in b x k
  no_other e = let z : run_in b x k ≡ 64 = ap (count_leading_zeros 64) e ∙ leading_of_zero 64 in omega arith
