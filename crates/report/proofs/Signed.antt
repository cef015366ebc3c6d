-- The signed average: what the code's signed steps come to, and that storing and reading are inverse to each other.
-- Assumes nothing.
use Prim.Native.Nat.{ℕ, zero, suc, ◌+◌, ◌-◌, ◌*◌, ◌/◌, ◌%◌, ◌^◌, ◌≤◌, ◌<◌}
use mathlib.Core.Path.{◌≡◌, refl, sym, ap, ◌∙◌, subst}
use mathlib.Core.Bool.{Bool, true, false}
use native.Mathlib.Omega.{arith}
use borrow.Author.Tests.{eq-eqb, ne_eqb, eqb-true, eqb-false, ltb-true}
use lib.Dec.{eqb, ltb}
use lib.IntN.{ℤ, pos, negsuc, suc_ℤ, pred_ℤ, neg_ℤ, ◌+ℤ◌, ◌-ℤ◌, +ℤ_one, -ℤ_one, +ℤ_idl, neg_ℤ-neg_ℤ}
use lib.Signed.{mag, lt_z}
use mir.Syntax.{w64}
use mir.Val.{SFits, to_z, of_z}
use mir.ValLaws.{to_z-of_z, to_z_pos}
use Rattle.wire.specs.Bytes.{pick}
use Rattle.wire.specs.Numbers.{limit}
use Rattle.report.specs.Average.{stored_of, average_of}

neg-fits : (k : ℕ) → k < 2 ^ 63 → SFits w64 (neg_ℤ (pos k))
neg-fits zero h = record { sfits = h }
neg-fits (suc k) h = record { sfits = omega arith }

suc-negsuc : (k : ℕ) → suc_ℤ (negsuc k) ≡ neg_ℤ (pos k)
suc-negsuc zero = refl
suc-negsuc (suc k) = refl

pred-neg : (k : ℕ) → pred_ℤ (neg_ℤ (pos k)) ≡ negsuc k
pred-neg zero = refl
pred-neg (suc k) = refl

-- the bits of a number that fits are read back as the number
again : (z y : ℤ) → SFits w64 y → z ≡ y → to_z w64 (of_z w64 z) ≡ y
again z y f e = ap (λ (x : ℤ). to_z w64 (of_z w64 x)) e ∙ to_z-of_z w64 y f

-- the code's n + 1, and its -z
abbrev pub up : ℤ → ℤ
up n = to_z w64 (of_z w64 n) +ℤ pos 1

abbrev pub minus : ℤ → ℤ
minus z = pos 0 -ℤ to_z w64 (of_z w64 z)

minus_is : (z y : ℤ) → SFits w64 y → z ≡ y → minus z ≡ neg_ℤ y
minus_is z y f e = ap (λ (x : ℤ). pos 0 -ℤ x) (again z y f e) ∙ +ℤ_idl (neg_ℤ y)

-- what storing a negative number comes to
pub record Negative (n : ℤ) : Type 0 where
  pub up_fits : SFits w64 (up n)
  pub minus-fits : SFits w64 (minus (up n))
  pub is : to_z w64 (of_z w64 (minus (up n))) ≡ pos (mag n)
  pub small : mag n < 2 ^ 63
  pub stored : mag n * 2 + 1 ≡ stored_of n

pub record Positive (n : ℤ) : Type 0 where
  pub is : to_z w64 (of_z w64 n) ≡ pos (mag n)
  pub small : mag n < 2 ^ 63
  pub stored : mag n * 2 ≡ stored_of n

pub negative : (n : ℤ) → SFits w64 n → lt_z (to_z w64 (of_z w64 n)) (pos 0) ≡ true → Negative n
negative (pos m) f e =
    let z : ltb m 0 ≡ true = ap (λ (x : ℤ). lt_z x (pos 0)) (sym (to_z-of_z w64 (pos m) f)) ∙ e in
    absurd (omega (arith, ltb-true m 0 z))
negative (negsuc k) f e =
    let u : up (negsuc k) ≡ neg_ℤ (pos k) = ap (λ (x : ℤ). x +ℤ pos 1) (to_z-of_z w64 (negsuc k) f) ∙ +ℤ_one (negsuc k) ∙ suc-negsuc k in
    let uf : SFits w64 (neg_ℤ (pos k)) = neg-fits k f.sfits in
    let m : minus (up (negsuc k)) ≡ pos k = minus_is (up (negsuc k)) (neg_ℤ (pos k)) uf u ∙ neg_ℤ-neg_ℤ (pos k) in
    let pf : SFits w64 (pos k) = record { sfits = f.sfits } in
    record {
      up_fits = subst (SFits w64) (sym u) uf;
      minus-fits = subst (SFits w64) (sym m) pf;
      is = again (minus (up (negsuc k))) (pos k) pf m;
      small = f.sfits;
      stored = omega arith;
    }

pub positive : (n : ℤ) → SFits w64 n → lt_z (to_z w64 (of_z w64 n)) (pos 0) ≡ false → Positive n
positive (pos m) f e = record { is = to_z-of_z w64 (pos m) f; small = f.sfits; stored = omega arith }
positive (negsuc k) f e =
    let z : true ≡ false = ap (λ (x : ℤ). lt_z x (pos 0)) (sym (to_z-of_z w64 (negsuc k) f)) ∙ e in
    let n : ◌≡◌ {A = ℕ} 0 1 = cc in
    absurd (omega arith)

-- what reading comes to, of a number v
module _ (v : ℕ) (h : v < 2 ^ 64) where
  half : v / 2 < 2 ^ 63
  half = omega arith

  pub half_is : to_z w64 (v / 2) ≡ pos (v / 2)
  half_is = to_z_pos w64 (v / 2) half

  less-is : pos 0 -ℤ to_z w64 (v / 2) ≡ neg_ℤ (pos (v / 2))
  less-is = ap (λ (x : ℤ). pos 0 -ℤ x) half_is ∙ +ℤ_idl (neg_ℤ (pos (v / 2)))

  pub less-fits : SFits w64 (pos 0 -ℤ to_z w64 (v / 2))
  less-fits = subst (SFits w64) (sym less-is) (neg-fits (v / 2) half)

  down_is : to_z w64 (of_z w64 (pos 0 -ℤ to_z w64 (v / 2))) -ℤ pos 1 ≡ negsuc (v / 2)
  down_is = ap (λ (x : ℤ). x -ℤ pos 1) (again (pos 0 -ℤ to_z w64 (v / 2)) (neg_ℤ (pos (v / 2))) (neg-fits (v / 2) half) less-is) ∙ -ℤ_one (neg_ℤ (pos (v / 2))) ∙ pred-neg (v / 2)

  odd-fits : SFits w64 (negsuc (v / 2))
  odd-fits = record { sfits = half }

  pub down_fits : SFits w64 (to_z w64 (of_z w64 (pos 0 -ℤ to_z w64 (v / 2))) -ℤ pos 1)
  down_fits = subst (SFits w64) (sym down_is) odd-fits

  pub even : v % 2 ≡ 0 → to_z w64 (v / 2) ≡ average_of v
  even e = rw (eq-eqb (v % 2) 0 e) half_is

  pub odd : (v % 2 ≡ 0 → ⊥) → to_z w64 (of_z w64 (to_z w64 (of_z w64 (pos 0 -ℤ to_z w64 (v / 2))) -ℤ pos 1)) ≡ average_of v
  odd e = rw (ne_eqb (v % 2) 0 e) (again (to_z w64 (of_z w64 (pos 0 -ℤ to_z w64 (v / 2))) -ℤ pos 1) (negsuc (v / 2)) odd-fits down_is)

-- ---- one way and back, and the other way and back

pub average-stored : (n : ℤ) → average_of (stored_of n) ≡ n
average-stored (pos n) =
    let e : 2 * n % 2 ≡ 0 = omega arith in
    let h : 2 * n / 2 ≡ n = omega arith in
    rw (eq-eqb (2 * n % 2) 0 e, h)
average-stored (negsuc m) =
    let e : (2 * suc m - 1) % 2 ≡ 1 = omega arith in
    let h : (2 * suc m - 1) / 2 ≡ m = omega arith in
    rw (e, h)

pub stored-average : (v : ℕ) → stored_of (average_of v) ≡ v
stored-average v = go (eqb (v % 2) 0) refl
  where
    go : (b : Bool) → eqb (v % 2) 0 ≡ b → stored_of (pick b (pos (v / 2)) (negsuc (v / 2))) ≡ v
    go true t = let e : v % 2 ≡ 0 = eqb-true (v % 2) 0 t in omega arith
    go false t = let e : v % 2 ≡ 0 → ⊥ = eqb-false (v % 2) 0 t in let l : v % 2 ≡ 1 = one (v % 2) e (omega arith) in omega arith
      where
        one : (r : ℕ) → (r ≡ 0 → ⊥) → r < 2 → r ≡ 1
        one zero f h = absurd (f refl)
        one (suc r) f h = omega arith

-- "for n from -2^61 to 2^61 - 1": exactly these are stored as numbers that can be written
pub stored-small : (n : ℤ) → mag n < 2 ^ 61 → stored_of n ≤ limit
stored-small (pos n) h = omega arith
stored-small (negsuc m) h = omega arith

pub small-stored : (n : ℤ) → stored_of n ≤ limit → mag n < 2 ^ 61
small-stored (pos n) h = omega arith
small-stored (negsuc m) h = omega arith
