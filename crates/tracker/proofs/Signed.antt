-- The sign of an average: what the code's signed step comes to.
-- Assumes nothing.
use Prim.Native.Nat.{ℕ, zero, suc, ◌^◌, ◌<◌}
use mathlib.Core.Path.{◌≡◌, ap, ◌∙◌}
use native.Mathlib.Omega.{arith}
use lib.IntN.{ℤ, pos, neg_ℤ, ◌-ℤ◌, +ℤ_idl}
use mir.Syntax.{w64}
use mir.Val.{SFits, to_z, of_z}
use mir.ValLaws.{to_z-of_z, to_z_pos}

-- ---- the code's -n

module _ (n : ℕ) (h : n < 2 ^ 63) where
  neg-fits : SFits w64 (neg_ℤ (pos n))
  neg-fits = go n h
    where
      go : (k : ℕ) → k < 2 ^ 63 → SFits w64 (neg_ℤ (pos k))
      go zero l = record { sfits = l }
      go (suc k) l = record { sfits = omega arith }

  pub size_is : to_z w64 n ≡ pos n
  size_is = to_z_pos w64 n h

  minus_is : pos 0 -ℤ to_z w64 n ≡ neg_ℤ (pos n)
  minus_is = ap (λ (x : ℤ). pos 0 -ℤ x) size_is ∙ +ℤ_idl (neg_ℤ (pos n))

  pub minus-read : to_z w64 (of_z w64 (pos 0 -ℤ to_z w64 n)) ≡ neg_ℤ (pos n)
  minus-read = ap (λ (x : ℤ). to_z w64 (of_z w64 x)) minus_is ∙ to_z-of_z w64 (neg_ℤ (pos n)) neg-fits
