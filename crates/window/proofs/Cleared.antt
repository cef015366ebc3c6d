-- The marks below a place cleared, on the number W. Assumes nothing.
use mathlib.Core.Path.{◌≡◌, sym, ap, ◌∙◌}
use mathlib.Core.Bool.{false}
use Prim.Native.Nat.{ℕ, ◌+◌, ◌-◌, ◌*◌, ◌/◌, ◌^◌, ◌≤◌, ◌<◌}
use native.Mathlib.Nat.{add-zero}
use native.Mathlib.Omega.{arith}
use lib.Dec.{eqb}
use lib.Pow.{split}
use Rattle.window.specs.Words.{bit}
use Rattle.window.specs.Window.{is_set, cleared_below}
use Rattle.window.proofs.Bits.{bit-add, bit-cat, bit_up}
use Rattle.window.proofs.Laws.{zero-mark}

module _ (p w : ℕ) where
  -- no place below p is marked
  pub cleared-low : (q : ℕ) → q < p → is_set (cleared_below p w) q ≡ false
  cleared-low q l = ap (λ (v : ℕ). is_set v q) (sym (add-zero (w / 2 ^ p * 2 ^ p))) ∙ ap (λ (x : ℕ). eqb x 1) (bit-cat p (w / 2 ^ p) 0 q l) ∙ zero-mark q

  -- every other place is as it was
  pub cleared-high : (q : ℕ) → p ≤ q → is_set (cleared_below p w) q ≡ is_set w q
  cleared-high q l =
      let e : p + (q - p) ≡ q = omega arith in
      ap (λ (x : ℕ). eqb x 1)
      (ap (bit (cleared_below p w)) (sym e) ∙ bit_up (w / 2 ^ p) p (q - p) ∙ sym (bit-add w p (q - p)) ∙ ap (bit w) e)

  pub cleared-le : cleared_below p w ≤ w
  cleared-le = omega (arith, split w p)
