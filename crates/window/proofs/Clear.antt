-- The search for the first clear bit: what it passes over, and where it stops. Assumes nothing.
use mathlib.Core.Path.{◌≡◌, sym, ap, ap₂, ◌∙◌}
use mathlib.Core.List.{List}
use Prim.Native.Nat.{ℕ, zero, suc, ◌+◌, ◌-◌, ◌*◌, ◌/◌, ◌%◌, ◌^◌, ◌≤◌, ◌<◌}
use native.Mathlib.Nat.{not-suc-le-zero, sub-zero, zero-sub, suc-sub-suc, add-zero, add-suc, suc-add}
use native.Mathlib.Omega.{arith}
use lib.Count.{count_trailing_zeros}
use lib.ListN.{get_or}
use Rattle.window.specs.Words.{bit, number_of}
use Rattle.window.specs.Window.{first_clear}
use Rattle.std.specs.Prelude.{Some, None}
use Rattle.window.proofs.Words.{number_bit}
use Rattle.window.proofs.Sixteen.{Sixteen}
use Rattle.window.proofs.Zeros.{run-set, run_end, rest_some, rest-none}

-- a clear bit is found
pub hit : (n p w : ℕ) → zero < n → bit w p ≡ 0 → first_clear n p w ≡ Some p
unfolding first_clear
hit zero p w h e = absurd (not-suc-le-zero h)
hit (suc n) p w h e = rw (e, first_clear)

-- a set bit is passed over
pub pass : (n p w : ℕ) → bit w p ≡ 1 → first_clear (suc n) p w ≡ first_clear n (suc p) w
unfolding first_clear
pass n p w e = rw (e, first_clear)

-- no place is left
pub stop : (n p w : ℕ) → n ≡ 0 → first_clear n p w ≡ None
unfolding first_clear
stop n p w e = ap (λ (m : ℕ). first_clear m p w) e

-- set bits are passed over
pub skip : (n t p w : ℕ) → ((q : ℕ) → q < t → bit w (p + q) ≡ 1) → first_clear n p w ≡ first_clear (n - t) (p + t) w
unfolding first_clear
skip zero t p w h = sym (stop (0 - t) (p + t) w (zero-sub t))
skip (suc n) zero p w h = sym (ap₂ (λ (m q : ℕ). first_clear m q w) (sub-zero (suc n)) (add-zero p))
skip (suc n) (suc t) p w h =
    pass n p w (ap (bit w) (sym (add-zero p)) ∙ h 0 (omega arith))
    ∙ skip n t (suc p) w (λ q l. ap (bit w) (suc-add p q ∙ sym (add-suc p q)) ∙ h (suc q) (omega arith))
    ∙ sym (ap₂ (λ (m q : ℕ). first_clear m q w) (suc-sub-suc n t) (add-suc p t ∙ sym (suc-add p t)))

-- ---- in one word of sixteen, as the code looks for it

module _ (ws : List ℕ) (h : Sixteen ws) (p : ℕ) where
  -- `trailing_zeros(!word >> k)` of the word that holds place p
  abbrev pub zeros_at : ℕ
  zeros_at = count_trailing_zeros 64 (((2 ^ 64 - 1) - get_or ws (p / 64) 0) / 2 ^ (p % 64))

  there : (q : ℕ) → p % 64 + q < 64 → bit (number_of ws) (p + q) ≡ bit (get_or ws (p / 64) 0) (p % 64 + q)
  there q l =
      let e : p + q ≡ 64 * (p / 64) + (p % 64 + q) = omega arith in
      ap (bit (number_of ws)) e ∙ number_bit ws h.words (p / 64) (p % 64 + q) l

  passed : (q : ℕ) → q < 64 - p % 64 → q < zeros_at → bit (number_of ws) (p + q) ≡ 1
  passed q l t =
      let i : p % 64 + q < 64 = omega arith in
      there q i ∙ run-set 64 (get_or ws (p / 64) 0) (p % 64) (h.words (p / 64)) q i t

  found : zeros_at < 64 - p % 64 → bit (number_of ws) (p + zeros_at) ≡ 0
  found l =
      let i : p % 64 + zeros_at < 64 = omega arith in
      there zeros_at i ∙ run_end 64 (get_or ws (p / 64) 0) (p % 64) (h.words (p / 64)) i

  -- the word has a clear bit from p on, or none, as what is left of its inverse tells
  pub some_left : (((2 ^ 64 - 1) - get_or ws (p / 64) 0) / 2 ^ (p % 64) ≡ 0 → ⊥) → zeros_at < 64 - p % 64
  some_left f = rest_some 64 (get_or ws (p / 64) 0) (p % 64) (h.words (p / 64)) (omega arith) f

  pub none_left : ((2 ^ 64 - 1) - get_or ws (p / 64) 0) / 2 ^ (p % 64) ≡ 0 → 64 - p % 64 ≤ zeros_at
  none_left e = rest-none 64 (get_or ws (p / 64) 0) (p % 64) (h.words (p / 64)) e

  -- the word has a clear bit among the n places
  pub word-hit : (n : ℕ) → zeros_at < 64 - p % 64 → zeros_at < n → first_clear n p (number_of ws) ≡ Some (p + zeros_at)
  word-hit n l i =
      skip n zeros_at p (number_of ws) (λ q j. passed q (omega arith) j) ∙ hit (n - zeros_at) (p + zeros_at) (number_of ws) (omega arith) (found l)

  -- it has one, but only past them
  pub word-past : (n : ℕ) → zeros_at < 64 - p % 64 → n ≤ zeros_at → first_clear n p (number_of ws) ≡ None
  word-past n l i =
      let z : n - zeros_at ≡ 0 = omega arith in
      skip n zeros_at p (number_of ws) (λ q j. passed q (omega arith) j) ∙ stop (n - zeros_at) (p + zeros_at) (number_of ws) z

  -- it has none
  pub word-skip : (n : ℕ) → 64 - p % 64 ≤ zeros_at → first_clear n p (number_of ws) ≡ first_clear (n - (64 - p % 64)) (p + (64 - p % 64)) (number_of ws)
  word-skip n l = skip n (64 - p % 64) p (number_of ws) (λ q j. passed q j (omega arith))
