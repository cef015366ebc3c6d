-- Order, by the missing numbers: when the first of them is far enough below U, and which rule a threshold gives.
-- Assumes nothing.
use Prim.Native.Nat.{ℕ, zero, suc, ◌+◌, ◌-◌, ◌≤◌, ◌<◌, min}
use mathlib.Core.Path.{◌≡◌, refl, sym, ap, ◌∙◌}
use mathlib.Core.Bool.{Bool, true, false, ◌||◌}
use native.Mathlib.Nat.{min-eq_left, min-eq_right}
use native.Mathlib.Omega.{arith}
use borrow.Author.Tests.{le-leb, lt-leb}
use lib.Dec.{leb, ltb}
use Rattle.std.specs.Prelude.{Option, Some, None}
use Rattle.wire.proofs.Lengths.{split}
use Rattle.seen.proofs.Missing.{place-least, none_between}
use Rattle.seen.specs.declared.Seen.{Seen}
use Rattle.seen.specs.Received.{first_missing, is_any}
use Rattle.receiver.specs.Packet.{out_of_order, reaches, gap_reached, order}

-- two comparisons that say the same
pub leb-same : (a b c d : ℕ) → (a ≤ b → c ≤ d) → (c ≤ d → a ≤ b) → leb a b ≡ leb c d
leb-same a b c d f g =
    split a b
    (λ h. le-leb a b h ∙ sym (le-leb c d (f h)))
    (λ h. lt-leb a b h ∙ sym (lt-leb c d (split c d (λ l. omega (arith, g l)) (λ l. l))))

-- so up to H only the number itself is compared
pub not_beyond : (s : Seen) (n highest : ℕ) → n ≤ highest → ltb (n + 1) highest ≡ out_of_order s n highest
unfolding out_of_order
not_beyond s n highest h = alone (ltb (n + 1) highest) ∙ ap (λ (m : Option ℕ). ltb (n + 1) highest || is_any m) (none_between s highest n h)
  where
    alone : (b : Bool) → b ≡ (b || false)
    alone true = refl
    alone false = refl

module _ (s : Seen) (reach acknowledged end : ℕ) where
  pub gap_at : (place : ℕ) → 0 < end → Some place ≡ first_missing s (acknowledged - reach) (end - 1)
      → leb (place + s.end + reach) (end + 1023) ≡ gap_reached s reach acknowledged end
  unfolding gap_reached
  gap_at place h e =
      let l : 1024 ≤ place + s.end = place-least s (acknowledged - reach) (end - 1) place (sym e) in
      leb-same (place + s.end + reach) (end + 1023) (place + s.end - 1024 + reach) (end - 1) (λ k. omega arith) (λ k. omega arith)
      ∙ ap (reaches s reach end) e

  pub gap-none : None ≡ first_missing s (acknowledged - reach) (end - 1) → false ≡ gap_reached s reach acknowledged end
  unfolding gap_reached
  gap-none e = ap (reaches s reach end) e

-- from 2 up, with the reach that R gives
pub order-from-two : (s : Seen) (r n highest acknowledged end : ℕ) → 2 ≤ r → gap_reached s (min r 1023) acknowledged end ≡ order s r n highest acknowledged end
unfolding order
order-from-two s zero n highest acknowledged end h = absurd (omega arith)
order-from-two s (suc zero) n highest acknowledged end h = absurd (omega arith)
order-from-two s (suc (suc r)) n highest acknowledged end h = refl

pub order-low : (s : Seen) (r n highest acknowledged end : ℕ) → 2 ≤ r → r ≤ 1023 → gap_reached s r acknowledged end ≡ order s r n highest acknowledged end
order-low s r n highest acknowledged end h l =
    ap (λ (k : ℕ). gap_reached s k acknowledged end) (sym (min-eq_left l)) ∙ order-from-two s r n highest acknowledged end h

pub order-high : (s : Seen) (r n highest acknowledged end : ℕ) → 1023 < r → gap_reached s 1023 acknowledged end ≡ order s r n highest acknowledged end
order-high s r n highest acknowledged end l =
    ap (λ (k : ℕ). gap_reached s k acknowledged end) (sym (min-eq_right (omega arith))) ∙ order-from-two s r n highest acknowledged end (omega arith)
