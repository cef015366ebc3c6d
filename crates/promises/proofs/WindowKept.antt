-- What "Consistent" says of the window stays so when a number is accepted: L's own place is marked, and none below number 0.
-- Assumes nothing.
use Prim.Native.Nat.{ℕ, ◌+◌, ◌-◌, ◌/◌, ◌^◌, ◌≤◌, ◌<◌}
use mathlib.Core.Path.{◌≡◌, ap, ◌∙◌}
use mathlib.Core.Bool.{true, false}
use native.Mathlib.Omega.{arith}
use borrow.Author.Tests.{lt-ltb, le-ltb}
use Rattle.wire.proofs.Lengths.{split}
use Rattle.window.specs.Window.{value_of, window_of, is_set, with_bit}
use Rattle.window.proofs.Laws.{made-mark, mark-there, mark-elsewhere, moved-mark}
use Rattle.seen.specs.declared.Micros.{Micros}
use Rattle.seen.specs.declared.Seen.{Seen}
use Rattle.seen.specs.Received.{place_of, seen_after, mark_at, move_on}
use Rattle.promises.proofs.Truth.{by-same}

-- what "Consistent" says of the window
pub record Marks (s : Seen) : Type 0 where
  pub own : 0 < s.end → is_set (value_of s.window) 1023 ≡ true
  pub below : (place : ℕ) → place < 1024 - s.end → is_set (value_of s.window) place ≡ false

-- a number of the window marked
within-marks : (s : Seen) (n : ℕ) → n < s.end → Marks s → Marks (record { window = mark_at s.window (place_of s.end n); end = s.end; arrived = s.arrived; confirmed = s.confirmed })
within-marks s n l k =
    let w : ℕ = value_of s.window in
    let p : ℕ = place_of s.end n in record {
      own = λ h. made-mark (with_bit w p) 1023 (omega arith) ∙ by_place w p 1023 (k.own h);
      below = λ q h. made-mark (with_bit w p) q (omega arith) ∙ mark-elsewhere w p q (λ e. omega arith) ∙ k.below q h;
    }
  where
    by_place : (w p q : ℕ) → is_set w q ≡ true → is_set (with_bit w p) q ≡ true
    by_place w p q e = by-same q p (λ i. ap (is_set (with_bit w p)) i ∙ mark-there w p) (λ i. mark-elsewhere w p q i ∙ e)

-- a number above L: the places move, and the last is marked
above-marks : (s : Seen) (n : ℕ) (time : Micros) → s.end ≤ n → Marks s → Marks (record { window = mark_at (move_on s.window (n + 1 - s.end)) 1023; end = n + 1; arrived = time; confirmed = s.confirmed })
above-marks s n time l k =
    let w : ℕ = value_of s.window in
    let d : ℕ = n + 1 - s.end in
    let v : ℕ = value_of (window_of (w / 2 ^ d)) in record {
      own = λ h. made-mark (with_bit v 1023) 1023 (omega arith) ∙ mark-there v 1023;
      below = λ q h.
          made-mark (with_bit v 1023) q (omega arith) ∙ mark-elsewhere v 1023 q (λ e. omega arith) ∙ made-mark (w / 2 ^ d) q (omega arith)
          ∙ moved-mark w d q ∙ k.below (q + d) (omega arith);
    }

pub seen-marks : (s : Seen) (n : ℕ) (time : Micros) → Marks s → Marks (seen_after s n time)
unfolding seen_after
seen-marks s n time k =
    split s.end n
    (λ h. rw (le-ltb n s.end h) (above-marks s n time h k))
    (λ h. rw (lt-ltb n s.end h) (within-marks s n h k))
