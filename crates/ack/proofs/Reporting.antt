-- What is reported, the marks from the floor up: it is consistent where what was received is.
-- Assumes nothing.
use Prim.Native.Nat.{ℕ, ◌+◌, ◌-◌, ◌≤◌, ◌<◌}
use mathlib.Core.Path.{◌≡◌, sym, ap, ap₂, ◌∙◌}
use mathlib.Core.Bool.{Bool, true, false, ◌&&◌, ◌||◌}
use native.Mathlib.Nat.{max-le, le-max_right}
use native.Mathlib.Omega.{arith}
use borrow.Author.Tests.{le-leb, lt-leb, leb-true, ne_eqb}
use lib.Dec.{leb, eqb}
use Rattle.wire.specs.Numbers.{limit}
use Rattle.wire.proofs.Lengths.{split}
use Rattle.window.specs.Window.{value_of, is_set, none_below, cleared_below}
use Rattle.window.proofs.Laws.{made-mark, none-says, none_is}
use Rattle.window.proofs.Cleared.{cleared-low, cleared-high}
use Rattle.seen.specs.declared.Seen.{Seen}
use Rattle.seen.specs.Received.{floor, floor_of, place_of, received, floor_fits, numbers_obey, marks_consistent, seen_consistent, reported}
use Rattle.ack.proofs.Ranges.{Begun, begun, both}

-- the place from which on marks are reported
abbrev pub bottom : Seen → ℕ
bottom s = place_of s.end (floor s)

-- the place of a number up to the end, from how far below the end it lies
pub place-left : {end n z m : ℕ} → z ≡ n → n ≤ end → m ≡ 1024 - (end - z) → m ≡ place_of end n
place-left e h f = omega (arith, e, h, f)

-- "the floor is at most L, and 0 while nothing was received"
pub floor-at-most : (s : Seen) → seen_consistent s ≡ true → floor s ≤ s.end - 1
unfolding seen_consistent
floor-at-most s e =
    let a = both (numbers_obey s) (marks_consistent s) e in
    let b = both (leb s.end (limit + 1)) (leb s.arrived.0 limit && floor_fits s) a.0 in
    let c = both (leb s.arrived.0 limit) (floor_fits s) b.1 in
    max-le (leb-true s.confirmed (s.end - 1) c.1) (omega arith)

pub floor-below : (s : Seen) → seen_consistent s ≡ true → 0 < s.end → floor s < s.end
floor-below s e h = let f = floor-at-most s e in omega arith

-- a place of what is reported, below the floor and from it on
reported-low : (s : Seen) (q : ℕ) → q < 1024 → q < bottom s → is_set (value_of (reported s).window) q ≡ false
reported-low s q l h = made-mark (cleared_below (bottom s) (value_of s.window)) q l ∙ cleared-low (bottom s) (value_of s.window) q h

reported-high : (s : Seen) (q : ℕ) → q < 1024 → bottom s ≤ q → is_set (value_of (reported s).window) q ≡ is_set (value_of s.window) q
reported-high s q l h = made-mark (cleared_below (bottom s) (value_of s.window)) q l ∙ cleared-high (bottom s) (value_of s.window) q h

-- a number of the window is reported exactly when it was received and is not below the floor
pub received-reported : (s : Seen) (n : ℕ) → floor_of s.end ≤ n → n < s.end → received (reported s) n ≡ leb (floor s) n && received s n
received-reported s n l h =
    split (floor s) n
    (λ k. reported-high s (place_of s.end n) (omega arith) (omega arith) ∙ ap (λ (b : Bool). b && received s n) (sym (le-leb (floor s) n k)))
    (λ k.
    reported-low s (place_of s.end n) (omega arith) (omega (arith, le-max_right s.confirmed (floor_of s.end)))
    ∙ ap (λ (b : Bool). b && received s n) (sym (lt-leb (floor s) n k)))

-- it has begun, and is consistent
module _ (s : Seen) (e : seen_consistent s ≡ true) (h : 0 < s.end) where
  none-reported : none_below (1024 - s.end) (value_of (reported s).window) ≡ true
  none-reported =
      none_is (1024 - s.end) (value_of (reported s).window)
      (λ q l. split (bottom s) q
      (λ k. reported-high s q (omega arith) k ∙ none-says (1024 - s.end) (value_of s.window) (begun s e h).none q l)
      (λ k. reported-low s q (omega arith) k))

  own-reported : is_set (value_of (reported s).window) 1023 ≡ true
  own-reported = let f = floor-below s e h in reported-high s 1023 (omega arith) (omega arith) ∙ (begun s e h).last

  pub begun-reported : Begun (reported s)
  begun-reported = let b = begun s e h in record { some = b.some; small = b.small; none = none-reported; last = own-reported }

  pub consistent-reported : seen_consistent (reported s) ≡ true
  unfolding seen_consistent
  consistent-reported =
      let n : eqb s.end 0 ≡ false = ne_eqb s.end 0 (λ z. omega arith) in
      let a : numbers_obey s ≡ true = (both (numbers_obey s) (marks_consistent s) e).0 in
      ap₂ (λ (a b : Bool). a && b) a (ap₂ (λ (b c : Bool). b && (eqb s.end 0 || c)) none-reported own-reported ∙ ap (λ (b : Bool). b || true) n)
