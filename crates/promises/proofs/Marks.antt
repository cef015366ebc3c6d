-- The window that accepted packets tell: place by place it has the mark of its number, before and after one more packet; two windows with the same marks are equal.
-- Assumes nothing.
use Prim.Native.Nat.{ℕ, zero, suc, ◌+◌, ◌-◌, ◌/◌, ◌^◌, ◌≤◌, ◌<◌}
use mathlib.Core.Path.{◌≡◌, refl, sym, ap, ap₂, ◌∙◌}
use mathlib.Core.Bool.{Bool, true, false, ◌&&◌}
use mathlib.Core.List.{List, [], ◌∷◌}
use native.Mathlib.Nat.{max-eq_left, max-eq_right, le-max_right, le_trans, lt_of_le_of_lt, lt_of_lt_of_le}
use native.Mathlib.Omega.{arith}
use borrow.Author.Tests.{le-leb, lt-leb, lt-ltb, le-ltb, eq-eqb, ne_eqb}
use lib.Dec.{leb}
use lib.Pow.{pow_mono, pow_pos, shr_le}
use Rattle.wire.specs.Bytes.{pick}
use Rattle.wire.proofs.Lengths.{split}
use Rattle.window.specs.Window.{value_of, window_of, is_set, with_bit}
use Rattle.window.proofs.Laws.{number-kept, mark-there, mark-elsewhere, mark-below, moved-mark, high-mark, same-marks, zero-mark}
use Rattle.seen.specs.declared.Seen.{Seen}
use Rattle.seen.specs.Received.{floor_of, floor, place_of, seen_after}
use Rattle.promises.specs.Accepted.{Packet}
use Rattle.promises.specs.Told.{largest, among, arrival_of, is_marked, marks}
use Rattle.promises.proofs.Truth.{by-same}
use Rattle.promises.proofs.Packets.{none_above}

-- ---- the number with given marks

pub marks-below : (test : ℕ → Bool) (k : ℕ) → marks test k < 2 ^ k
unfolding marks
marks-below test zero = pow_pos 0
marks-below test (suc k) = go (lt_of_lt_of_le (marks-below test k) (pow_mono (omega arith))) (test k)
  where
    go : marks test k < 2 ^ suc k → (b : Bool) → pick b (with_bit (marks test k) k) (marks test k) < 2 ^ suc k
    go h true = mark-below (suc k) (marks test k) k h (omega arith)
    go h false = h

pub marks-at : (test : ℕ → Bool) (k q : ℕ) → q < k → is_set (marks test k) q ≡ test q
unfolding marks
marks-at test zero q l = absurd (omega arith)
marks-at test (suc k) q l = by-same q k (λ e. here e (test k) refl) (λ e. there e (marks-at test k q (omega arith)) (test k))
  where
    here : q ≡ k → (b : Bool) → test k ≡ b → is_set (pick b (with_bit (marks test k) k) (marks test k)) q ≡ test q
    here e true t = ap (is_set (with_bit (marks test k) k)) e ∙ mark-there (marks test k) k ∙ sym t ∙ ap test (sym e)
    here e false t = ap (is_set (marks test k)) e ∙ high-mark (marks test k) k k (marks-below test k) (omega arith) ∙ sym t ∙ ap test (sym e)

    there : (q ≡ k → ⊥) → is_set (marks test k) q ≡ test q → (b : Bool) → is_set (pick b (with_bit (marks test k) k) (marks test k)) q ≡ test q
    there e h true = mark-elsewhere (marks test k) k q e ∙ h
    there e h false = h

-- ---- the marks of packets

at-number : (ps : List Packet) (q m : ℕ) → q + largest ps ≡ m + 1024 → is_marked ps q ≡ among ps m
unfolding is_marked
at-number ps q m e =
    let z : q + largest ps - 1024 ≡ m = omega arith in
    let t : leb 1024 (q + largest ps) ≡ true = le-leb 1024 (q + largest ps) (omega arith) in
    ap₂ (λ (b : Bool) (k : ℕ). b && among ps k) t z

below-zero : (ps : List Packet) (q : ℕ) → q + largest ps < 1024 → is_marked ps q ≡ false
unfolding is_marked
below-zero ps q h = ap (λ (b : Bool). b && among ps (q + largest ps - 1024)) (lt-leb 1024 (q + largest ps) h)

-- W, the window's number
abbrev pub marks_of : List Packet → ℕ
marks_of ps = marks (is_marked ps) 1024

pub told_below : (ps : List Packet) → marks_of ps < 2 ^ 1024
told_below ps = marks-below (is_marked ps) 1024

-- each place has its number's mark; those past the last are free
told-mark : (ps : List Packet) (q : ℕ) → is_set (marks_of ps) q ≡ is_marked ps q
told-mark ps q =
    split 1024 q
    (λ h. high-mark (marks_of ps) 1024 q (told_below ps) h ∙ sym (at-number ps q (q - 1024 + largest ps) (omega arith) ∙ none_above ps (q - 1024 + largest ps) (omega arith)))
    (λ h. marks-at (is_marked ps) 1024 q h)

-- the window of the told number has it
pub told-value : (ps : List Packet) → value_of (window_of (marks_of ps)) ≡ marks_of ps
told-value ps = number-kept (marks_of ps) (told_below ps)

-- a place that stands for a number is marked exactly when the number is among the packets
pub told-place : (ps : List Packet) (q m : ℕ) → q + largest ps ≡ m + 1024 → is_set (marks_of ps) q ≡ among ps m
told-place ps q m e = told-mark ps q ∙ at-number ps q m e

pub told-number : (ps : List Packet) (n : ℕ) → largest ps ≤ n + 1024 → is_set (marks_of ps) (place_of (largest ps) n) ≡ among ps n
told-number ps n h = told-place ps (n + 1024 - largest ps) n (omega arith)

-- no packet, no mark
free : (q : ℕ) → is_marked [] q ≡ false
unfolding largest
free q = split 1024 (q + 0) (λ h. at-number [] q (q - 1024) (omega arith) ∙ none_above [] (q - 1024) (omega arith)) (below-zero [] q)

pub told_none : marks_of [] ≡ 0
told_none = same-marks 1024 (marks_of []) 0 (told_below []) (pow_pos 1024) (λ q l. told-mark [] q ∙ free q ∙ sym (zero-mark q))

-- ---- one packet more

module _ (p : Packet) (ps : List Packet) where
  among-new : among (p ∷ ps) p.number ≡ true
  unfolding among
  among-new = rw (eq-eqb p.number p.number refl)

  among-old : (m : ℕ) → (p.number ≡ m → ⊥) → among (p ∷ ps) m ≡ among ps m
  unfolding among
  among-old m f = rw (ne_eqb p.number m f)

  stays-largest : p.number < largest ps → largest (p ∷ ps) ≡ largest ps
  unfolding largest
  stays-largest h = max-eq_left (omega arith)

  new-largest : largest ps ≤ p.number → largest (p ∷ ps) ≡ p.number + 1
  unfolding largest
  new-largest h = max-eq_right (omega arith)

  -- a number of the window: its place is marked
  pub within : p.number < largest ps → largest ps ≤ p.number + 1024 → with_bit (marks_of ps) (place_of (largest ps) p.number) ≡ marks_of (p ∷ ps)
  within h l =
      let place : ℕ = place_of (largest ps) p.number in
      let e : largest (p ∷ ps) ≡ largest ps = stays-largest h in
      same-marks 1024 (with_bit (marks_of ps) place) (marks_of (p ∷ ps)) (mark-below 1024 (marks_of ps) place (told_below ps) (omega arith)) (told_below (p ∷ ps))
      (λ q b. by-same q place
      (λ i. ap (is_set (with_bit (marks_of ps) place)) i ∙ mark-there (marks_of ps) place
      ∙ sym (told-mark (p ∷ ps) q ∙ at-number (p ∷ ps) q p.number (omega arith) ∙ among-new))
      (λ i. mark-elsewhere (marks_of ps) place q i ∙ told-mark ps q
      ∙ split 1024 (q + largest ps)
      (λ k. at-number ps q (q + largest ps - 1024) (omega arith) ∙ sym (among-old (q + largest ps - 1024) (λ f. i (omega arith)))
      ∙ sym (at-number (p ∷ ps) q (q + largest ps - 1024) (omega arith)))
      (λ k. below-zero ps q k ∙ sym (below-zero (p ∷ ps) q (omega arith)))
      ∙ sym (told-mark (p ∷ ps) q)))

  -- a number above L: the places move down, and the last is marked
  pub above : largest ps ≤ p.number → with_bit (value_of (window_of (marks_of ps / 2 ^ (p.number + 1 - largest ps)))) 1023 ≡ marks_of (p ∷ ps)
  above h =
      let n : ℕ = p.number in
      let d : ℕ = n + 1 - largest ps in
      let v : ℕ = marks_of ps / 2 ^ d in
      let b : v < 2 ^ 1024 = lt_of_le_of_lt (shr_le (marks_of ps) d) (told_below ps) in
      let e : largest (p ∷ ps) ≡ n + 1 = new-largest h in
      ap (λ (x : ℕ). with_bit x 1023) (number-kept v b)
      ∙ same-marks 1024 (with_bit v 1023) (marks_of (p ∷ ps)) (mark-below 1024 v 1023 b (omega arith)) (told_below (p ∷ ps))
      (λ q l. by-same q 1023
      (λ i. ap (is_set (with_bit v 1023)) i ∙ mark-there v 1023 ∙ sym (told-mark (p ∷ ps) q ∙ at-number (p ∷ ps) q n (omega arith) ∙ among-new))
      (λ i. mark-elsewhere v 1023 q i ∙ moved-mark (marks_of ps) d q ∙ told-mark ps (q + d)
      ∙ split 1024 (q + n + 1)
      (λ k. at-number ps (q + d) (q + n + 1 - 1024) (omega arith) ∙ sym (among-old (q + n + 1 - 1024) (λ f. i (omega arith)))
      ∙ sym (at-number (p ∷ ps) q (q + n + 1 - 1024) (omega arith)))
      (λ k. below-zero ps (q + d) (omega arith) ∙ sym (below-zero (p ∷ ps) q (omega arith)))
      ∙ sym (told-mark (p ∷ ps) q)))

-- ---- the record's part

abbrev pub seen : ℕ → List Packet → Seen
seen confirmed ps = record { window = window_of (marks_of ps); end = largest ps; arrived = arrival_of ps; confirmed = confirmed }

-- an accepted packet leaves what one packet more tells
pub seen-told : (confirmed : ℕ) (p : Packet) (ps : List Packet) → floor (seen confirmed ps) ≤ p.number → seen_after (seen confirmed ps) p.number p.time ≡ seen confirmed (p ∷ ps)
unfolding seen_after arrival_of
seen-told confirmed p ps f =
    let g : floor_of (largest ps) ≤ p.number = le_trans (le-max_right confirmed (floor_of (largest ps))) f in
    split (largest ps) p.number
    (λ h. rw (le-ltb p.number (largest ps) h, told-value ps, above p ps h, new-largest p ps h))
    (λ h. rw (lt-ltb p.number (largest ps) h, told-value ps, within p ps h (omega arith), stays-largest p ps h))
