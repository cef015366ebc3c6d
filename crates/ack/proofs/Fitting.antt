-- How many ranges fit: the frame grows with each range, so the first that does not fit ends the count, and the count is the largest that fits.
-- Assumes nothing.
use Prim.Native.Nat.{ℕ, zero, suc, ◌+◌, ◌-◌, ◌*◌, ◌/◌, ◌≤◌, ◌<◌}
use mathlib.Core.Path.{◌≡◌, refl, sym, ap, ◌∙◌}
use mathlib.Core.Bool.{Bool, true, false}
use mathlib.Core.List.{List, [], ◌∷◌, ◌++◌}
use native.Mathlib.Nat.{eq-or-lt_of_le, zero-add}
use native.Mathlib.Omega.{arith}
use mathlib.Core.Logic.{⊎_elim}
use borrow.Author.Tests.{le-leb, lt-leb}
use lib.ListN.{length, take, length-append, length-take}
use Rattle.std.specs.Prelude.{Option, Some, None}
use Rattle.wire.specs.Numbers.{limit, code_of, width_of, first_from, encode_all}
use Rattle.wire.proofs.Lengths.{split, small-code, code_fits, width-found, width-least, width-le, width-pos}
use Rattle.wire.proofs.Writing.{length-encode, encode-append}
use Rattle.frames.specs.declared.Counts.{Counts}
use Rattle.frames.specs.Ack.{range_numbers, type_of, counts_of}
use Rattle.frames.proofs.Back.{type-small}
use Rattle.seen.specs.declared.Seen.{Seen}
use Rattle.ack.specs.Ack.{number_at, ranges, number_of_ranges, frame, body, fits, largest_where, ranges_kept}
use Rattle.seen.proofs.Tests.{by-test}
use Rattle.ack.proofs.Ranges.{Begun, Bottom, bottom, sizes, missing, top, size, low, missing-le, size-le, size-pos, run_length, first-top, down, down-none, down-some, few-ranges, fields, fields-zero, fields-some}

-- ---- bytes

pub width-grows : (u v : ℕ) → u ≤ v → v ≤ limit → width_of u ≤ width_of v
width-grows u v l h =
    let c = small-code v h in
    rw (width-found v c) (width-least u (code_of v) c (omega (arith, code_fits v c)))

pub narrow : (v : ℕ) {w : ℕ} → w ≡ width_of v → w ≤ 8
narrow v e = omega (arith, width-le v)

pub bytes_next : (v : ℕ) (vs : List ℕ) → v ≤ limit → length (encode_all (v ∷ vs)) ≡ width_of v + length (encode_all vs)
unfolding encode_all
bytes_next v vs h = rw (length-append, length-encode v h)

pub bytes-none : length (encode_all []) ≡ 0
unfolding encode_all
bytes-none = refl

type-byte : (tail : Option Counts) → width_of (type_of tail) ≡ 1
unfolding width_of first_from
type-byte None = refl
type-byte (Some counts) = refl

zero-byte : width_of 0 ≡ 1
unfolding width_of first_from
zero-byte = refl

-- ---- the frame with the first range and k more

module _ {s : Seen} (b : Begun s) where
  pub first-low : low s 1024 ≡ 1024 - size s 1024
  first-low = omega (arith, first-top b)

  pub first-bottom : Bottom s (low s 1024)
  first-bottom = bottom b 1024 (omega arith) (omega (arith, first-top b))

  pub first-size : (0 < size s 1024) × (size s 1024 ≤ 1024)
  first-size = (size-pos s 1024 (omega (arith, first-top b)), omega (arith, size-le s 1024))

  pub first-down : ranges s ≡ number_at s.end (low s 1024) ∷ number_at s.end (top s 1024 - 1) ∷ down s (low s 1024)
  first-down = down-some s 1024 (omega arith) (omega (arith, first-top b))

  pub first_rest : number_of_ranges s ≡ 1 + length (down s (low s 1024)) / 2
  first_rest = omega (arith, ap length first-down)

  pub body-numbers : (kind delay k : ℕ) → k < number_of_ranges s
      → range_numbers kind delay (take (2 * suc k) (ranges s)) ≡ kind ∷ (s.end - 1) ∷ delay ∷ k ∷ (size s 1024 - 1) ∷ fields s k (low s 1024)
  unfolding range_numbers
  body-numbers kind delay k h =
      let e : 2 * suc k ≡ suc (suc (2 * k)) = omega arith in
      let n : length (take (2 * k) (down s (low s 1024))) / 2 ≡ k = rw length-take (omega (arith, first_rest)) in
      let t = first-top b in
      let x : number_at s.end (top s 1024 - 1) ≡ s.end - 1 = omega arith in
      let y : number_at s.end (top s 1024 - 1) - number_at s.end (low s 1024) ≡ size s 1024 - 1 =
      run_length s.end (top s 1024 - 1) (low s 1024) (size s 1024) (omega (arith, size-le s 1024)) first-bottom.inside in
      rw (first-down, e, n, y, x)

-- the bytes before the ranges after the first, without the range count
abbrev pub base : Seen → ℕ → ℕ
base s delay = 1 + width_of (s.end - 1) + width_of delay + width_of (size s 1024 - 1)

-- the bytes of n ranges below a place
abbrev pub bytes_below : Seen → ℕ → ℕ → ℕ
bytes_below s n p = length (encode_all (fields s n p))

-- the bytes of a tail's counts
abbrev pub bytes_of : Option Counts → ℕ
bytes_of tail = length (encode_all (counts_of tail))

-- the frame is what comes before its counts, and the counts
pub frame-parts : (s : Seen) (tail : Option Counts) (delay k : ℕ) → frame s tail delay k ≡ body s (type_of tail) delay k ++ encode_all (counts_of tail)
unfolding frame body
frame-parts s tail delay k = encode-append (range_numbers (type_of tail) delay (take (2 * k) (ranges s))) (counts_of tail)

pub parts-length : (s : Seen) (tail : Option Counts) (delay k : ℕ) → length (frame s tail delay k) ≡ length (body s (type_of tail) delay k) + bytes_of tail
parts-length s tail delay k = rw (frame-parts, length-append)

module _ {s : Seen} (b : Begun s) (delay : ℕ) (d : delay ≤ limit) where
  pub tail-length : (tail : Option Counts) (k : ℕ) → k < number_of_ranges s → length (frame s tail delay (suc k)) ≡ width_of k + (base s delay + bytes_below s k (low s 1024)) + bytes_of tail
  unfolding body
  tail-length tail k h =
      let l = first-size b in
      let f = few-ranges s in
      let us : List ℕ = fields s k (low s 1024) in
      let n : length (encode_all (type_of tail ∷ (s.end - 1) ∷ delay ∷ k ∷ (size s 1024 - 1) ∷ us)) ≡ width_of k + (base s delay + bytes_below s k (low s 1024)) =
      rw (bytes_next (type_of tail) _ (type-small tail), bytes_next (s.end - 1) _ (omega (arith, b.small)), bytes_next delay _ d, bytes_next k _ (omega arith), bytes_next (size s 1024 - 1) us (omega arith), type-byte tail)
      (omega arith) in
      parts-length s tail delay (suc k) ∙ ap (λ (vs : List ℕ). length (encode_all vs) + bytes_of tail) (body-numbers b (type_of tail) delay k h) ∙ ap (λ (x : ℕ). x + bytes_of tail) n

  -- without counts
  pub frame-length : (k : ℕ) → k < number_of_ranges s → length (frame s None delay (suc k)) ≡ width_of k + (base s delay + bytes_below s k (low s 1024))
  frame-length k h = omega (arith, tail-length None k h, bytes-none)

  -- a range more
  pub bytes-more : (n p : ℕ) → Bottom s p → 0 < top s p
      → bytes_below s (suc n) p ≡ width_of (missing s p - 1) + (width_of (size s p - 1) + bytes_below s n (low s p))
  bytes-more n p u h =
      let m = missing-le s p in
      let l = size-le s p in
      rw (fields-some s b n p u h, bytes_next (missing s p - 1) _ (omega (arith, u.below)), bytes_next (size s p - 1) _ (omega (arith, u.below)))

  -- no frame is shorter than the one with the first range only
  pub first-shortest : (tail : Option Counts) (k : ℕ) → 0 < k → k ≤ number_of_ranges s → length (frame s tail delay 1) ≤ length (frame s tail delay k)
  first-shortest tail k h l =
      let e : k ≡ suc (k - 1) = omega arith in
      let f = few-ranges s in
      let n : bytes_below s 0 (low s 1024) ≡ 0 = rw (fields-zero s (low s 1024)) bytes-none in
      omega
      (arith, ap (λ (x : ℕ). length (frame s tail delay x)) e, tail-length tail 0 (omega arith), tail-length tail (k - 1) (omega arith), zero-byte, width-pos (k - 1) (omega arith))

-- ---- the largest that fits

-- what holds, where nothing above it does, is the largest
pub largest-is : (test : ℕ → Bool) (n all : ℕ) → n ≤ all → (0 < n → test n ≡ true) → ((j : ℕ) → n < j → j ≤ all → test j ≡ false) → n ≡ largest_where test all
unfolding largest_where
largest-is test n zero l y f = omega arith
largest-is test n (suc all) l y f =
    ⊎_elim
    (λ e. let t : test (suc all) ≡ true = ap test (sym e) ∙ y (omega arith) in rw (largest_where, t) e)
    (λ h.
    let t : test (suc all) ≡ false = f (suc all) h (omega arith) in
    rw (largest_where, t) (largest-is test n all (omega arith) y (λ j i k. f j i (omega arith))))
    (eq-or-lt_of_le l)

-- and the largest says so
pub record Largest (test : ℕ → Bool) (n all : ℕ) : Type 0 where
  pub holds : 0 < n → test n ≡ true
  pub within : n ≤ all
  pub above : (j : ℕ) → n < j → j ≤ all → test j ≡ false

pub largest-says : (test : ℕ → Bool) (all : ℕ) → Largest test (largest_where test all) all
unfolding largest_where
largest-says test zero = record { holds = λ h. absurd (omega arith); within = omega arith; above = λ j h l. absurd (omega arith) }
largest-says test (suc all) =
    by-test (test (suc all))
    (λ t. rw (largest_where, t) (record { holds = λ h. t; within = omega arith; above = λ j h l. absurd (omega arith) }))
    (λ t.
    let r = largest-says test all in
    rw (largest_where, t)
    (record { holds = r.holds; within = omega (arith, r.within); above = λ j h l. ⊎_elim (λ e. ap test e ∙ t) (λ g. r.above j h (omega arith)) (eq-or-lt_of_le l) }))

module _ (s : Seen) (tail : Option Counts) (delay room : ℕ) where
  pub kept-says : Largest (fits s tail delay room) (ranges_kept s tail delay room) (number_of_ranges s)
  unfolding ranges_kept
  kept-says = largest-says (fits s tail delay room) (number_of_ranges s)

  pub kept-is : (n : ℕ) → n ≤ number_of_ranges s → (0 < n → length (frame s tail delay n) ≤ room)
      → ((j : ℕ) → n < j → j ≤ number_of_ranges s → room < length (frame s tail delay j)) → n ≡ ranges_kept s tail delay room
  unfolding ranges_kept
  kept-is n l y f =
      largest-is (fits s tail delay room) n (number_of_ranges s) l (λ h. le-leb (length (frame s tail delay n)) room (y h))
      (λ j i k. lt-leb (length (frame s tail delay j)) room (f j i k))

-- ---- the count, as it goes: `count` ranges down to place p take `bytes` without the range count

pub record Counted (s : Seen) (delay room p bytes count : ℕ) : Type 0 where
  pub at : Bottom s p
  pub some : 0 < count
  pub few : count + p ≤ 1024
  pub fit : bytes + width_of (count - 1) ≤ room
  pub rest : count + length (down s p) / 2 ≡ number_of_ranges s
  pub sum : (m : ℕ) → base s delay + bytes_below s (count - 1 + m) (low s 1024) ≡ bytes + bytes_below s m p

module _ {s : Seen} (b : Begun s) (delay room : ℕ) (d : delay ≤ limit) where
  -- not even the first fits
  pub count_none : room < base s delay + 1 → 0 ≡ ranges_kept s None delay room
  count_none h =
      kept-is s None delay room 0 (omega arith) (λ i. absurd (omega arith))
      (λ j i k.
      let e : j ≡ suc (j - 1) = omega arith in
      let f = few-ranges s in
      let w = width-pos (j - 1) (omega arith) in
      omega (arith, ap (λ (x : ℕ). length (frame s None delay x)) e, frame-length b delay d (j - 1) (omega arith)))

  pub count-first : base s delay + 1 ≤ room → Counted s delay room (low s 1024) (base s delay) 1
  count-first h =
      let z : width_of 0 ≡ 1 = zero-byte in
      record {
        at = first-bottom b;
        some = omega arith;
        few = omega (arith, first-low b, first-size b);
        fit = omega arith;
        rest = sym (first_rest b);
        sum = λ m. ap (λ (n : ℕ). base s delay + bytes_below s n (low s 1024)) (zero-add m);
      }

  module _ {p bytes count : ℕ} (c : Counted s delay room p bytes count) where
    pub counted-fits : length (frame s None delay count) ≤ room
    counted-fits =
        let e : count ≡ suc (count - 1) = omega (arith, c.some) in
        let z : count - 1 + 0 ≡ count - 1 = omega arith in
        let n : bytes_below s 0 p ≡ 0 = rw (fields-zero s p) bytes-none in
        let r = c.rest in
        let i = c.fit in
        omega (arith, ap (λ (x : ℕ). length (frame s None delay x)) e, frame-length b delay d (count - 1) (omega (arith, c.some)), c.sum 0, ap (λ (x : ℕ). bytes_below s x (low s 1024)) z)

    -- no range is left
    pub count-all : top s p ≡ 0 → count ≡ ranges_kept s None delay room
    count-all e =
        let n = ap length (down-none s p e) in
        let r = c.rest in
        kept-is s None delay room count (omega arith) (λ h. counted-fits) (λ j i k. absurd (omega arith))

    -- the next does not fit, so none with more ranges does
    pub count-full : 0 < top s p → room < bytes + width_of (missing s p - 1) + width_of (size s p - 1) + width_of count → count ≡ ranges_kept s None delay room
    count-full h g =
        let r = c.rest in
        kept-is s None delay room count (omega arith) (λ i. counted-fits)
        (λ j i k.
        let e : j ≡ suc (j - 1) = omega arith in
        let f = few-ranges s in
        let x : count - 1 + suc (j - 1 - count) ≡ j - 1 = omega (arith, c.some) in
        omega
        (arith, ap (λ (x : ℕ). length (frame s None delay x)) e, frame-length b delay d (j - 1) (omega arith), width-grows count (j - 1) (omega arith) (omega arith), c.sum (suc (j - 1 - count)), ap (λ (x : ℕ). bytes_below s x (low s 1024)) x, bytes-more b delay d (j - 1 - count) p c.at h))

    -- the next fits too
    pub count_next : 0 < top s p → bytes + width_of (missing s p - 1) + width_of (size s p - 1) + width_of count ≤ room
        → Counted s delay room (low s p) (bytes + width_of (missing s p - 1) + width_of (size s p - 1)) (count + 1)
    count_next h g =
        let x : count + 1 - 1 ≡ count = omega arith in
        let l = c.at.below in
        let n = ap length (down-some s p (omega arith) h) in
        record {
          at = bottom b p (omega arith) h;
          some = omega arith;
          few = omega (arith, c.few, size-pos s p h, size-le s p);
          fit = rw x g;
          rest = omega (arith, c.rest);
          sum = λ m.
              let y : count + 1 - 1 + m ≡ count - 1 + suc m = omega (arith, c.some) in
              omega (arith, ap (λ (x : ℕ). bytes_below s x (low s 1024)) y, c.sum (suc m), bytes-more b delay d m p c.at h);
        }

-- m and z are what a step down from p passes and takes
module _ {s : Seen} (b : Begun s) {delay room : ℕ} (d : delay ≤ limit) {p bytes count : ℕ} (c : Counted s delay room p bytes count)
    {m z : ℕ} (e : m ≡ missing s p) (f : z ≡ size s p) where
  module _ (n : z ≡ 0 → ⊥) where
    pub some_more : 0 < top s p
    some_more = split (top s p) 0 (λ h. absurd (n (omega (arith, size-le s p)))) (λ h. h)

    pub step-sizes : (0 < m) × (0 < z) × (m + z ≤ p)
    step-sizes = rw (e, f) (sizes c.at some_more)

    module _ {w₁ w₂ w₃ : ℕ} (e₁ : w₁ ≡ width_of (m - 1)) (e₂ : w₂ ≡ width_of (z - 1)) (e₃ : w₃ ≡ width_of count) where
      gap-bytes : w₁ ≡ width_of (missing s p - 1)
      gap-bytes = e₁ ∙ ap (λ (x : ℕ). width_of (x - 1)) e

      size-bytes : w₂ ≡ width_of (size s p - 1)
      size-bytes = e₂ ∙ ap (λ (x : ℕ). width_of (x - 1)) f

      pub no-more-fit : room < bytes + w₁ + w₂ + w₃ → count ≡ ranges_kept s None delay room
      no-more-fit h = count-full b delay room d c some_more (omega (arith, gap-bytes, size-bytes))

      pub one-more-fits : bytes + w₁ + w₂ + w₃ ≤ room → Counted s delay room (p - m - z) (bytes + w₁ + w₂) (count + 1)
      one-more-fits h = rw (gap-bytes, size-bytes, e, f) (count_next b delay room d c some_more (omega (arith, gap-bytes, size-bytes)))
