-- What `write_ack` emits is read back, and what it leaves: by the largest count that fits and by the frame's own law of reading back.
-- Assumes nothing.
use Prim.Native.Nat.{ℕ, zero, suc, ◌+◌, ◌-◌, ◌*◌, ◌/◌, ◌≤◌, ◌<◌}
use mathlib.Core.Path.{◌≡◌, refl, sym, ap, ◌∙◌}
use mathlib.Core.Bool.{true, false, ◌&&◌}
use mathlib.Core.List.{List, ◌++◌}
use native.Mathlib.Nat.{zero-add}
use native.Mathlib.Omega.{arith}
use borrow.Author.Tests.{leb-true, leb-false, eqb-true, eqb-false}
use lib.Dec.{eqb}
use lib.ListN.{length, take, drop, get_or, length-append, length-drop}
use lib.Seq.{take-nil, length-take-le, drop-append_seam}
use Rattle.std.specs.Prelude.{Option, Ok}
use Rattle.wire.specs.Refusals.{refusal_number}
use Rattle.wire.specs.Bytes.{splice}
use Rattle.wire.specs.Numbers.{limit, all_small}
use Rattle.wire.proofs.Lengths.{split}
use Rattle.wire.proofs.Small.{all_small_lem}
use Rattle.frames.specs.declared.Counts.{Counts}
use Rattle.frames.specs.Ack.{counts_of, read_ack, RangesBelow, AckRanges}
use Rattle.frames.proofs.Back.{ack-back}
use Rattle.seen.specs.declared.Micros.{Micros}
use Rattle.seen.specs.declared.Seen.{Seen}
use Rattle.seen.specs.Numbers.{small}
use Rattle.seen.specs.Received.{seen_consistent, reported}
use Rattle.ack.specs.Ack.{number_at, ranges, number_of_ranges, ack_delay, frame, fits, ranges_kept, ack_refusal, ack_frame, laid, marks_answer, ack_answer, ack_bytes}
use Rattle.ack.specs.Emits.{AckReadBack}
use Rattle.ack.proofs.Ranges.{Begun, Bottom, bottom, top, low, missing-pos, size-pos, first-top, down, down-none, down-some}
use Rattle.seen.proofs.Tests.{by-test}
use Rattle.ack.proofs.Reporting.{begun-reported}
use Rattle.ack.proofs.Fitting.{first-bottom, first-down, first_rest, kept-says}
use Rattle.ack.proofs.Written.{some_end, delay-small, gives_one, gives-five, gives-five-too, gives-eight, gives-nine}

-- ---- what is left in the buffer

-- the length of the frame, 0 where it was refused
abbrev pub lasting : ℕ → List ℕ → ℕ
lasting zero bytes = length bytes
lasting (suc k) bytes = 0

module _ (bytes xs : List ℕ) where
  pub laid-long : (k : ℕ) → (k ≡ 0 → length bytes ≤ length xs) → length (laid k xs bytes) ≡ length xs
  laid-long zero f = let h : length bytes ≤ length xs = f refl in simp (length-append, length-drop) (omega arith)
  laid-long (suc k) h = refl

  pub laid-stays : (k : ℕ) → drop (lasting k bytes) (laid k xs bytes) ≡ drop (lasting k bytes) xs
  laid-stays zero = rw (drop-append_seam, zero-add)
  laid-stays (suc k) = refl

-- ---- read back

-- the answer has the refusal's number, and where that is 0 the frame's length
module _ (s : Seen) (time : Micros) (tail : Option Counts) (xs : List ℕ) where
  pub answer-number : refusal_number (ack_answer s time tail xs) ≡ ack_refusal s time tail (length xs)
  unfolding ack_answer ack_refusal marks_answer
  answer-number =
      by-test (seen_consistent s)
      (λ y. by-test (small time.0 && all_small (counts_of tail))
      (λ t. by-test (eqb s.end 0)
      (λ z. rw (y, t, z))
      (λ z. by-test (fits (reported s) tail (ack_delay s time) (length xs) 1) (λ f. rw (y, t, z, f)) (λ f. rw (y, t, z, f))))
      (λ t. rw (y, t)))
      (λ y. rw y)

  pub answer-length : ack_refusal s time tail (length xs) ≡ 0 → ack_answer s time tail xs ≡ Ok (length (ack_frame s time tail (length xs)))
  unfolding ack_answer ack_refusal marks_answer
  answer-length e =
      by-test (seen_consistent s)
      (λ y. by-test (small time.0 && all_small (counts_of tail))
      (λ t. by-test (eqb s.end 0)
      (λ z. let f : ◌≡◌ {A = ℕ} 8 0 = rw (y, t, z) at e in absurd (omega arith))
      (λ z. by-test (fits (reported s) tail (ack_delay s time) (length xs) 1)
      (λ f. rw (y, t, z, f))
      (λ f. let g : ◌≡◌ {A = ℕ} 9 0 = rw (y, t, z, f) at e in absurd (omega arith))))
      (λ t. let f : ◌≡◌ {A = ℕ} 5 0 = rw (y, t) at e in absurd (omega arith)))
      (λ y. let f : ◌≡◌ {A = ℕ} 1 0 = rw y at e in absurd (omega arith))

-- an accepted write passed every test
record Passed (s : Seen) (time : Micros) (tail : Option Counts) (room : ℕ) : Type 0 where
  begins : Begun (reported s)
  timely : small time.0 ≡ true
  counted : all_small (counts_of tail) ≡ true
  fitting : fits (reported s) tail (ack_delay s time) room 1 ≡ true

other : {a b : ℕ} {P : Type 0} → a ≡ 0 → a ≡ suc b → P
other e f = absurd (let z = sym e ∙ f in omega arith)

passed : (s : Seen) (time : Micros) (tail : Option Counts) (room : ℕ) → ack_refusal s time tail room ≡ 0 → Passed s time tail room
passed s time tail room e =
    by-test (seen_consistent s)
    (λ y. by-test (small time.0)
    (λ t. by-test (all_small (counts_of tail))
    (λ g. by-test (eqb s.end 0)
    (λ z. other e (gives-eight s time tail room y t g (eqb-true s.end 0 z)))
    (λ z. by-test (fits (reported s) tail (ack_delay s time) room 1)
    (λ f. record { begins = begun-reported s y (some_end (eqb-false s.end 0 z)); timely = t; counted = g; fitting = f })
    (λ f. other e (gives-nine s time tail room y t g (eqb-false s.end 0 z) f))))
    (λ g. other e (gives-five-too s time tail room y t g)))
    (λ t. other e (gives-five s time tail room y t)))
    (λ y. other e (gives_one s time tail room y))

module _ {s : Seen} (b : Begun s) where
  below-ranges : (n p : ℕ) → Bottom s p → RangesBelow (number_at s.end p) (take (2 * n) (down s p))
  unfolding RangesBelow
  below-ranges zero p u = tt
  below-ranges (suc n) p u =
      split (top s p) 0
      (λ h. rw (down-none s p (omega arith), take-nil) tt)
      (λ h.
      let e : 2 * suc n ≡ suc (suc (2 * n)) = omega arith in
      let v = bottom b p (omega (arith, u.below)) h in
      let m = missing-pos u (omega arith) in
      let z = size-pos s p h in
      let i = below-ranges n (low s p) v in
      rw (down-some s p (omega (arith, u.below)) h, e) (omega (arith, v.inside), omega (arith, v.inside), i))

  first-order : number_at s.end (low s 1024) ≤ number_at s.end (top s 1024 - 1)
  first-order = omega (arith, first-top b, size-pos s 1024 (omega (arith, first-top b)))

  -- the k newest ranges are the ranges of an ACK frame
  newest-ranges : (k : ℕ) → AckRanges (take (2 * suc k) (ranges s))
  unfolding AckRanges
  newest-ranges k =
      let e : 2 * suc k ≡ suc (suc (2 * k)) = omega arith in
      let i = below-ranges k (low s 1024) (first-bottom b) in
      let t = first-top b in
      let x : number_at s.end (low s 1024) ≤ number_at s.end (top s 1024 - 1) = first-order in
      let y : number_at s.end (top s 1024 - 1) ≤ limit = omega (arith, b.small) in
      rw (first-down b, e) (x, y, i)

  -- the newest starts at L
  newest-largest : (k : ℕ) → get_or (take (2 * suc k) (ranges s)) 1 0 ≡ s.end - 1
  newest-largest k =
      let e : 2 * suc k ≡ suc (suc (2 * k)) = omega arith in
      let t = first-top b in
      rw (first-down b, e) (omega arith)

  newest-length : (k : ℕ) → k ≤ number_of_ranges s → length (take (2 * k) (ranges s)) ≡ 2 * k
  newest-length k h = length-take-le (2 * k) (ranges s) (omega arith)

  -- its frame is read as those ranges and the counts
  frame_back : (tail : Option Counts) (delay k : ℕ) (tl zs : List ℕ) → 0 < k → k ≤ number_of_ranges s → delay ≤ limit → all_small (counts_of tail) ≡ true → 2 * k ≤ length zs
      → read_ack (frame s tail delay k ++ tl) zs
      ≡ record { answer = Ok (record { largest = s.end - 1; delay = delay; ranges = k; used = length (frame s tail delay k); tail = tail }); slice = splice zs 0 (take (2 * k) (ranges s)) }
  unfolding frame
  frame_back tail delay k tl zs h l d f z =
      let n : k ≡ suc (k - 1) = omega arith in
      let ps : List ℕ = take (2 * k) (ranges s) in
      let m : length ps ≡ 2 * k = newest-length k l in
      let a : AckRanges ps = rw n (newest-ranges (k - 1)) in
      let g : get_or ps 1 0 ≡ s.end - 1 = rw n (newest-largest (k - 1)) in
      let q : length ps / 2 ≡ k = omega arith in
      rw (g, q) at (ack-back tail delay ps tl zs a d ((all_small_lem (counts_of tail)).0 f) (omega arith))

some-kept-of : (s : Seen) (time : Micros) (tail : Option Counts) (xs : List ℕ) → Passed s time tail (length xs) → 0 < ranges_kept (reported s) tail (ack_delay s time) (length xs)
some-kept-of s time tail xs p =
    let d : ℕ = ack_delay s time in
    let k : ℕ = ranges_kept (reported s) tail d (length xs) in
    let l = kept-says (reported s) tail d (length xs) in
    split k 0
    (λ h.
    let f : true ≡ false = sym p.fitting ∙ l.above 1 (omega arith) (omega (arith, first_rest p.begins)) in
    absurd (let z : ◌≡◌ {A = ℕ} 0 1 = cc in omega arith))
    (λ h. h)

pub frame-fits : (s : Seen) (time : Micros) (tail : Option Counts) (xs : List ℕ) → ack_refusal s time tail (length xs) ≡ 0 → length (ack_frame s time tail (length xs)) ≤ length xs
frame-fits s time tail xs e =
    let d : ℕ = ack_delay s time in
    let k : ℕ = ranges_kept (reported s) tail d (length xs) in
    leb-true (length (frame (reported s) tail d k)) (length xs)
    ((kept-says (reported s) tail d (length xs)).holds (some-kept-of s time tail xs (passed s time tail (length xs) e)))

pub ack-read-back : AckReadBack
unfolding ack_bytes
ack-read-back s time tail xs n e =
    let d : ℕ = ack_delay s time in
    let k : ℕ = ranges_kept (reported s) tail d (length xs) in
    let z : ack_refusal s time tail (length xs) ≡ 0 = sym (answer-number s time tail xs) ∙ ap refusal_number e in
    let b : ack_answer s time tail xs ≡ Ok (length (ack_frame s time tail (length xs))) = answer-length s time tail xs z in
    let o : n ≡ length (ack_frame s time tail (length xs)) = cc in
    let p = passed s time tail (length xs) z in
    let l = kept-says (reported s) tail d (length xs) in
    let h : 0 < k = some-kept-of s time tail xs p in
    record {
      first = (h, l.within);
      fits = leb-true (length (frame (reported s) tail d k)) (length xs) (l.holds h);
      most = λ i. leb-false (length (frame (reported s) tail d (k + 1))) (length xs) (l.above (k + 1) (omega arith) (omega arith));
      back = λ zs i. rw (z, o) (frame_back p.begins tail d k (drop (0 + length (frame (reported s) tail d k)) xs) zs h l.within (delay-small time (time.0 - s.arrived.0) p.timely (omega arith)) p.counted i);
    }
