-- A frame read by what follows its type: each number that stands n bytes later is the same number, and so on through the chain of fields.
-- Assumes nothing.
use Prim.Native.Nat.{ℕ, zero, suc, ◌+◌, ◌-◌, ◌*◌, ◌/◌, ◌≤◌, ◌<◌}
use mathlib.Core.Path.{◌≡◌, refl, sym, ap}
use mathlib.Core.Bool.{Bool, true, false}
use mathlib.Core.List.{List, [], ◌∷◌}
use native.Mathlib.Nat.{add-zero}
use native.Mathlib.Omega.{arith}
use borrow.Author.Tests.{le-leb, lt-leb, leb-true}
use lib.Dec.{leb, eqb}
use lib.ListN.{length, get_or, take, drop, length-drop}
use lib.Seq.{get_or-drop, drop-drop}
use Rattle.std.specs.Prelude.{Result, Ok, Err}
use Rattle.wire.specs.Bytes.{pick, be}
use Rattle.wire.specs.Fields.{read_fixed, found, field}
use Rattle.wire.specs.Numbers.{len_of, in_form, read_form, read_number}
use Rattle.wire.specs.declared.Fixed.{Fixed}
use Rattle.wire.specs.declared.Number.{Number}
use Rattle.wire.specs.declared.Refusal.{Refusal}
use Rattle.wire.specs.declared.Refusal.TheVariants.{Ends}
use Rattle.wire.proofs.Lengths.{split}
use Rattle.wire.proofs.Reading.{whole, found-same}
use Rattle.frames.specs.Types.{frequency_type, counts_type, among, is_ack}
use Rattle.frames.specs.Frequency.{read_thresholds}
use Rattle.frames.specs.Ack.{Ranges, before, ranges_from, ending, read_tail, read_rest, AckRead, refused, after_rest, read_ranges, ack_fields_at}
use Rattle.frames.specs.EachWay.{later_frequency, FrequencyAfterType, later, AckAfterType}
use Rattle.frames.specs.declared.Frequency.{Frequency}
use Rattle.frames.specs.declared.Ending.{Ending}
use Rattle.frames.proofs.Steps.{pick-both}

-- ---- a number

abbrev later_number : ℕ → Result Number Refusal → Result Number Refusal
later_number n (Ok r) = found r.value (n + r.next) r.shortest
later_number n (Err refusal) = Err refusal

abbrev later_fixed : ℕ → Result Fixed Refusal → Result Fixed Refusal
later_fixed n (Ok f) = whole f.value (n + f.next)
later_fixed n (Err refusal) = Err refusal

form-later : (n k : ℕ) (f : Result Fixed Refusal) → in_form k (later_fixed n f) ≡ later_number n (in_form k f)
form-later n k (Ok f) = refl
form-later n k (Err refusal) = refl

-- a number lies in the bytes
within : (s : List ℕ) (at : ℕ) {v next : ℕ} {b : Bool} → read_number s at ≡ found v next b → next ≤ length s
unfolding read_number read_form read_fixed
within s at {v} {next} {b} e = go (leb (at + len) (length s)) refl e
  where
    k : ℕ
    k = get_or s at 0 / 64

    len : ℕ
    len = len_of k

    go : (t : Bool) → leb (at + len) (length s) ≡ t → in_form k (pick t (whole (be 0 (take len (drop at s))) (at + len)) (Err Ends)) ≡ found v next b → next ≤ length s
    go true t q = let m : at + len ≡ next = (found-same q).1 in omega (arith, leb-true (at + len) (length s) t)
    go false t q = let z : ◌≡◌ {A = ℕ} 0 1 = cc in omega arith

-- what the reader makes of the fields before the ranges
abbrev reads : List ℕ → List ℕ → ℕ → ℕ → ℕ → ℕ → Bool → AckRead
reads s xs at largest delay count counted = read_ranges s at largest delay count counted xs

module _ (n : ℕ) (s : List ℕ) (h : n ≤ length s) where
  fixed_later : (len at : ℕ) → read_fixed len s (n + at) ≡ later_fixed n (read_fixed len (drop n s) at)
  unfolding read_fixed
  fixed_later len at =
      let m : length (drop n s) ≡ length s - n = length-drop n s in
      let a : n + at + len ≡ n + (at + len) = omega arith in
      let d : drop (n + at) s ≡ drop at (drop n s) = sym (drop-drop at n s) in
      split (n + at + len) (length s)
      (λ l.
      let k : at + len ≤ length (drop n s) = omega (arith, m, l, h) in
      rw (le-leb (n + at + len) (length s) l, le-leb (at + len) (length (drop n s)) k, a, d))
      (λ l.
      let k : length (drop n s) < at + len = omega (arith, m, l, h) in
      rw (lt-leb (n + at + len) (length s) l, lt-leb (at + len) (length (drop n s)) k))

  number-later : (at : ℕ) → read_number s (n + at) ≡ later_number n (read_number (drop n s) at)
  unfolding read_number read_form
  number-later at =
      let k : get_or s (n + at) 0 ≡ get_or (drop n s) at 0 = sym (get_or-drop n s at 0) in
      rw (k, fixed_later (len_of (get_or (drop n s) at 0 / 64)) at, form-later n (get_or (drop n s) at 0 / 64))

  -- a field n bytes later, and what comes after it
  step : {A B : Type 0} (P : A → B → Type 0) (at : ℕ) {x : A} {y : B} {f : ℕ → ℕ → A} {g : ℕ → ℕ → B}
      → P x y → ((v next mid : ℕ) → mid ≡ n + next → P (f v mid) (g v next)) → P (field (read_number s (n + at)) x f) (field (read_number (drop n s) at) y g)
  step P at {x} {y} {f} {g} p q = rw (number-later at) (go (read_number (drop n s) at))
    where
      go : (r : Result Number Refusal) → P (field (later_number n r) x f) (field r y g)
      go (Ok r) = q r.value r.next (n + r.next) refl
      go (Err refusal) = p

  -- ---- ACK_FREQUENCY

  thresholds-later : (at : ℕ) → read_thresholds s (n + at) ≡ later_frequency n (read_thresholds (drop n s) at)
  thresholds-later at =
      step Same at refl (λ sequence at1 mid e1. rw e1
      (step Same at1 refl (λ threshold at2 mid e2. rw e2
      (step Same at2 refl (λ delay at3 mid e3. rw e3
      (step Same at3 refl (λ reordering used mid e4. rw e4)))))))
    where
      Same : Result Frequency Refusal → Result Frequency Refusal → Type 0
      Same r q = r ≡ later_frequency n q

  -- ---- ACK: its ranges, its counts, and what is made of them

  later_walk : Result ℕ Refusal → Result ℕ Refusal
  later_walk (Ok used) = Ok (n + used)
  later_walk (Err refusal) = Err refusal

  later_ranges : Ranges → Ranges
  later_ranges r = record { pairs = r.pairs; walk = later_walk r.walk }

  later_ending : Result Ending Refusal → Result Ending Refusal
  later_ending (Ok e) = ending e.tail (n + e.used)
  later_ending (Err refusal) = Err refusal

  SameRanges : Ranges → Ranges → Type 0
  SameRanges r q = r ≡ later_ranges q

  ranges-later : (count at high : ℕ) → SameRanges (ranges_from count s (n + at) high) (ranges_from count (drop n s) at high)
  unfolding ranges_from SameRanges later_ranges later_walk
  ranges-later zero at high =
      step SameRanges at refl (λ len next mid e. rw e
      (pick-both SameRanges (leb len high) refl refl))
  ranges-later (suc count) at high =
      step SameRanges at refl (λ len next mid e. rw e
      (pick-both SameRanges (leb len high)
      (step (λ (r q : Ranges). before (high - len) high r ≡ later_ranges (before (high - len) high q)) next refl (λ gap behind more f. rw f
      (pick-both (λ (r q : Ranges). before (high - len) high r ≡ later_ranges (before (high - len) high q)) (leb (gap + 2) (high - len))
      (ap (before (high - len) high) (ranges-later count behind (high - len - gap - 2)))
      refl)))
      refl))

  tail-later : (counted : Bool) (at : ℕ) → read_tail counted s (n + at) ≡ later_ending (read_tail counted (drop n s) at)
  unfolding read_tail later_ending
  tail-later false at = refl
  tail-later true at =
      step Same at refl (λ ect0 at1 mid e1. rw e1
      (step Same at1 refl (λ ect1 at2 mid e2. rw e2
      (step Same at2 refl (λ ce used mid e3. rw e3)))))
    where
      Same : Result Ending Refusal → Result Ending Refusal → Type 0
      Same r q = r ≡ later_ending q

  rest-later : (counted : Bool) (w : Result ℕ Refusal) → read_rest counted s (later_walk w) ≡ later_ending (read_rest counted (drop n s) w)
  unfolding later_walk later_ending
  rest-later counted (Ok used) = tail-later counted used
  rest-later counted (Err refusal) = refl

  judged-later : (e : Result Ending Refusal) (largest delay count : ℕ) (pairs xs : List ℕ)
      → after_rest (later_ending e) largest delay count pairs xs ≡ later n (after_rest e largest delay count pairs xs)
  unfolding later_ending
  judged-later (Err refusal) largest delay count pairs xs = refl
  judged-later (Ok e) largest delay count pairs xs =
      pick-both (λ (r q : AckRead). r ≡ later n q) (leb (2 * (count + 1)) (length xs)) refl refl

  read-later : (at largest delay count : ℕ) (counted : Bool) (xs : List ℕ)
      → read_ranges s (n + at) largest delay count counted xs ≡ later n (read_ranges (drop n s) at largest delay count counted xs)
  unfolding read_ranges later_ranges SameRanges
  read-later at largest delay count counted xs =
      rw (ranges-later count at largest, rest-later counted (ranges_from count (drop n s) at largest).walk)
      (judged-later (read_rest counted (drop n s) (ranges_from count (drop n s) at largest).walk) largest delay count (ranges_from count (drop n s) at largest).pairs xs)

  fields-later : (kind at : ℕ) (xs : List ℕ) → ack_fields_at kind s (n + at) (refused Ends xs) (reads s xs) ≡ later n (ack_fields_at kind (drop n s) at (refused Ends xs) (reads (drop n s) xs))
  fields-later kind at xs =
      step Same at refl (λ largest at1 mid e1. rw e1
      (step Same at1 refl (λ delay at2 mid e2. rw e2
      (step Same at2 refl (λ count at3 mid e3. rw e3
      (read-later at3 largest delay count (eqb kind counts_type) xs))))))
    where
      Same : AckRead → AckRead → Type 0
      Same r q = r ≡ later n q

-- ---- the frames

pub frequency-after-type : FrequencyAfterType
frequency-after-type s kind start e =
    rw e
    (pick-both (λ (r q : Result Frequency Refusal). r ≡ later_frequency start q) (among kind (frequency_type ∷ []))
    (rw (add-zero start) at (thresholds-later start s (within s 0 e) 0))
    refl)

pub ack-after-type : AckAfterType
ack-after-type s xs kind start e =
    rw e
    (pick-both (λ (r q : AckRead). r ≡ later start q) (is_ack kind)
    (rw (add-zero start) at (fields-later start s (within s 0 e) kind 0 xs))
    refl)
