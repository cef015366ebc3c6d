-- The refusal table for the three frames, proved: the rows hold at the end of each frame, and so at each field before it.
-- Assumes nothing.
use Prim.Native.Nat.{ℕ, zero, suc, ◌+◌, ◌-◌, ◌*◌, ◌≤◌, ◌<◌}
use mathlib.Core.Path.{◌≡◌, refl, sym, ap}
use mathlib.Core.Bool.{Bool, true, false}
use mathlib.Core.List.{List, [], ◌∷◌}
use native.Mathlib.Nat.{add-zero}
use native.Mathlib.Omega.{arith}
use borrow.Author.Tests.{eqb-false, le-leb, lt-leb}
use lib.Dec.{leb, eqb}
use lib.ListN.{length, take}
use Rattle.std.specs.Prelude.{Result, Ok, Err}
use Rattle.wire.specs.Bytes.{pick, splice}
use Rattle.wire.specs.Fields.{field}
use Rattle.wire.specs.Numbers.{read_number}
use Rattle.wire.specs.Refusals.{number_of, refusal_number}
use Rattle.wire.specs.Exactly.{OneOf}
use Rattle.wire.specs.declared.Refusal.{Refusal}
use Rattle.wire.specs.declared.Refusal.TheVariants.{Ends, OtherType, NoRoom, BelowZero}
use Rattle.wire.proofs.Lengths.{split}
use Rattle.frames.specs.Types.{frequency_type, immediate_type, counts_type, ack_types}
use Rattle.frames.specs.Frequency.{read_thresholds}
use Rattle.frames.specs.Ack.{Ranges, ended, before, range, below, ranges_from, read_tail, read_rest, ack, AckRead, refused, after_rest, read_ranges, ack_fields_at}
use Rattle.frames.specs.Exactly.{Reads, FrequencyReads, FrequencyReadsAs, ImmediateReads, of_ranges, asked, count, down, Below, NotBelow, AckReads, AckReadsAs}
use Rattle.frames.specs.declared.Ending.{Ending}
use Rattle.frames.proofs.Chain.{chain, chain-rows}
use Rattle.frames.proofs.Faults.{frequency-others, frequency-others-as, immediate-others, ack-others, ack-others-as}
use Rattle.frames.proofs.Rows.{Rows, FrameRows, nothing, at_once, never, here, field-rows, rows-map, frame-rows, frame-rows-as, through}

-- ---- frames of n numbers: no room is judged

numbers-rows : (n : ℕ) (s : List ℕ) (at : ℕ) → Rows s at (chain 0 0 n s at) (λ vs. length vs < n) (λ vs. ⊥) (λ vs. ⊥) (λ vs. length vs ≡ n)
numbers-rows n s at =
    rows-map
    (λ vs. (λ p. p, λ p. p))
    (λ vs. (λ p. p, λ p. p))
    (λ vs. (λ p. omega (arith, p.1), λ p. absurd p))
    (λ vs. (λ p. p.0, λ p. (p, omega arith)))
    (chain-rows 0 0 n s at)

frame-reads : {type n : ℕ} {s : List ℕ} {refusal : ℕ}
    → FrameRows (type ∷ []) s refusal (λ kind vs. length vs < n) (λ kind vs. ⊥) (λ kind vs. ⊥) (λ kind vs. length vs ≡ n)
    → OneOf refusal (0 ∷ 2 ∷ 3 ∷ []) → Reads type n s refusal
frame-reads r o = record { three = r.three; two = r.two; accepted = r.accepted; others = o }

four : (s : List ℕ) (at : ℕ) → refusal_number (read_thresholds s at) ≡ chain 0 0 4 s at
unfolding chain
four s at =
    through refusal_number (read_number s at) refl (λ q at1.
    through refusal_number (read_number s at1) refl (λ t at2.
    through refusal_number (read_number s at2) refl (λ d at3.
    through refusal_number (read_number s at3) refl (λ r used. refl))))

pub frequency-reads : FrequencyReads
frequency-reads s = frame-reads (frame-rows refusal_number (frequency_type ∷ []) s (Err Ends) (Err OtherType) _ refl refl (λ kind at. rw four (numbers-rows 4 s at))) (frequency-others s)

pub frequency-reads-as : FrequencyReadsAs
frequency-reads-as kind s =
    let rows : Rows s 0 (refusal_number (read_thresholds s 0)) (λ vs. length vs < 4) (λ vs. ⊥) (λ vs. ⊥) (λ vs. length vs ≡ 4) = rw four (numbers-rows 4 s 0) in
    let r = frame-rows-as refusal_number (frequency_type ∷ []) kind s (Err OtherType) (read_thresholds s 0) refl rows in
    record { three = r.three; two = r.two; accepted = r.accepted; others = frequency-others-as kind s }

pub immediate-reads : ImmediateReads
unfolding chain
immediate-reads s = frame-reads (frame-rows refusal_number (immediate_type ∷ []) s (Err Ends) (Err OtherType) _ refl refl (λ kind at. numbers-rows 0 s at)) (immediate-others s)

-- ---- ACK: the ranges

-- the refusal of a frame that ended so, with the room for all its ranges
end_refusal : ℕ → ℕ → Result Ending Refusal → ℕ
end_refusal need room (Err refusal) = number_of refusal
end_refusal need room (Ok e) = pick (leb need room) 0 9

-- how many counts come after the ranges
many : Bool → ℕ
many counted = pick counted 3 0

tail-told : (need room : ℕ) (counted : Bool) (s : List ℕ) (at : ℕ) → end_refusal need room (read_tail counted s at) ≡ chain need room (many counted) s at
unfolding end_refusal read_tail chain many
tail-told need room false s at = refl
tail-told need room true s at =
    through (end_refusal need room) (read_number s at) refl (λ ect0 at1.
    through (end_refusal need room) (read_number s at1) refl (λ ect1 at2.
    through (end_refusal need room) (read_number s at2) refl (λ ce used. refl)))

module _ (s : List ℕ) (counted : Bool) (total room : ℕ) where
  told : Ranges → ℕ
  told r = end_refusal (2 * (total + 1)) room (read_rest counted s r.walk)

  -- the rows of n more lengths and gaps, the first of which leads down by so much further, from high on
  StepRows : ℕ → ℕ → ℕ → ℕ → ℕ → Type 0
  StepRows further n high at refusal =
      Rows s at refusal
      (λ vs. (length vs < n + many counted) × (down further (take n vs) ≤ high))
      (λ vs. (length vs ≤ n) × (high < down further (take n vs)))
      (λ vs. (length vs ≡ n + many counted) × (down further (take n vs) ≤ high) × (room < 2 * (total + 1)))
      (λ vs. (length vs ≡ n + many counted) × (down further (take n vs) ≤ high) × (2 * (total + 1) ≤ room))

  -- none more: the counts come
  no_steps : (further high at : ℕ) → StepRows further 0 high at (told (ended (Ok at)))
  unfolding StepRows told down
  no_steps further high at =
      rw tail-told
      (rows-map
      (λ vs. (λ p. (omega arith, omega arith), λ p. omega (arith, p.0)))
      (λ vs. (λ p. absurd p, λ p. omega (arith, p.1)))
      (λ vs. (λ p. (omega (arith, p.0), omega arith, p.1), λ p. (omega (arith, p.0), p.2)))
      (λ vs. (λ p. (omega (arith, p.0), omega arith, p.1), λ p. (omega (arith, p.0), p.2)))
      (chain-rows (2 * (total + 1)) room (many counted) s at))

  -- one more
  step-rows : (further n high at : ℕ) (test : ℕ → Bool) (rest : ℕ → ℕ → ℕ) → ((v : ℕ) → test v ≡ leb (v + further) high)
      → ((v next : ℕ) → v + further ≤ high → StepRows (2 - further) n (high - (v + further)) next (rest v next))
      → StepRows further (suc n) high at (field (read_number s at) 2 (λ v next. pick (test v) (rest v next) 14))
  unfolding StepRows down
  step-rows further n high at test rest t rows =
      field-rows (omega arith, omega arith) (λ p. omega (arith, p.1)) (λ p. omega (arith, p.0)) (λ p. omega (arith, p.0))
      (λ v next.
      split (v + further) high
      (λ l.
      rw (t v, le-leb (v + further) high l)
      (rows-map
      (λ vs. (λ p. (omega (arith, p.0), omega (arith, p.1)), λ p. (omega (arith, p.0), omega (arith, p.1))))
      (λ vs. (λ p. (omega (arith, p.0), omega (arith, p.1)), λ p. (omega (arith, p.0), omega (arith, p.1))))
      (λ vs. (λ p. (omega (arith, p.0), omega (arith, p.1), p.2), λ p. (omega (arith, p.0), omega (arith, p.1), p.2)))
      (λ vs. (λ p. (omega (arith, p.0), omega (arith, p.1), p.2), λ p. (omega (arith, p.0), omega (arith, p.1), p.2)))
      (rows v next l)))
      (λ l.
      rw (t v, lt-leb (v + further) high l)
      (record {
        three = eqb-false 14 3 refl;
        two = never (eqb-false 14 2 refl) (nothing (λ vs next p. omega (arith, p.0.1)));
        fourteen = here (at_once (omega arith, omega arith));
        nine = never (eqb-false 14 9 refl) (nothing (λ vs next p. omega (arith, p.1)));
        accepted = never (eqb-false 14 0 refl) (nothing (λ vs next p. omega (arith, p.1)));
      })))

  tested : (b : Bool) (r : Ranges) → told (pick b r (ended (Err BelowZero))) ≡ pick b (told r) 14
  unfolding told end_refusal
  tested true r = refl
  tested false r = refl

  -- a length and a gap, as steps
  range-told : (at high : ℕ) (f : ℕ → ℕ → Ranges)
      → told (range s at high f) ≡ field (read_number s at) 2 (λ len next. pick (leb len high) (told (f (high - len) next)) 14)
  unfolding told end_refusal
  range-told at high f = through told (read_number s at) refl (λ len next. tested (leb len high) (before (high - len) high (f (high - len) next)))

  below-told : (at low : ℕ) (f : ℕ → ℕ → Ranges)
      → told (below s at low f) ≡ field (read_number s at) 2 (λ gap next. pick (leb (gap + 2) low) (told (f (low - gap - 2) next)) 14)
  unfolding told end_refusal
  below-told at low f = through told (read_number s at) refl (λ gap next. tested (leb (gap + 2) low) (f (low - gap - 2) next))

  length-test : (high len : ℕ) → leb len high ≡ leb (len + 0) high
  length-test high len = ap (λ (n : ℕ). leb n high) (sym (add-zero len))

  -- a first range and left ranges after it
  walk_rows : (left high at : ℕ) → StepRows 0 (suc (2 * left)) high at (told (ranges_from left s at high))
  unfolding ranges_from
  walk_rows zero high at =
      rw range-told (step-rows 0 0 high at (λ len. leb len high) _ (length-test high) (λ len next h. no_steps 2 (high - (len + 0)) next))
  walk_rows (suc left) high at =
      let n : suc (2 * suc left) ≡ suc (suc (suc (2 * left))) = omega arith in
      rw (n, range-told)
      (step-rows 0 (suc (suc (2 * left))) high at (λ len. leb len high) _ (length-test high)
      (λ len mid h.
      rw (add-zero, below-told)
      (step-rows 2 (suc (2 * left)) (high - len) mid (λ gap. leb (gap + 2) (high - len)) _ (λ gap. refl)
      (λ gap next l.
      let m : high - len - (gap + 2) ≡ high - len - gap - 2 = omega arith in
      rw m (walk_rows left (high - len - gap - 2) next)))))

-- ---- ACK: the frame

abbrev refusal : AckRead → ℕ
refusal r = refusal_number r.answer

after-rest-told : (largest delay count : ℕ) (pairs xs : List ℕ) (w : Result Ending Refusal) → refusal (after_rest w largest delay count pairs xs) ≡ end_refusal (2 * (count + 1)) (length xs) w
unfolding end_refusal
after-rest-told largest delay count pairs xs (Err refusal) = refl
after-rest-told largest delay count pairs xs (Ok e) = go (leb (2 * (count + 1)) (length xs))
  where
    go : (b : Bool) → refusal (pick b (record { answer = ack largest delay (count + 1) e.used e.tail; slice = splice xs 0 pairs }) (refused NoRoom xs)) ≡ pick b 0 9
    go true = refl
    go false = refl

-- the rows after the range count
ranges-rows : (s : List ℕ) (at largest delay count : ℕ) (counted : Bool) (xs : List ℕ)
    → Rows s at (refusal (read_ranges s at largest delay count counted xs))
    (λ vs. (length (largest ∷ delay ∷ count ∷ vs) < 4 + 2 * count + pick counted 3 0) × (down 0 (take (suc (2 * count)) vs) ≤ largest))
    (λ vs. (length (largest ∷ delay ∷ count ∷ vs) ≤ 4 + 2 * count) × (largest < down 0 (take (suc (2 * count)) vs)))
    (λ vs. (length (largest ∷ delay ∷ count ∷ vs) ≡ 4 + 2 * count + pick counted 3 0) × (down 0 (take (suc (2 * count)) vs) ≤ largest) × (length xs < 2 * (count + 1)))
    (λ vs. (length (largest ∷ delay ∷ count ∷ vs) ≡ 4 + 2 * count + pick counted 3 0) × (down 0 (take (suc (2 * count)) vs) ≤ largest) × (2 * (count + 1) ≤ length xs))
unfolding read_ranges StepRows told many
ranges-rows s at largest delay count counted xs =
    rw after-rest-told
    (rows-map
    (λ vs. (λ p. (omega (arith, p.0), p.1), λ p. (omega (arith, p.0), p.1)))
    (λ vs. (λ p. (omega (arith, p.0), p.1), λ p. (omega (arith, p.0), p.1)))
    (λ vs. (λ p. (omega (arith, p.0), p.1, p.2), λ p. (omega (arith, p.0), p.1, p.2)))
    (λ vs. (λ p. (omega (arith, p.0), p.1, p.2), λ p. (omega (arith, p.0), p.1, p.2)))
    (walk_rows s counted count (length xs) count largest at))

three-fields : (s xs : List ℕ) (counted : Bool) (at : ℕ)
    → refusal
    (field (read_number s at) (refused Ends xs) (λ largest at1.
    field (read_number s at1) (refused Ends xs) (λ delay at2.
    field (read_number s at2) (refused Ends xs) (λ count at3.
    read_ranges s at3 largest delay count counted xs))))
    ≡ field (read_number s at) 2 (λ largest at1.
    field (read_number s at1) 2 (λ delay at2.
    field (read_number s at2) 2 (λ count at3.
    refusal (read_ranges s at3 largest delay count counted xs))))
three-fields s xs counted at =
    through refusal (read_number s at) refl (λ largest at1.
    through refusal (read_number s at1) refl (λ delay at2.
    through refusal (read_number s at2) refl (λ count at3. refl)))

-- the rows after the type
ack-rows : (s xs : List ℕ) (kind at : ℕ)
    → Rows s at (refusal (ack_fields_at kind s at (refused Ends xs) (λ at3 largest delay count counted. read_ranges s at3 largest delay count counted xs)))
    (λ vs. (length vs < asked kind vs) × NotBelow vs)
    (λ vs. (length vs ≤ of_ranges vs) × Below vs)
    (λ vs. (length vs ≡ asked kind vs) × NotBelow vs × (length xs < 2 * (count vs + 1)))
    (λ vs. (length vs ≡ asked kind vs) × NotBelow vs × (2 * (count vs + 1) ≤ length xs))
unfolding down
ack-rows s xs kind at =
    rw (three-fields s xs (eqb kind counts_type) at)
    (field-rows (omega arith, omega arith) (λ p. omega (arith, p.1)) (λ p. omega (arith, p.0)) (λ p. omega (arith, p.0)) (λ largest at1.
    field-rows (omega arith, omega arith) (λ p. omega (arith, p.1)) (λ p. omega (arith, p.0)) (λ p. omega (arith, p.0)) (λ delay at2.
    field-rows (omega arith, omega arith) (λ p. omega (arith, p.1)) (λ p. omega (arith, p.0)) (λ p. omega (arith, p.0)) (λ count at3.
    ranges-rows s at3 largest delay count (eqb kind counts_type) xs))))

pub ack-reads : AckReads
ack-reads s xs =
    let r = frame-rows refusal ack_types s (refused Ends xs) (refused OtherType xs) _ refl refl (ack-rows s xs) in
    record { three = r.three; two = r.two; fourteen = r.fourteen; nine = r.nine; accepted = r.accepted; others = ack-others s xs }

pub ack-reads-as : AckReadsAs
ack-reads-as kind s xs =
    let r = frame-rows-as refusal ack_types kind s (refused OtherType xs) _ refl (ack-rows s xs kind 0) in
    record { three = r.three; two = r.two; fourteen = r.fourteen; nine = r.nine; accepted = r.accepted; others = ack-others-as kind s xs }
