-- What calls after an opening are answered: the rows of the table, read on the record that says what the calls told.
-- Assumes nothing.
use Prim.Native.Nat.{ℕ, ◌+◌, ◌-◌, ◌≤◌, ◌<◌}
use mathlib.Core.Path.{◌≡◌, refl, sym, ap, ap₂, ◌∙◌, subst}
use mathlib.Core.Bool.{Bool, true, false, not, ◌&&◌, ◌||◌}
use mathlib.Core.List.{List, [], ◌++◌}
use native.Mathlib.Omega.{arith}
use borrow.Author.Tests.{lt-ltb, le-ltb}
use Rattle.std.specs.Prelude.{Result, Ok, Err}
use Rattle.wire.specs.declared.Refusal.{Refusal}
use Rattle.frames.specs.Ack.{check_ack}
use Rattle.frames.specs.declared.Checked.{Checked}
use Rattle.marks.specs.Marks.{listed}
use Rattle.marks.proofs.Listing.{list-none, first-none, listed_same}
use Rattle.sent.specs.Record.{State, Outstanding, is_acknowledged, is_lost, most_held, next_of, acked_before, lost_before, floor_of, state_at, is_outstanding, is_due, record_of}
use Rattle.sent.specs.Calls.{unless_refused}
use Rattle.sent.specs.Heard.{Hearing, within, end_after, heard_state, state_after, newly, newly_in, hear}
use Rattle.sent.specs.Exactly.{Consistent, IsFull, Checks, HasRoom}
use Rattle.sent.proofs.Sound.{sound}
use Rattle.sent.proofs.Exactly.{exactly}
use Rattle.sent.proofs.Stays.{hear-stays}
use Rattle.sent.proofs.Records.{says-next, says-state, says-acked, says-lost, says-acked-before, says-lost-before}
use Rattle.losses.specs.Sequence.{Calls, after, hearing}
use Rattle.losses.specs.Told.{largest_in, ranges_in, sent_told, forgotten, end_told, told, count_of, record_told}
use Rattle.losses.specs.Answers.{SendTold, SendsTold, SixteenFirst, would_tell, would_list, RoomFor, ThenNine, ForgottenStay}
use Rattle.losses.proofs.Framed.{accepted-is}
use Rattle.losses.proofs.Counting.{listed-split}
use Rattle.losses.proofs.Along.{same-state}
use Rattle.losses.proofs.Kept.{is-outstanding}
use Rattle.losses.proofs.Told.{holds, either_way, gone-told, refused-told}

module _ (cs : Calls) where
  abbrev r : List ℕ
  r = after cs

  fine : Consistent r
  fine = sound r (holds cs).sound

  next-is : next_of r ≡ sent_told cs
  next-is = ap next_of (holds cs).says ∙ says-next (told cs) (sent_told cs) (count_of is_acknowledged (told cs) (forgotten cs)) (count_of is_lost (told cs) (forgotten cs)) (end_told cs)

  -- the oldest, by its marks
  oldest : is_outstanding r (floor_of r) ≡ not (is_acknowledged (told cs (forgotten cs)) || is_lost (told cs (forgotten cs)))
  oldest =
      let a : ℕ = count_of is_acknowledged (told cs) (forgotten cs) in
      let l : ℕ = count_of is_lost (told cs) (forgotten cs) in
      ap (λ (x : ℕ). is_outstanding r (x - most_held)) next-is ∙ ap (λ (x : List ℕ). is_outstanding x (forgotten cs)) (holds cs).says
      ∙ ap₂ (λ (x y : Bool). not (x || y)) (says-acked (told cs) (sent_told cs) a l (end_told cs) (forgotten cs) (omega arith) (omega arith)) (says-lost (told cs) (sent_told cs) a l (end_told cs) (forgotten cs) (omega arith) (omega arith))

  full_is : most_held ≤ sent_told cs → told cs (forgotten cs) ≡ Outstanding → IsFull r
  full_is h o = (omega (arith, next-is), oldest ∙ ap (λ (s : State). not (is_acknowledged s || is_lost s)) o)

  full-says : IsFull r → (most_held ≤ sent_told cs) × (told cs (forgotten cs) ≡ Outstanding)
  full-says f = (omega (arith, next-is, f.0), is-outstanding (told cs (forgotten cs)) (sym oldest ∙ f.1))

  send-told : SendTold cs
  send-told =
      let rows = exactly.send r in
      record {
        five = λ h. rows.five.1 (fine, omega (arith, next-is));
        nine = λ h l o. rows.nine.1 (fine, (omega (arith, next-is), full_is l o));
        uses-its-room = λ h l n. rows.accepted.1 (fine, (omega (arith, next-is), λ f. n (full-says f).1));
        has_room = λ h. rows.accepted.1 (fine, (omega (arith, next-is), λ f. omega (arith, (full-says f).0)));
        number = λ e. ap (λ (x : ℕ). unless_refused x 0 (next_of r)) e ∙ next-is;
      }

pub sends-told : SendsTold
sends-told cs = send-told cs

-- what the record lists, by its marks, is what the calls tell: a forgotten number's state stays, and of the others the marks say the states
module _ (cs : Calls) (s : List ℕ) (is : State → Bool) where
  abbrev k : ℕ
  k = sent_told cs

  abbrev pairs : List ℕ
  pairs = ranges_in s (check_ack s)

  abbrev largest : ℕ
  largest = largest_in (check_ack s)

  abbrev end : ℕ
  end = end_told cs + (largest + 1 - end_told cs)

  abbrev by-calls : ℕ → Bool
  by-calls n = newly is (told cs n) (would_tell cs s n)

  abbrev by-marks : ℕ → Bool
  by-marks n = newly is (state_at (record_told cs) n) (state_after (record_told cs) pairs (end_after (record_told cs) largest) n)

  gone : (n : ℕ) → n < forgotten cs → would_tell cs s n ≡ told cs n
  gone n h = rw (lt-ltb n (forgotten cs) h) refl

  held : (n : ℕ) → forgotten cs ≤ n → would_tell cs s n ≡ heard_state (within pairs n) (is_due end n) (told cs n)
  held n h = rw (le-ltb n (forgotten cs) h) refl

  none-gone : listed by-calls (forgotten cs) 0 ≡ []
  none-gone =
      list-none by-calls (forgotten cs) 0 (subst (λ (x : ℕ). 0 + forgotten cs ≤ x) (sym (first-none by-calls (forgotten cs) 0 (λ q h.
      ap (λ (x : State). newly is (told cs (0 + q)) x) (gone (0 + q) (omega arith)) ∙ not_new (is (told cs (0 + q)))))) (omega arith))
    where
      not_new : (b : Bool) → (b && not b) ≡ false
      not_new true = refl
      not_new false = refl

  same_tests : (n : ℕ) → forgotten cs ≤ n → n < forgotten cs + (k - forgotten cs) → by-marks n ≡ by-calls n
  same_tests n lo hi =
      ap₂ (newly is)
      (says-state (told cs) k (count_of is_acknowledged (told cs) (forgotten cs)) (count_of is_lost (told cs) (forgotten cs)) (end_told cs) n lo (omega arith))
      (same-state (told cs) (would_tell cs s) k (end_told cs) end pairs largest refl held gone n lo (omega arith))

  lists-same : newly_in is (after cs) (ranges_in s (check_ack s)) (end_after (after cs) (largest_in (check_ack s))) ≡ would_list is cs s
  unfolding newly_in would_list
  lists-same =
      let f : ℕ = forgotten cs in
      let all : f + (k - f) ≡ k = omega arith in
      let from : 0 + f ≡ f = omega arith in
      ap (λ (r : List ℕ). newly_in is r pairs (end_after r largest)) (holds cs).says
      ∙ ap (λ (x : ℕ). listed by-marks (x - (x - most_held)) (x - most_held)) (says-next (told cs) k (count_of is_acknowledged (told cs) f) (count_of is_lost (told cs) f) (end_told cs))
      ∙ listed_same by-marks by-calls (k - f) f same_tests
      ∙ sym (ap (λ (x : ℕ). listed by-calls x 0) (sym all) ∙ listed-split by-calls f (k - f) 0 ∙ ap₂ (λ (l : List ℕ) (x : ℕ). l ++ listed by-calls (k - f) x) none-gone from)

-- a frame that is checked, and what follows from what holds of it
checked-so : (s : List ℕ) (P Q : ℕ → List ℕ → Type 0) (k : Result Checked Refusal) → (P (largest_in k) (ranges_in s k) → Q (largest_in k) (ranges_in s k)) → Checks s k P → Checks s k Q
checked-so s P Q (Ok c) f p = f p
checked-so s P Q (Err refusal) f p = p

pub sixteen-first : SixteenFirst
sixteen-first cs s ackedRoom lostRoom h =
    (exactly.heard (after cs) s ackedRoom lostRoom).sixteen.1 (fine cs, checked-so s (λ largest pairs. sent_told cs ≤ largest) (λ largest pairs. next_of (after cs) ≤ largest) (check_ack s) (λ l. omega (arith, next-is cs, l)) h)

pub then-nine : ThenNine
then-nine cs s ackedRoom lostRoom h = record {
  without-room = λ no.
      (exactly.heard (after cs) s ackedRoom lostRoom).nine.1 (fine cs, checked-so s (λ largest pairs. largest < sent_told cs) (λ largest pairs. (largest < next_of (after cs)) × (HasRoom (after cs) ackedRoom lostRoom largest pairs → ⊥)) (check_ack s) (λ l. (omega (arith, next-is cs, l), λ room. no (told-room room))) h);
  with-room = yes;
  lists-acked = λ room. ap (λ (x : Hearing). x.acked) (accepted-is (after cs) s ackedRoom lostRoom (yes room)).is ∙ lists-same cs s is_acknowledged;
  lists-lost = λ room. ap (λ (x : Hearing). x.lost) (accepted-is (after cs) s ackedRoom lostRoom (yes room)).is ∙ lists-same cs s is_lost;
}
  where
    told-room : HasRoom (after cs) ackedRoom lostRoom (largest_in (check_ack s)) (ranges_in s (check_ack s)) → RoomFor cs s ackedRoom lostRoom
    told-room room = (rw (lists-same cs s is_acknowledged) at room.0, rw (lists-same cs s is_lost) at room.1)

    yes : RoomFor cs s ackedRoom lostRoom → (hearing cs s ackedRoom lostRoom).result ≡ 0
    yes room =
        (exactly.heard (after cs) s ackedRoom lostRoom).accepted.1 (fine cs, checked-so s (λ largest pairs. largest < sent_told cs) (λ largest pairs. (largest < next_of (after cs)) × HasRoom (after cs) ackedRoom lostRoom largest pairs) (check_ack s) (λ l. (omega (arith, next-is cs, l), (rw (lists-same cs s is_acknowledged) room.0, rw (lists-same cs s is_lost) room.1))) h)

-- ---- the forgotten

kept-totals : (total : List ℕ → ℕ) → ((r : List ℕ) (f : ℕ → State) (end : ℕ) → total (record_of f (next_of r) (acked_before r) (lost_before r) end) ≡ total r)
    → (r s : List ℕ) (ackedRoom lostRoom : ℕ) → total (hear r s ackedRoom lostRoom).words ≡ total r
kept-totals total same r s ackedRoom lostRoom =
    either_way (hear r s ackedRoom lostRoom).result
    (λ e.
    ap (λ (h : Hearing). total h.words) (accepted-is r s ackedRoom lostRoom e).is
    ∙ same r (state_after r (ranges_in s (check_ack s)) (end_after r (largest_in (check_ack s)))) (end_after r (largest_in (check_ack s))))
    (λ f e. ap total ((hear-stays r s ackedRoom lostRoom).words (λ z. let q : _ ≡ 0 = sym e ∙ z in omega arith)))

pub forgotten-stay : ForgottenStay
forgotten-stay = record {
  acked = kept-totals acked_before (λ r f end. says-acked-before f (next_of r) (acked_before r) (lost_before r) end);
  lost = kept-totals lost_before (λ r f end. says-lost-before f (next_of r) (acked_before r) (lost_before r) end);
  state = λ cs s ackedRoom lostRoom n h.
      either_way (hearing cs s ackedRoom lostRoom).result (λ e. gone-told cs s ackedRoom lostRoom (holds cs) e n h) (λ f e. refused-told cs s ackedRoom lostRoom f e n);
}
