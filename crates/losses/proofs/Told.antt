-- The record says exactly what the calls say, it stays consistent, and its totals add up: each call in turn.
-- Assumes nothing.
use Prim.Native.Nat.{ℕ, zero, suc, ◌+◌, ◌-◌, ◌^◌, ◌≤◌, ◌<◌}
use mathlib.Core.Path.{◌≡◌, refl, sym, ap, ap₂, ◌∙◌, subst}
use mathlib.Core.Bool.{Bool, true, not, ◌||◌}
use mathlib.Core.List.{List}
use native.Mathlib.Omega.{arith}
use borrow.Author.Tests.{lt-leb, lt-ltb, le-ltb}
use lib.ListN.{length, get_or-replicate}
use lib.Pow.{pow_pos}
use Rattle.frames.specs.Ack.{check_ack}
use Rattle.marks.specs.Marks.{listed}
use Rattle.marks.proofs.Listing.{listed_same}
use Rattle.sent.specs.Record.{State, Outstanding, Acknowledged, Lost, is_acknowledged, is_lost, most_held, next_of, acked_before, lost_before, end_of, acked_at, lost_at, is_outstanding, is_due, record_of, consistent}
use Rattle.sent.specs.Calls.{opened, send_refusal, unless_refused, with_sent}
use Rattle.sent.specs.Heard.{within, end_after, heard_state, state_after, Hearing, hear}
use Rattle.sent.proofs.Sound.{sound}
use Rattle.sent.proofs.Exactly.{exactly}
use Rattle.sent.proofs.Stays.{hear-stays}
use Rattle.sent.proofs.Records.{record_is, says-next, says-acked-before, says-lost-before, says-end, says-acked, says-lost}
use Rattle.losses.specs.Sequence.{Calls, none, ◌then◌, send_next, hear_frame, after, sending, hearing}
use Rattle.losses.specs.Told.{largest_in, ranges_in, sent_told, forgotten, end_told, then_told, told, is_out, count_of, record_told, ToldAlways, held_as, acknowledged_of, lost_of, outstanding_of, TotalsAddUp}
use Rattle.losses.proofs.Framed.{Accepted, within_low, accepted-is}
use Rattle.losses.proofs.Kept.{kept, opened-acked, opened-lost}
use Rattle.losses.proofs.Counting.{count_none, count-parts, three_ways}
use Rattle.losses.proofs.Along.{record_at, record-long, record-at-same, sent-record, heard-record}

-- what holds after some calls
pub record Holds (cs : Calls) : Type 0 where
  pub says : after cs ≡ record_told cs
  pub sound : consistent (after cs) ≡ true
  -- a number that was not sent has no state yet
  pub fresh : (n : ℕ) → sent_told cs ≤ n → told cs n ≡ Outstanding

-- ---- the opening

opening-holds : Holds none
unfolding after told sent_told end_told
opening-holds = record {
  says =
      record_is opened (told none) 0 (count_of is_acknowledged (told none) 0) (count_of is_lost (told none) 0) 0 refl
      (λ i h. subst (λ (x : ℕ). x < 2 ^ 64) (sym (get_or-replicate 36 i 0 0 (omega arith))) (pow_pos 64)) (λ n lo hi. opened-acked n) (λ n lo hi. opened-lost n)
      refl (sym (count_none is_acknowledged (told none))) (sym (count_none is_lost (told none))) refl;
  sound = kept.opening;
  fresh = λ n h. refl;
}

-- ---- a send

send-holds : (cs : Calls) → Holds cs → Holds (cs then send_next)
unfolding after told sent_told end_told
send-holds cs h = record {
  says = saying (sending cs) refl;
  sound = kept.send (after cs) (ap length h.says ∙ record-long (told cs) (sent_told cs) _ _ (end_told cs)) h.sound;
  fresh = λ n l. h.fresh n (below (sending cs) n l);
}
  where
    saying : (x : ℕ) → sending cs ≡ x → unless_refused x (after cs) (with_sent (after cs)) ≡ record_at (told cs) (unless_refused x (sent_told cs) (sent_told cs + 1)) (end_told cs)
    saying (suc x) e = h.says
    saying zero e =
        let a = (exactly.send (record_told cs)).accepted.0 (subst (λ (r : List ℕ). send_refusal r ≡ 0) h.says e) in
        let k = says-next (told cs) (sent_told cs) (count_of is_acknowledged (told cs) (forgotten cs)) (count_of is_lost (told cs) (forgotten cs)) (end_told cs) in
        ap with_sent h.says ∙ sent-record (told cs) (sent_told cs) (end_told cs) a.0 (omega (arith, a.1.0, k)) a.1.1 (h.fresh (sent_told cs) (omega arith))

    below : (x n : ℕ) → unless_refused x (sent_told cs) (sent_told cs + 1) ≤ n → sent_told cs ≤ n
    below zero n l = omega arith
    below (suc x) n l = l

-- ---- a frame that is accepted

module _ (cs : Calls) (s : List ℕ) (ackedRoom lostRoom : ℕ) (h : Holds cs) (yes : (hearing cs s ackedRoom lostRoom).result ≡ 0) where
  abbrev cs' : Calls
  cs' = cs then hear_frame s ackedRoom lostRoom

  pub frame-end : end_told (cs then hear_frame s ackedRoom lostRoom) ≡ end_told cs + (largest_in (check_ack s) + 1 - end_told cs)
  unfolding end_told
  frame-end = ap (λ (x : ℕ). unless_refused x (end_told cs) (end_told cs + (largest_in (check_ack s) + 1 - end_told cs))) yes

  then-told : (n : ℕ) → told (cs then hear_frame s ackedRoom lostRoom) n ≡ then_told (forgotten cs) (ranges_in s (check_ack s)) (end_told (cs then hear_frame s ackedRoom lostRoom)) n (told cs n)
  unfolding told
  then-told n = ap (λ (x : ℕ). unless_refused x (told cs n) (then_told (forgotten cs) (ranges_in s (check_ack s)) (end_told (cs then hear_frame s ackedRoom lostRoom)) n (told cs n))) yes

  pub held-told : (n : ℕ) → forgotten cs ≤ n → told (cs then hear_frame s ackedRoom lostRoom) n ≡ heard_state (within (ranges_in s (check_ack s)) n) (is_due (end_told (cs then hear_frame s ackedRoom lostRoom)) n) (told cs n)
  held-told n l = then-told n ∙ rw (le-ltb n (forgotten cs) l) refl

  pub gone-told : (n : ℕ) → n < forgotten cs → told (cs then hear_frame s ackedRoom lostRoom) n ≡ told cs n
  gone-told n l = then-told n ∙ rw (lt-ltb n (forgotten cs) l) refl

  pub accepted : Accepted (after cs) s (check_ack s) (hear (after cs) s ackedRoom lostRoom)
  accepted = accepted-is (after cs) s ackedRoom lostRoom yes

  says-sent : next_of (after cs) ≡ sent_told cs
  says-sent = ap next_of h.says ∙ says-next (told cs) (sent_told cs) _ _ (end_told cs)

  pub largest-sent : largest_in (check_ack s) < sent_told cs
  largest-sent = omega (arith, accepted.sent, says-sent)

  end-sent : end_told cs ≤ sent_told cs
  end-sent =
      let c = sound (after cs) h.sound in
      let e : end_of (after cs) ≡ end_told cs = ap end_of h.says ∙ says-end (told cs) (sent_told cs) _ _ (end_told cs) in
      omega (arith, c.largest, e, says-sent)

  frame-says : (hear (after cs) s ackedRoom lostRoom).words ≡ record_at (told (cs then hear_frame s ackedRoom lostRoom)) (sent_told cs) (end_told (cs then hear_frame s ackedRoom lostRoom))
  frame-says =
      ap (λ (x : Hearing). x.words) accepted.is
      ∙ ap (λ (r : List ℕ). record_of (state_after r (ranges_in s (check_ack s)) (end_after r (largest_in (check_ack s)))) (next_of r) (acked_before r) (lost_before r) (end_after r (largest_in (check_ack s)))) h.says
      ∙ heard-record (told cs) (told cs') (sent_told cs) (end_told cs) (end_told cs') (ranges_in s (check_ack s)) (largest_in (check_ack s)) frame-end held-told gone-told

  pub frame_fresh : (n : ℕ) → sent_told cs ≤ n → told (cs then hear_frame s ackedRoom lostRoom) n ≡ Outstanding
  frame_fresh n l =
      held-told n (omega arith)
      ∙ ap₂ (λ (w d : Bool). heard_state w d (told cs n)) (within_low s (check_ack s) n (omega (arith, largest-sent))) (lt-leb (n + 4) (end_told cs') (omega (arith, frame-end, largest-sent, end-sent)))
      ∙ h.fresh n l

  frame-holds : Holds (cs then hear_frame s ackedRoom lostRoom)
  unfolding after sent_told
  frame-holds = record { says = frame-says; sound = kept.heard (after cs) s ackedRoom lostRoom h.sound; fresh = frame_fresh }

-- ---- a frame that is refused

module _ (cs : Calls) (s : List ℕ) (ackedRoom lostRoom f : ℕ) (no : (hearing cs s ackedRoom lostRoom).result ≡ suc f) where
  pub refused-told : (n : ℕ) → told (cs then hear_frame s ackedRoom lostRoom) n ≡ told cs n
  unfolding told
  refused-told n = ap (λ (x : ℕ). unless_refused x (told cs n) (then_told (forgotten cs) (ranges_in s (check_ack s)) (end_told (cs then hear_frame s ackedRoom lostRoom)) n (told cs n))) no

  refused_end : end_told (cs then hear_frame s ackedRoom lostRoom) ≡ end_told cs
  unfolding end_told
  refused_end = ap (λ (x : ℕ). unless_refused x (end_told cs) (end_told cs + (largest_in (check_ack s) + 1 - end_told cs))) no

  pub refused-not : (hearing cs s ackedRoom lostRoom).result ≡ 0 → ⊥
  refused-not e = let z : suc f ≡ 0 = sym no ∙ e in omega arith

  refused-holds : Holds cs → Holds (cs then hear_frame s ackedRoom lostRoom)
  unfolding after sent_told
  refused-holds h = record {
    says =
        (hear-stays (after cs) s ackedRoom lostRoom).words refused-not ∙ h.says ∙ record-at-same (told cs) (told (cs then hear_frame s ackedRoom lostRoom)) (sent_told cs) (end_told cs) (λ n. sym (refused-told n))
        ∙ ap (record_at (told (cs then hear_frame s ackedRoom lostRoom)) (sent_told cs)) (sym refused_end);
    sound = kept.heard (after cs) s ackedRoom lostRoom h.sound;
    fresh = λ n l. refused-told n ∙ h.fresh n l;
  }

-- a call is accepted or refused
pub either_way : {P : Type 0} (x : ℕ) → (x ≡ 0 → P) → ((f : ℕ) → x ≡ suc f → P) → P
either_way zero p q = p refl
either_way (suc f) p q = q f refl

-- ---- all calls

pub holds : (cs : Calls) → Holds cs
holds none = opening-holds
holds (cs then send_next) = send-holds cs (holds cs)
holds (cs then hear_frame s ackedRoom lostRoom) =
    either_way (hearing cs s ackedRoom lostRoom).result (λ e. frame-holds cs s ackedRoom lostRoom (holds cs) e) (λ f e. refused-holds cs s ackedRoom lostRoom f e (holds cs))

pub told-always : ToldAlways
told-always cs = record { says = (holds cs).says; sound = (holds cs).sound }

-- ---- the totals

module _ (cs : Calls) where
  abbrev a0 : ℕ
  a0 = count_of is_acknowledged (told cs) (forgotten cs)

  abbrev l0 : ℕ
  l0 = count_of is_lost (told cs) (forgotten cs)

  abbrev r : List ℕ
  r = record_told cs

  next-is : next_of r ≡ sent_told cs
  next-is = says-next (told cs) (sent_told cs) a0 l0 (end_told cs)

  -- a test of the held numbers by their marks, and by their states
  held_same : (p : ℕ → Bool) (is : State → Bool) → ((n : ℕ) → forgotten cs ≤ n → n < forgotten cs + most_held → p n ≡ is (told cs n)) → held_as p r ≡ length (listed (λ n. is (told cs n)) (sent_told cs - forgotten cs) (forgotten cs))
  held_same p is h =
      ap (λ (x : ℕ). length (listed p (x - (x - most_held)) (x - most_held))) next-is
      ∙ ap length (listed_same p (λ n. is (told cs n)) (sent_told cs - forgotten cs) (forgotten cs) (λ n lo hi. h n lo (omega arith)))

  acked-total : acknowledged_of r ≡ count_of is_acknowledged (told cs) (sent_told cs)
  acked-total =
      ap₂ ◌+◌ (says-acked-before (told cs) (sent_told cs) a0 l0 (end_told cs)) (held_same (acked_at r) is_acknowledged (says-acked (told cs) (sent_told cs) a0 l0 (end_told cs)))
      ∙ sym (count-parts is_acknowledged (told cs) (forgotten cs) (sent_told cs) (omega arith))

  lost-total : lost_of r ≡ count_of is_lost (told cs) (sent_told cs)
  lost-total =
      ap₂ ◌+◌ (says-lost-before (told cs) (sent_told cs) a0 l0 (end_told cs)) (held_same (lost_at r) is_lost (says-lost (told cs) (sent_told cs) a0 l0 (end_told cs)))
      ∙ sym (count-parts is_lost (told cs) (forgotten cs) (sent_told cs) (omega arith))

  out-by-marks : (s : State) → not (is_acknowledged s || is_lost s) ≡ is_out s
  out-by-marks Outstanding = refl
  out-by-marks Acknowledged = refl
  out-by-marks Lost = refl

  held_out : outstanding_of r ≡ length (listed (λ n. is_out (told cs n)) (sent_told cs - forgotten cs) (forgotten cs))
  held_out =
      held_same (is_outstanding r) is_out (λ n lo hi.
      ap₂ (λ (a b : Bool). not (a || b)) (says-acked (told cs) (sent_told cs) a0 l0 (end_told cs) n lo hi) (says-lost (told cs) (sent_told cs) a0 l0 (end_told cs) n lo hi) ∙ out-by-marks (told cs n))

  -- none of the forgotten is outstanding: their totals add up to their number
  none-forgotten : count_of is_out (told cs) (forgotten cs) ≡ 0
  none-forgotten =
      let c = sound r (subst (λ (x : List ℕ). consistent x ≡ true) (holds cs).says (holds cs).sound) in
      omega (arith, c.totals, next-is, says-acked-before (told cs) (sent_told cs) a0 l0 (end_told cs), says-lost-before (told cs) (sent_told cs) a0 l0 (end_told cs), three_ways (told cs) (forgotten cs) 0)

  out-total : outstanding_of r ≡ count_of is_out (told cs) (sent_told cs)
  out-total = held_out ∙ sym (count-parts is_out (told cs) (forgotten cs) (sent_told cs) (omega arith) ∙ ap (λ (x : ℕ). x + length (listed (λ n. is_out (told cs n)) (sent_told cs - forgotten cs) (forgotten cs))) none-forgotten ∙ zero-plus _)
    where
      zero-plus : (x : ℕ) → 0 + x ≡ x
      zero-plus x = omega arith

pub totals-add-up : TotalsAddUp
totals-add-up cs =
    let e = (holds cs).says in
    record {
      sent = ap next_of e ∙ next-is cs;
      acknowledged = ap acknowledged_of e ∙ acked-total cs;
      lost = ap lost_of e ∙ lost-total cs;
      outstanding = ap outstanding_of e ∙ out-total cs;
      add-up = ap (λ (x : List ℕ). outstanding_of x + (acknowledged_of x + lost_of x)) e ∙ ap₂ ◌+◌ (out-total cs) (ap₂ ◌+◌ (acked-total cs) (lost-total cs)) ∙ three_ways (told cs) (sent_told cs) 0 ∙ sym (ap next_of e ∙ next-is cs);
    }
