-- Kept: each accepted call keeps every clause of what consistent means, so from an opening refusal 1 never comes.
-- Assumes nothing.
use Prim.Native.Nat.{ℕ, zero, suc, ◌+◌, ◌-◌, ◌^◌, ◌≤◌, ◌<◌, min, max}
use mathlib.Core.Path.{◌≡◌, refl, ap, subst, ◌∙◌}
use mathlib.Core.Bool.{Bool, true, false, ◌&&◌}
use native.Mathlib.Nat.{max-le, le-max_left, le-max_right, min-le_right, le-min}
use native.Mathlib.Omega.{arith}
use borrow.Author.Tests.{lt-ltb, le-ltb}
use lib.Dec.{leb, ltb, eqb}
use lib.ListN.{replicate, length-replicate}
use Rattle.wire.specs.Bytes.{pick}
use Rattle.wire.specs.Numbers.{limit}
use Rattle.wire.proofs.Lengths.{split}
use Rattle.receiver.specs.declared.Millis.{Millis}
use Rattle.seen.specs.declared.Micros.{Micros}
use Rattle.seen.specs.declared.Seen.{Seen}
use Rattle.receiver.specs.declared.Pending.{Pending}
use Rattle.receiver.specs.declared.Receiver.{Receiver}
use Rattle.seen.specs.Received.{seen_after, confirmed_after}
use Rattle.receiver.specs.Record.{consistent}
use Rattle.receiver.specs.Consistent.{Consistent}
use Rattle.receiver.specs.Packet.{pending_after, cause_after, first_cause, order, congestion, packet_after, plain_after, eliciting_after, standing}
use Rattle.receiver.specs.Confirm.{confirm_after}
use Rattle.receiver.specs.Calls.{timer_due, timer_after, immediate_after, agreed_after, with_cause}
use Rattle.receiver.proofs.Clauses.{consistent-exactly}
use Rattle.seen.proofs.After.{seen_end, seen-confirmed}
use Rattle.receiver.proofs.Emits.{write_keeps}
use Rattle.ecn.specs.declared.Mark.{Mark}
use Rattle.ecn.specs.declared.Kind.{Kind}
use Rattle.ecn.specs.declared.Mark.TheVariants.{None, Ect0, Ect1, Ce}
use Rattle.ecn.specs.declared.Totals.{Totals}
use Rattle.ecn.specs.Totals.{is_ce, totals_after}
use Rattle.promises.specs.Sequence.{Call, packet, timer, immediate, threshold, write, confirm, Calls, none, ◌then◌, Reply, accepted, stale, refused, Outcome, step, after, opening}
use Rattle.promises.specs.Kept.{Kept}
use Rattle.promises.proofs.Writing.{write-is-step}
use Rattle.promises.proofs.Rows.{not-one}
use Rattle.promises.proofs.Acceptance.{made, Meets, PacketMeets, FrameMeets, step_kept, step-made, step-meets}
use Rattle.promises.proofs.Openings.{opening-kept}
use Rattle.promises.proofs.WindowKept.{seen-marks}

-- ---- numbers and causes in range

pick-below : (b : Bool) (x y k : ℕ) → x ≤ k → y ≤ k → pick b x y ≤ k
pick-below true x y k f g = f
pick-below false x y k f g = g

time-below : (b : Bool) (x y : Micros) (k : ℕ) → x.0 ≤ k → y.0 ≤ k → (pick b x y).0 ≤ k
time-below true x y k f g = f
time-below false x y k f g = g

-- L's arrival time is the packet's or the earlier one
arrived-below : (s : Seen) (n : ℕ) (time : Micros) (k : ℕ) → s.arrived.0 ≤ k → time.0 ≤ k → (seen_after s n time).arrived.0 ≤ k
unfolding seen_after
arrived-below s n time k f g = split s.end n (λ h. rw (le-ltb n s.end h) g) (λ h. rw (lt-ltb n s.end h) f)

standing-below : (cause new : ℕ) → cause ≤ 5 → new ≤ 5 → standing cause new ≤ 5
standing-below zero new f g = g
standing-below (suc cause) new f g = f

first_below : (r : Receiver) (n : ℕ) (ce : Bool) (s : Seen) (p : Pending) → first_cause r n ce s p ≤ 5
unfolding first_cause
first_below r n ce s p =
    let o : Bool = order s r.agreed.reordering n r.highest r.acknowledged p.end in
    pick-below (ltb r.agreed.threshold p.count) 2 (pick o 3 (pick (congestion r ce) 4 0)) 5 (omega arith)
    (pick-below o 3 (pick (congestion r ce) 4 0) 5 (omega arith) (pick-below (congestion r ce) 4 0 5 (omega arith) (omega arith)))

-- no total passes its limit
totals-below : (t : Totals) (mark : Mark) → (t.ect0 ≤ limit) × (t.ect1 ≤ limit) × (t.ce ≤ limit) × (t.unmarked ≤ limit)
    → ((totals_after t mark).ect0 ≤ limit) × ((totals_after t mark).ect1 ≤ limit) × ((totals_after t mark).ce ≤ limit) × ((totals_after t mark).unmarked ≤ limit)
unfolding totals_after
totals-below t None h = (h.0, h.1, h.2, min-le_right (t.unmarked + 1) limit)
totals-below t Ect0 h = (min-le_right (t.ect0 + 1) limit, h.1, h.2, h.3)
totals-below t Ect1 h = (h.0, min-le_right (t.ect1 + 1) limit, h.2, h.3)
totals-below t Ce h = (h.0, h.1, min-le_right (t.ce + 1) limit, h.3)

-- ---- each call

plain-kept : (r : Receiver) (n : ℕ) (time : Micros) (mark : Mark) → Consistent r → PacketMeets r.seen n time → Consistent (plain_after r n time mark)
plain-kept r n time mark k m =
    let e : (seen_after r.seen n time).end ≡ max r.seen.end (n + 1) = seen_end r.seen n time in
    let u : r.seen.end ≤ max r.seen.end (n + 1) = le-max_left r.seen.end (n + 1) in
    let v : n + 1 ≤ max r.seen.end (n + 1) = le-max_right r.seen.end (n + 1) in
    let x : max r.seen.end (n + 1) ≤ limit + 1 = max-le k.largest (omega (arith, m.number)) in
    let s = seen-marks r.seen n time (record { own = k.own; below = k.below }) in record {
      largest = omega arith;
      arrived = arrived-below r.seen n time limit k.arrived m.time;
      first = k.first;
      threshold = k.threshold;
      reordering = k.reordering;
      sequence = k.sequence;
      count = k.count;
      maximum = k.maximum;
      minimum = k.minimum;
      delay = k.delay;
      least = k.least;
      cause = k.cause;
      acknowledged = omega (arith, k.acknowledged);
      highest = omega (arith, k.highest);
      unacknowledged = omega (arith, k.unacknowledged);
      absent = k.absent;
      own = s.own;
      below = s.below;
      floor = omega (arith, k.floor, seen-confirmed r.seen n time);
      totals = totals-below r.totals mark k.totals;
      nothing = λ z. absurd (omega arith);
    }

eliciting-kept : (r : Receiver) (n : ℕ) (time : Micros) (mark : Mark) → Consistent r → PacketMeets r.seen n time
    → Consistent (eliciting_after r (plain_after r n time mark) n time mark)
unfolding pending_after cause_after
eliciting-kept r n time mark k m =
    let q = plain-kept r n time mark k m in
    let e : (seen_after r.seen n time).end ≡ max r.seen.end (n + 1) = seen_end r.seen n time in
    let u : r.seen.end ≤ max r.seen.end (n + 1) = le-max_left r.seen.end (n + 1) in
    let v : n + 1 ≤ max r.seen.end (n + 1) = le-max_right r.seen.end (n + 1) in
    let h : max r.highest (n + 1) ≤ max r.seen.end (n + 1) = max-le (omega (arith, k.highest)) v in
    let p : max r.pending.end (n + 1) ≤ max r.seen.end (n + 1) = max-le (omega (arith, k.unacknowledged)) v in
    let c : 1 ≤ min (r.pending.count + 1) (2 ^ 62) = le-min (omega arith) (omega arith) in
    let pending : Pending = pending_after r.pending n time in record {
      largest = q.largest;
      arrived = q.arrived;
      first = time-below (eqb r.pending.count 0) time r.pending.first limit m.time k.first;
      threshold = k.threshold;
      reordering = k.reordering;
      sequence = k.sequence;
      count = min-le_right (r.pending.count + 1) (2 ^ 62);
      maximum = k.maximum;
      minimum = k.minimum;
      delay = k.delay;
      least = k.least;
      cause = standing-below r.cause (first_cause r n (is_ce mark) (seen_after r.seen n time) pending) k.cause (first_below r n (is_ce mark) (seen_after r.seen n time) pending);
      acknowledged = q.acknowledged;
      highest = omega arith;
      unacknowledged = omega arith;
      absent = (λ z. absurd (omega (arith, le-max_right r.pending.end (n + 1))), λ z. absurd (omega arith));
      own = q.own;
      below = q.below;
      floor = q.floor;
      totals = q.totals;
      nothing = λ z. absurd (omega arith);
    }

packet-kept : (r : Receiver) (n : ℕ) (time : Micros) (eliciting : Bool) (mark : Mark) → Consistent r → PacketMeets r.seen n time → Consistent (packet_after r n time eliciting mark)
unfolding packet_after
packet-kept r n time true mark k m = eliciting-kept r n time mark k m
packet-kept r n time false mark k m = plain-kept r n time mark k m

-- the cause alone changes, and once something was received
cause-kept : (r : Receiver) (cause : ℕ) → Consistent r → cause ≤ 5 → (r.seen.end ≡ 0 → cause ≡ 0) → Consistent (with_cause r cause)
cause-kept r cause k f g =
    record {
      largest = k.largest;
      arrived = k.arrived;
      first = k.first;
      threshold = k.threshold;
      reordering = k.reordering;
      sequence = k.sequence;
      count = k.count;
      maximum = k.maximum;
      minimum = k.minimum;
      delay = k.delay;
      least = k.least;
      cause = f;
      acknowledged = k.acknowledged;
      highest = k.highest;
      unacknowledged = k.unacknowledged;
      absent = k.absent;
      own = k.own;
      below = k.below;
      floor = k.floor;
      totals = k.totals;
      nothing = g;
    }

-- with nothing received N is 0, so the timer sets nothing
idle : (r : Receiver) (time : Micros) → Consistent r → r.seen.end ≡ 0 → timer_due r time ≡ false
unfolding timer_due
idle r time k z =
    let n : r.pending.count ≡ 0 = k.absent.0 (omega (arith, k.unacknowledged)) in
    ap (λ (c : ℕ). ltb 0 c && leb r.agreed.delay.0 (time.0 - r.pending.first.0)) n

timer-kept : (r : Receiver) (time : Micros) → Consistent r → Consistent (timer_after r time)
timer-kept r time k =
    cause-kept r (standing r.cause (pick (timer_due r time) 5 0)) k
    (standing-below r.cause (pick (timer_due r time) 5 0) k.cause (pick-below (timer_due r time) 5 0 5 (omega arith) (omega arith)))
    (λ z. rw (idle r time k z, k.nothing z) refl)

immediate-kept : (r : Receiver) → Consistent r → 0 < r.seen.end → Consistent (immediate_after r)
immediate-kept r k h =
    cause-kept r (standing r.cause 1) k (standing-below r.cause 1 k.cause (omega arith)) (λ z. absurd (omega arith))

threshold-kept : (r : Receiver) (s t : ℕ) (d : Micros) (q : ℕ) → Consistent r → FrameMeets r s t d q → Consistent (agreed_after r s t d q)
unfolding agreed_after
threshold-kept r s t d q k m =
    record {
      largest = k.largest;
      arrived = k.arrived;
      first = k.first;
      threshold = m.threshold;
      reordering = m.reordering;
      sequence = omega (arith, m.sequence);
      count = k.count;
      maximum = k.maximum;
      minimum = k.minimum;
      delay = m.delay;
      least = m.least;
      cause = k.cause;
      acknowledged = k.acknowledged;
      highest = k.highest;
      unacknowledged = k.unacknowledged;
      absent = k.absent;
      own = k.own;
      below = k.below;
      floor = k.floor;
      totals = k.totals;
      nothing = k.nothing;
    }

confirm-kept : (r : Receiver) (n : ℕ) → Consistent r → Consistent (confirm_after r n)
unfolding confirmed_after
confirm-kept r n k =
    record {
      largest = k.largest;
      arrived = k.arrived;
      first = k.first;
      threshold = k.threshold;
      reordering = k.reordering;
      sequence = k.sequence;
      count = k.count;
      maximum = k.maximum;
      minimum = k.minimum;
      delay = k.delay;
      least = k.least;
      cause = k.cause;
      acknowledged = k.acknowledged;
      highest = k.highest;
      unacknowledged = k.unacknowledged;
      absent = k.absent;
      own = k.own;
      below = k.below;
      floor = max-le k.floor (min-le_right (n + 1) (r.seen.end - 1));
      totals = k.totals;
      nothing = k.nothing;
    }

-- receiver keeps it for every buffer; of the buffer only the length tells
write_kept : (r : Receiver) (time : Micros) (kind : Kind) (room : ℕ) → consistent r ≡ true → consistent (step r (write time kind room)).next ≡ true
write_kept r time kind room k =
    subst (λ (n : ℕ). consistent (step r (write time kind n)).next ≡ true) (length-replicate room 0)
    (ap (λ (x : Outcome). consistent x.next) (write-is-step r time kind (replicate room 0)) ∙ write_keeps r time kind (replicate room 0) k)

-- ---- the theorem

-- a call that keeps the clauses where it is accepted
module _ (r : Receiver) (c : Call) (k : consistent r ≡ true) where
  unmoved : ((step r c).reply ≡ accepted → ⊥) → consistent (step r c).next ≡ true
  unmoved f = ap consistent (step_kept r c f) ∙ k

  by-reply : (Consistent r → Meets r c → Consistent (made r c)) → (a : Reply) → (step r c).reply ≡ a → consistent (step r c).next ≡ true
  by-reply f accepted e = ap consistent (step-made r c e) ∙ (consistent-exactly (made r c)).1 (f ((consistent-exactly r).0 k) (step-meets r c e))
  by-reply f stale e = unmoved (λ g. cc)
  by-reply f (refused n) e = unmoved (λ g. cc)

call_kept : (r : Receiver) (c : Call) → consistent r ≡ true → consistent (step r c).next ≡ true
call_kept r (packet n time eliciting mark) k = by-reply r (packet n time eliciting mark) k (packet-kept r n time eliciting mark) _ refl
call_kept r (timer time) k = by-reply r (timer time) k (λ c m. timer-kept r time c) _ refl
call_kept r immediate k = by-reply r immediate k (immediate-kept r) _ refl
call_kept r (threshold s t d q) k = by-reply r (threshold s t d q) k (threshold-kept r s t d q) _ refl
call_kept r (write time kind room) k = write_kept r time kind room k
call_kept r (confirm n) k = by-reply r (confirm n) k (λ c m. confirm-kept r n c) _ refl

pub along : (t q : ℕ) (m : Millis) (u : Micros) (cs : Calls) → consistent (after (opening t q m u) cs) ≡ true
unfolding after
along t q m u none = opening-kept t q m u
along t q m u (cs then c) = call_kept (after (opening t q m u) cs) c (along t q m u cs)

pub kept : Kept
kept =
    record {
      opened = opening-kept;
      call = call_kept;
      along = along;
      never = λ t q m u cs c e. not-one (after (opening t q m u) cs) c (along t q m u cs) e;
    }
