-- Demand 3: after every sequence of calls the tally of the causes holds of what the accepted calls tell, and the tally gives the bound.
-- Assumes nothing.
use Prim.Native.Nat.{ℕ, zero, suc, ◌+◌, ◌^◌, ◌≤◌, min, max}
use mathlib.Core.Path.{◌≡◌, refl, sym, subst, ◌∙◌}
use mathlib.Core.Bool.{Bool, true, false, ◌&&◌}
use mathlib.Core.List.{◌∷◌}
use native.Mathlib.Omega.{arith}
use native.Mathlib.Nat.{le_refl, add-zero, zero-mul}
use lib.Dec.{ltb, eqb}
use lib.ListN.{length}
use borrow.Author.Tests.{ltb-true, eqb-false, ne_eqb, not-true}
use Rattle.wire.specs.Bytes.{pick}
use Rattle.receiver.specs.declared.Millis.{Millis}
use Rattle.seen.specs.declared.Micros.{Micros}
use Rattle.receiver.specs.declared.Receiver.{Receiver}
use Rattle.receiver.specs.Packet.{starts_congestion, nothing_agreed, standing, handed_back}
use Rattle.receiver.specs.Calls.{opened, usual, open_refusal, open_call, timer_due}
use Rattle.ecn.specs.declared.Mark.{Mark}
use Rattle.ecn.specs.declared.Kind.{Kind}
use Rattle.ecn.specs.Totals.{is_ce}
use Rattle.promises.specs.Sequence.{Call, packet, timer, immediate, threshold, write, confirm, Calls, none, ◌then◌, Reply, accepted, stale, refused, after, replied, opening}
use Rattle.promises.specs.Accepted.{one_if, Packet, packet_of, frame_of, joined, accepted_of, packets, since, before, frames}
use Rattle.promises.specs.Told.{largest, eliciting_of, among, last_mark, no_frame, largest_sequence, in_force, floor_in, pending_of}
use Rattle.promises.specs.Order.{order_of}
use Rattle.promises.specs.Due.{known, due}
use Rattle.promises.specs.Counted.{E, T, F, C, I, D, W, smallest, how_many, is_write, opening_t}
use Rattle.promises.specs.Bound.{is_due, is_accepted, only_due, WrittenAtMost}
use Rattle.promises.proofs.Truth.{both_left, both_right}
use Rattle.promises.proofs.Packets.{highest-below, pending-below}
use Rattle.promises.proofs.Tallied.{Tallied, paid, counted_step, set-step, write_step, change-step, grown, ordered, bounded}
use Rattle.promises.proofs.Charged.{rises}
use Rattle.promises.proofs.Along.{above-others, no-frame, nothing-processed}
use Rattle.promises.proofs.Told.{told}
use Rattle.promises.proofs.Due.{due-is}

-- the tally of accepted calls, where the cause is c
abbrev TallyAt : Receiver → ℕ → Calls → ℕ → Type 0
TallyAt o t cs c =
    Tallied
    (packets cs)
    (E cs)
    (F cs)
    (W cs)
    (T t cs)
    (C cs + I cs + D cs)
    (in_force o.agreed (frames cs)).threshold
    (in_force o.agreed (frames cs)).reordering
    (largest (before cs))
    (pending_of cs).count
    c

-- what holds after each call
abbrev Holds : Receiver → ℕ → Calls → Type 0
Holds o t cs = TallyAt o t cs (due o cs)

module _ (o : Receiver) (t : ℕ) (cs : Calls) (v : Holds o t cs) where
  timer-holds : (time : Micros) → Holds o t (cs then timer time)
  unfolding packets since before frames pending_of C how_many due
  timer-holds time = simp add-zero (set-step (due o cs) (pick (timer_due (known o cs) time) 5 0) (C cs + I cs + (D cs + 1)) (omega arith) v)

  immediate-holds : Holds o t (cs then immediate)
  unfolding packets since before frames pending_of C how_many due
  immediate-holds = simp add-zero (set-step (due o cs) 1 (C cs + (I cs + 1) + D cs) (omega arith) v)

  threshold-holds : (s u : ℕ) (delay : Micros) (q : ℕ) → largest_sequence (frames cs) ≤ s → Holds o t (cs then threshold s u delay q)
  unfolding packets since before frames pending_of C how_many due smallest
  threshold-holds s u delay q h =
      rw (above-others o.agreed (frame_of s u delay q) (frames cs) h) (simp add-zero (change-step u q v))

  confirm-holds : (k : ℕ) → Holds o t (cs then confirm k)
  unfolding packets since before frames pending_of C how_many due
  confirm-holds k = simp add-zero v

  write-holds : (time : Micros) (kind : Kind) (room : ℕ) → (due o cs ≡ 0 → ⊥) → Holds o t (cs then write time kind room)
  unfolding packets since before frames pending_of C how_many due eliciting_of
  write-holds time kind room d = simp add-zero (write_step d v)

  -- a packet that is not ack-eliciting
  plain-holds : (n : ℕ) (time : Micros) (mark : Mark) → Holds o t (cs then packet n time false mark)
  unfolding packets since before frames pending_of C how_many due eliciting_of
  plain-holds n time mark =
      simp add-zero (grown (packet_of n time false mark) (E cs) (C cs + I cs + D cs) (pending_of cs).count (omega arith) (omega arith) (omega arith) v)

  -- an ack-eliciting one
  module _ (n : ℕ) (time : Micros) (mark : Mark) (fresh : among (packets cs) n ≡ false) where
    p : Packet
    p = packet_of n time true mark

    -- N with it
    count : ℕ
    count = min (suc (length (eliciting_of (since cs)))) (2 ^ 62)

    -- C + I + D before the packet, and after it where congestion starts by the test g
    x : ℕ
    x = C cs + I cs + D cs

    x' : Bool → ℕ
    x' g = C cs + one_if g + I cs + D cs

    Grown : ℕ → ℕ → Type 0
    Grown y c =
        Tallied
        (p ∷ packets cs)
        (suc (E cs))
        (F cs)
        (W cs)
        (T t cs)
        y
        (in_force o.agreed (frames cs)).threshold
        (in_force o.agreed (frames cs)).reordering
        (largest (before cs))
        count
        c

    grow : (c y : ℕ) → x ≤ y → TallyAt o t cs c → Grown y c
    unfolding Grown x count pending_of
    grow c y l old = grown p (suc (E cs)) y count (omega arith) (omega arith) l old

    -- the cause by the three tests
    cause-holds :
        (c : ℕ)
        → TallyAt o t cs c
        → (a : Bool)
        → ltb (in_force o.agreed (frames cs)).threshold count ≡ a
        → (floor : ℕ) (b : Bool)
        → order_of floor (p ∷ packets cs) (in_force o.agreed (frames cs)).reordering n (largest (eliciting_of (packets cs))) (largest (before cs)) (max (largest (eliciting_of (since cs))) (n + 1)) ≡ b
        → (g : Bool)
        → Grown (x' g) (standing c (pick a 2 (pick b 3 (pick g 4 0))))
    unfolding Grown x x' p count largest eliciting_of pending_of
    cause-holds (suc c) old a i floor b j g = grow (suc c) (x' g) (omega arith) old
    cause-holds zero old true i floor b j g = counted_step (ltb-true (in_force o.agreed (frames cs)).threshold count i) (grow 0 (x' g) (omega arith) old)
    cause-holds zero old false i floor true j g =
        let below : largest (eliciting_of (since cs)) ≤ largest (eliciting_of (packets cs)) = pending-below cs in
        let s =
        rises floor p (packets cs) fresh (in_force o.agreed (frames cs)).reordering (largest (eliciting_of (packets cs))) (largest (before cs)) (max (largest (eliciting_of (since cs))) (n + 1))
        (highest-below (packets cs)) (omega (arith, highest-below (packets cs))) j
        in
        ordered p (suc (E cs)) (x' g) count (omega arith) (omega arith) (omega arith) s.0 s.1 old
    cause-holds zero old false i floor false j true = paid 3 (x' true) (omega arith) (grow 0 x (omega arith) old)
    cause-holds zero old false i floor false j false = grow 0 (x' false) (omega arith) old

    -- C with this packet, by the congestion line
    started : C (cs then packet n time true mark) ≡ C cs + one_if (starts_congestion (is_ce mark) (no_frame (frames cs)) (last_mark (packets cs)))
    unfolding C
    started = refl

    got-holds : o.agreed.sequence ≡ 0 → Holds o t (cs then packet n time true mark)
    unfolding packets since before frames pending_of how_many due eliciting_of largest Grown x' p count
    got-holds z =
        subst (λ (c : ℕ). TallyAt o t (cs then packet n time true mark) (standing (due o cs) c)) (sym (due-is.numbers o cs n time mark))
        (rw (started, ← no-frame o.agreed (frames cs) z)
        (simp add-zero
        (cause-holds (due o cs) v (ltb (in_force o.agreed (frames cs)).threshold count) refl (floor_in (cs then packet n time true mark))
        (order_of (floor_in (cs then packet n time true mark)) (p ∷ packets cs) (in_force o.agreed (frames cs)).reordering n (largest (eliciting_of (packets cs))) (largest (before cs)) (max (largest (eliciting_of (since cs))) (n + 1)))
        refl (starts_congestion (is_ce mark) (nothing_agreed (in_force o.agreed (frames cs))) (last_mark (packets cs))))))

-- ---- every sequence from an opening

module _ (t q : ℕ) (maximum : Millis) (minimum : Micros) where
  abbrev o : Receiver
  o = opening t q maximum minimum

  abbrev acc : Calls → Calls
  acc cs = accepted_of (opening t q maximum minimum) cs

  -- an accepted call; a write finds an acknowledgment due
  call-holds : (u : ℕ) (cs : Calls) → Holds o u (acc cs) → (c : Call) → replied o cs c ≡ accepted → pick (is_write c && true) (is_due (after o cs)) true ≡ true → Holds o u (acc cs then c)
  call-holds u cs v (packet n time true mark) e d = got-holds o u (acc cs) v n time mark ((told t q maximum minimum cs).once n time true mark e) (nothing-processed t q maximum minimum)
  call-holds u cs v (packet n time false mark) e d = plain-holds o u (acc cs) v n time mark
  call-holds u cs v (timer time) e d = timer-holds o u (acc cs) v time
  call-holds u cs v immediate e d = immediate-holds o u (acc cs) v
  call-holds u cs v (threshold s a b r) e d = threshold-holds o u (acc cs) v s a b r ((told t q maximum minimum cs).newest s a b r e)
  call-holds u cs v (confirm k) e d = confirm-holds o u (acc cs) v k
  call-holds u cs v (write time kind room) e d =
      write-holds o u (acc cs) v time kind room (λ z. eqb-false (after o cs).cause 0 (not-true (eqb (after o cs).cause 0) d) (due-is.cause t q maximum minimum cs ∙ z))

  all_hold : (u : ℕ) → Holds o u none → (cs : Calls) → only_due o cs ≡ true → Holds o u (acc cs)
  unfolding only_due accepted_of
  all_hold u start none d = start
  all_hold u start (cs then c) d =
      let p : Bool = pick (is_write c && is_accepted (replied o cs c)) (is_due (after o cs)) true in
      go (all_hold u start cs (both_left (only_due o cs) p d)) (both_right (only_due o cs) p d) (replied o cs c) refl
    where
      go : Holds o u (acc cs) → pick (is_write c && is_accepted (replied o cs c)) (is_due (after o cs)) true ≡ true → (a : Reply) → replied o cs c ≡ a → Holds o u (joined a (acc cs) c)
      go v d accepted e = call-holds u cs v c e (rw e at d)
      go v d stale e = v
      go v d (refused k) e = v

-- the opening
opened-holds : (t q : ℕ) (maximum : Millis) (minimum : Micros) → Holds (opened t q maximum minimum) t none
unfolding packets since before frames pending_of C how_many due eliciting_of largest smallest opened in_force
opened-holds t q maximum minimum =
    record {
      by_count = 0;
      order_before = 0;
      order_since = 0;
      least = le_refl t;
      counts = rw zero-mul (le_refl 0);
      counting = λ c. rw zero-mul (le_refl 0);
      before = omega arith;
      near = λ h. omega arith;
      far = λ h. omega arith;
      idle = λ h c. omega arith;
      total = le_refl 0;
      due = λ d. absurd (d refl);
    }

one_more : (k : ℕ) → eqb (suc k) 0 ≡ false
one_more k = ne_eqb (suc k) 0 (λ e. omega arith)

pub written-at-most : WrittenAtMost
unfolding open_call
written-at-most t q maximum minimum cs d = bounded (all_hold t q maximum minimum (opening_t t q maximum minimum) (go (open_refusal t q maximum minimum)) cs d)
  where
    go : (k : ℕ) → Holds (handed_back k usual (opened t q maximum minimum)).next (pick (eqb (handed_back k usual (opened t q maximum minimum)).result 0) t 1) none
    go zero = opened-holds t q maximum minimum
    go (suc k) = rw (one_more k) (opened-holds 1 1 (record { 0 = 25 }) (record { 0 = 1000 }))
