-- Along the calls: what an accepted call makes of the record that the calls before it tell is the record that they and it tell, so from an opening the two agree.
-- Assumes nothing.
use Prim.Native.Nat.{ℕ, zero, suc, ◌+◌, ◌^◌, ◌≤◌, ◌<◌, min, max}
use mathlib.Core.Path.{◌≡◌, refl, sym, ap, ap₂, subst, ◌∙◌}
use mathlib.Core.Bool.{Bool, true, false}
use mathlib.Core.List.{List, [], ◌∷◌}
use native.Mathlib.Nat.{le-min, min-eq_left, min-eq_right, max-eq_left, max-eq_right, le-max_right}
use native.Mathlib.Omega.{arith}
use borrow.Author.Tests.{le-ltb, lt-ltb, ne_eqb}
use lib.Dec.{eqb}
use lib.ListN.{length}
use Rattle.wire.specs.Bytes.{pick}
use Rattle.wire.proofs.Lengths.{split}
use Rattle.receiver.specs.declared.Millis.{Millis}
use Rattle.seen.specs.declared.Micros.{Micros}
use Rattle.seen.specs.declared.Seen.{Seen}
use Rattle.receiver.specs.declared.Pending.{Pending}
use Rattle.receiver.specs.declared.Agreed.{Agreed}
use Rattle.receiver.specs.declared.Receiver.{Receiver}
use Rattle.seen.specs.Received.{confirmed_after}
use Rattle.receiver.specs.Packet.{nothing_agreed, pending_after, first_cause, congestion, cause_after, packet_after, standing, handed_back}
use Rattle.receiver.specs.Calls.{opened, usual, open_refusal, open_call, timer_due, agreed_after}
use Rattle.receiver.specs.Write.{after_write}
use Rattle.ecn.specs.declared.Mark.{Mark}
use Rattle.ecn.specs.declared.Kind.{Kind}
use Rattle.ecn.specs.declared.Totals.{Totals}
use Rattle.ecn.specs.Totals.{is_ce, totals_after}
use Rattle.promises.specs.Sequence.{Call, packet, timer, immediate, threshold, write, confirm, Calls, none, ◌then◌, Reply, accepted, stale, refused, after, replied, opening}
use Rattle.promises.specs.Accepted.{Packet, Frame, packet_of, frame_of, joined, accepted_of, packets, since, before, frames}
use Rattle.promises.specs.Told.{largest, eliciting_of, arrival_of, first_arrival, last_mark, no_frame, largest_sequence, values_of, in_force, confirmed_of, seen_of, left_arrival, pending_of, how_often, totals_of, tell}
use Rattle.promises.specs.Due.{known, of_packet, due}
use Rattle.promises.proofs.Acceptance.{made, Meets, PacketMeets, step_kept, step-made, step-meets}
use Rattle.promises.proofs.Totals.{capped-more, totals-told}
use Rattle.promises.proofs.Marks.{told_none, seen, seen-told}

-- ---- N, U and the first arrival

-- N with one packet more
count-more : (k : ℕ) → min (min k (2 ^ 62) + 1) (2 ^ 62) ≡ min (suc k) (2 ^ 62)
count-more k = let b : k + 1 ≡ suc k = omega arith in capped-more (2 ^ 62) k ∙ ap (λ (x : ℕ). min x (2 ^ 62)) b

-- the first arrival with one packet more: the packet's time only where it is the first
first_more : (other time : Micros) (p : Packet) (ps : List Packet) → p.time ≡ time
    → pick (eqb (min (length ps) (2 ^ 62)) 0) time (first_arrival other ps) ≡ first_arrival other (p ∷ ps)
unfolding first_arrival
first_more other time p [] e = sym e
first_more other time p (x ∷ ps) e =
    let l : 1 ≤ min (length (x ∷ ps)) (2 ^ 62) = le-min (omega arith) (omega arith) in
    ap (λ (b : Bool). pick b time (first_arrival x.time ps)) (ne_eqb (min (length (x ∷ ps)) (2 ^ 62)) 0 (λ z. omega arith))

pending-told : (cs : Calls) (n : ℕ) (time : Micros) (mark : Mark)
    → pending_after (pending_of cs) n time ≡ pending_of (cs then packet n time true mark)
unfolding pending_after pending_of since eliciting_of left_arrival largest
pending-told cs n time mark =
    let ps : List Packet = eliciting_of (since cs) in
    ap₂ (λ (k : ℕ) (first : Micros). record { count = k; end = max (largest ps) (n + 1); first = first }) (count-more (length ps))
    (first_more (left_arrival cs) time (packet_of n time true mark) ps refl)

-- ---- the values in force

-- a frame above the others is in force, and one that is not leaves theirs
pub above-others : (a : Agreed) (f : Frame) (fs : List Frame) → largest_sequence fs ≤ f.sequence → in_force a (f ∷ fs) ≡ values_of f
unfolding in_force
above-others a f fs h = ap (λ (b : Bool). pick b (in_force a fs) (values_of f)) (le-ltb f.sequence (largest_sequence fs) h)

below-others : (a : Agreed) (f : Frame) (fs : List Frame) → f.sequence < largest_sequence fs → in_force a (f ∷ fs) ≡ in_force a fs
unfolding in_force
below-others a f fs h = ap (λ (b : Bool). pick b (in_force a fs) (values_of f)) (lt-ltb f.sequence (largest_sequence fs) h)

-- the sequence in force is the largest, where the opening had none
sequence-told : (a : Agreed) (fs : List Frame) → a.sequence ≡ 0 → (in_force a fs).sequence ≡ largest_sequence fs
unfolding in_force largest_sequence
sequence-told a [] e = e
sequence-told a (f ∷ fs) e =
    split (largest_sequence fs) f.sequence
    (λ h.
    let l : largest_sequence fs ≤ f.sequence + 1 = omega arith in
    ap (λ (x : Agreed). x.sequence) (above-others a f fs h) ∙ sym (max-eq_right l))
    (λ h.
    let l : f.sequence + 1 ≤ largest_sequence fs = omega arith in
    ap (λ (x : Agreed). x.sequence) (below-others a f fs h) ∙ sequence-told a fs e ∙ sym (max-eq_left l))

-- and nothing is agreed exactly where no frame was accepted
pub no-frame : (a : Agreed) (fs : List Frame) → a.sequence ≡ 0 → nothing_agreed (in_force a fs) ≡ no_frame fs
unfolding no_frame largest_sequence
no-frame a [] e = ap (λ (n : ℕ). eqb n 0) (sequence-told a [] e)
no-frame a (f ∷ fs) e =
    ap (λ (n : ℕ). eqb n 0) (sequence-told a (f ∷ fs) e)
    ∙ ne_eqb (max (largest_sequence fs) (f.sequence + 1)) 0 (λ z. omega (arith, le-max_right (largest_sequence fs) (f.sequence + 1)))

-- ---- each call on the record that is told

module _ (o : Receiver) (cs : Calls) (cause : ℕ) where
  plain-told : (n : ℕ) (time : Micros) (mark : Mark) → PacketMeets (seen_of cs) n time
      → packet_after (tell o cs cause) n time false mark ≡ tell o (cs then packet n time false mark) cause
  unfolding packet_after seen_of confirmed_of packets since before frames eliciting_of last_mark left_arrival pending_of
  plain-told n time mark m =
      ap₂ (λ (s : Seen) (t : Totals). record {
        seen = s;
        pending = pending_of cs;
        agreed = in_force o.agreed (frames cs);
        limits = o.limits;
        acknowledged = largest (before cs);
        highest = largest (eliciting_of (packets cs));
        ce = pick (is_ce mark) 1 0;
        cause = cause;
        totals = t;
      }) (seen-told (confirmed_of cs) (packet_of n time false mark) (packets cs) m.window) (totals-told (packet_of n time false mark) (packets cs))

  eliciting-told : (n : ℕ) (time : Micros) (mark : Mark) → PacketMeets (seen_of cs) n time
      → packet_after (tell o cs cause) n time true mark ≡ tell o (cs then packet n time true mark) (standing cause (of_packet o cs n time mark))
  unfolding packet_after seen_of confirmed_of packets before frames eliciting_of last_mark largest cause_after first_cause congestion
  eliciting-told n time mark m =
      let with : Seen → Pending → Totals → Receiver = λ s p t. record {
        seen = s;
        pending = p;
        agreed = in_force o.agreed (frames cs);
        limits = o.limits;
        acknowledged = largest (before cs);
        highest = max (largest (eliciting_of (packets cs))) (n + 1);
        ce = pick (is_ce mark) 1 0;
        cause = standing cause (first_cause (known o cs) n (is_ce mark) s p);
        totals = t;
      } in
      let now : Calls = cs then packet n time true mark in
      ap₂ (λ (s : Seen) (p : Pending). with s p (totals_after (totals_of (packets cs)) mark)) (seen-told (confirmed_of cs) (packet_of n time true mark) (packets cs) m.window) (pending-told cs n time mark)
      ∙ ap (with (seen_of now) (pending_of now)) (totals-told (packet_of n time true mark) (packets cs))

-- the record that is told with its cause
abbrev whole : Receiver → Calls → Receiver
whole o cs = tell o cs (due o cs)

timer-told : (o : Receiver) (cs : Calls) (time : Micros) → made (whole o cs) (timer time) ≡ whole o (cs then timer time)
unfolding seen_of confirmed_of packets since before frames left_arrival pending_of due timer_due
timer-told o cs time = refl

immediate-told : (o : Receiver) (cs : Calls) → made (whole o cs) immediate ≡ whole o (cs then immediate)
unfolding seen_of confirmed_of packets since before frames left_arrival pending_of due
immediate-told o cs = refl

write-told : (o : Receiver) (cs : Calls) (time : Micros) (kind : Kind) (room : ℕ) → made (whole o cs) (write time kind room) ≡ whole o (cs then write time kind room)
unfolding seen_of confirmed_of packets since before frames left_arrival pending_of due after_write eliciting_of largest first_arrival
write-told o cs time kind room = refl

confirm-told : (o : Receiver) (cs : Calls) (k : ℕ) → made (whole o cs) (confirm k) ≡ whole o (cs then confirm k)
unfolding seen_of confirmed_of packets since before frames left_arrival pending_of due confirmed_after
confirm-told o cs k = refl

threshold-told : (o : Receiver) (cs : Calls) (s t : ℕ) (d : Micros) (q : ℕ) → largest_sequence (frames cs) ≤ s
    → made (whole o cs) (threshold s t d q) ≡ whole o (cs then threshold s t d q)
unfolding seen_of confirmed_of packets since before frames left_arrival pending_of due agreed_after
threshold-told o cs s t d q h =
    ap (λ (a : Agreed). record {
      seen = seen_of cs;
      pending = pending_of cs;
      agreed = a;
      limits = o.limits;
      acknowledged = largest (before cs);
      highest = largest (eliciting_of (packets cs));
      ce = pick (last_mark (packets cs)) 1 0;
      cause = due o cs;
      totals = totals_of (packets cs);
    }) (sym (above-others o.agreed (frame_of s t d q) (frames cs) h))

packet-told : (o : Receiver) (cs : Calls) (n : ℕ) (time : Micros) (eliciting : Bool) (mark : Mark) → PacketMeets (seen_of cs) n time
    → made (whole o cs) (packet n time eliciting mark) ≡ whole o (cs then packet n time eliciting mark)
unfolding due
packet-told o cs n time true mark m = eliciting-told o cs (due o cs) n time mark m
packet-told o cs n time false mark m = plain-told o cs (due o cs) n time mark m

made_told : (o : Receiver) → o.agreed.sequence ≡ 0 → (cs : Calls) (c : Call) → Meets (whole o cs) c → made (whole o cs) c ≡ whole o (cs then c)
made_told o z cs (packet n time eliciting mark) m = packet-told o cs n time eliciting mark m
made_told o z cs (timer time) m = timer-told o cs time
made_told o z cs immediate m = immediate-told o cs
made_told o z cs (threshold s t d q) m = threshold-told o cs s t d q (omega (arith, sequence-told o.agreed (frames cs) z, m.newer))
made_told o z cs (write time kind room) m = write-told o cs time kind room
made_told o z cs (confirm k) m = confirm-told o cs k

-- ---- along the calls

-- one call more, by its reply
module _ (o : Receiver) (z : o.agreed.sequence ≡ 0) (cs acc : Calls) (e : after o cs ≡ whole o acc) (c : Call) where
  not-joined : (replied o cs c ≡ accepted → ⊥) → after o (cs then c) ≡ whole o acc
  unfolding after
  not-joined f = step_kept (after o cs) c f ∙ e

  one_more : (a : Reply) → replied o cs c ≡ a → after o (cs then c) ≡ whole o (joined a acc c)
  unfolding after
  one_more accepted h =
      step-made (after o cs) c h ∙ ap (λ (r : Receiver). made r c) e ∙ made_told o z acc c (subst (λ (r : Receiver). Meets r c) e (step-meets (after o cs) c h))
  one_more stale h = not-joined (λ f. cc)
  one_more (refused k) h = not-joined (λ f. cc)

-- what a record must be for calls to start from it
record Start (o : Receiver) : Type 0 where
  sequence : o.agreed.sequence ≡ 0
  told : o ≡ whole o none

follows : (o : Receiver) → Start o → (cs : Calls) → after o cs ≡ whole o (accepted_of o cs)
unfolding accepted_of after
follows o s none = s.told
follows o s (cs then c) = one_more o s.sequence cs (accepted_of o cs) (follows o s cs) c (replied o cs c) refl

opened-starts : (t q : ℕ) (m : Millis) (u : Micros) → Start (opened t q m u)
unfolding opened seen_of confirmed_of packets since before frames left_arrival pending_of due eliciting_of largest first_arrival last_mark in_force arrival_of how_often totals_of
opened-starts t q m u = record { sequence = refl; told = rw told_none }

starts : (t q : ℕ) (m : Millis) (u : Micros) → Start (opening t q m u)
unfolding open_call
starts t q m u = go (open_refusal t q m u)
  where
    go : (k : ℕ) → Start (handed_back k usual (opened t q m u)).next
    go zero = opened-starts t q m u
    go (suc k) = opened-starts 1 1 (record { 0 = 25 }) (record { 0 = 1000 })

-- ---- from an opening

pub nothing-processed : (t q : ℕ) (m : Millis) (u : Micros) → (opening t q m u).agreed.sequence ≡ 0
nothing-processed t q m u = (starts t q m u).sequence

module _ (t q : ℕ) (m : Millis) (u : Micros) (cs : Calls) where
  abbrev o : Receiver
  o = opening t q m u

  abbrev acc : Calls
  acc = accepted_of (opening t q m u) cs

  -- the record is the one that is told
  pub agrees : after o cs ≡ tell o acc (due o acc)
  agrees = follows o (starts t q m u) cs

  pub cause-is : (after o cs).cause ≡ due o acc
  cause-is = ap (λ (r : Receiver). r.cause) agrees

  pub totals-are : (after o cs).totals ≡ totals_of (packets acc)
  totals-are = ap (λ (r : Receiver). r.totals) agrees

  pub seen-is : (after o cs).seen ≡ seen_of acc
  seen-is = ap (λ (r : Receiver). r.seen) agrees

  pub end_is : (after o cs).seen.end ≡ largest (packets acc)
  unfolding seen_of
  end_is = ap (λ (s : Seen). s.end) seen-is

  pub floor-is : (after o cs).seen.confirmed ≡ confirmed_of acc
  unfolding seen_of
  floor-is = ap (λ (s : Seen). s.confirmed) seen-is

  pub acknowledged-is : (after o cs).acknowledged ≡ largest (before acc)
  acknowledged-is = ap (λ (r : Receiver). r.acknowledged) agrees

  pub limits-are : (after o cs).limits ≡ o.limits
  limits-are = ap (λ (r : Receiver). r.limits) agrees

  pub sequence-is : (after o cs).agreed.sequence ≡ largest_sequence (frames acc)
  sequence-is = ap (λ (r : Receiver). r.agreed.sequence) agrees ∙ sequence-told o.agreed (frames acc) (nothing-processed t q m u)
