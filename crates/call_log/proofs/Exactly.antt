-- The rows of a logged call, proved: of every call 1 is the first refusal, and no other refusal is 1.
-- Assumes nothing.
use Prim.Native.Nat.{ℕ, zero, suc}
use mathlib.Core.Path.{◌≡◌, refl, ap, ◌∙◌}
use mathlib.Core.Bool.{Bool, true, false, not, ◌&&◌}
use lib.Dec.{eqb, leb, ltb}
use Rattle.wire.specs.Bytes.{pick}
use Rattle.seen.specs.declared.Micros.{Micros}
use Rattle.seen.specs.Numbers.{small}
use Rattle.seen.specs.Received.{floor, received, reported, number_refusal}
use Rattle.ecn.specs.declared.Kind.{Kind}
use Rattle.ecn.specs.Totals.{tail_of}
use Rattle.frames.specs.Ack.{counts_of}
use Rattle.ack.specs.Ack.{ack_delay, fits, marks_refusal, refusal_after1}
use Rattle.wire.specs.Numbers.{all_small}
use Rattle.receiver.specs.declared.Millis.{Millis}
use Rattle.receiver.specs.declared.Receiver.{Receiver}
use Rattle.receiver.specs.declared.Verdict.{Verdict}
use Rattle.receiver.specs.declared.Verdict.TheVariants.{Accepted, Stale, Refused}
use Rattle.receiver.specs.declared.Heard.{Heard}
use Rattle.receiver.specs.Record.{limits_rule, delay_rule, consistent}
use Rattle.receiver.specs.Exactly.{first}
use Rattle.receiver.specs.Packet.{handed_back, packet_refusal, packet_after, packet_call}
use Rattle.receiver.specs.Calls.{usual, opened, open_refusal, open_call, timer_refusal, timer_after, timer_call, immediate_refusal, immediate_after, immediate_call, heard, agreed_after, threshold_verdict, threshold_call}
use Rattle.receiver.specs.Confirm.{not_acknowledged, confirm_refusal, confirm_after, confirm_call}
use Rattle.receiver.specs.Write.{write_refusal}
use Rattle.call_log.specs.declared.Call.{Call}
use Rattle.call_log.specs.declared.Call.TheVariants.{Open, Packet, Timer, Threshold, Immediate, Confirm, Write}
use Rattle.call_log.specs.Calls.{verdict_of, heard_of, noting, noting_opening, acting, wrote_of, step}
use Rattle.call_log.specs.Logged.{is_one, has_room, without_line}
use Rattle.call_log.specs.Exactly.{takes_record, rows, Exactly}

-- ---- refusals other than 1

abbrev Other : Verdict → Type 0
Other v = is_one v ≡ false

either : (b : Bool) (v w : Verdict) → Other v → Other w → Other (pick b v w)
either true v w f g = f
either false v w f g = g

number : (b : Bool) (j k : ℕ) → Other (verdict_of j) → Other (verdict_of k) → Other (verdict_of (pick b j k))
number true j k f g = f
number false j k f g = g

-- 1 is asked for first
asked : (c : Bool) (k : ℕ) → Other (verdict_of k) → is_one (verdict_of (pick c k 1)) ≡ not c
asked true k f = f
asked false k f = refl

handed : (k : ℕ) (old new : Receiver) → (heard_of (handed_back k old new)).verdict ≡ verdict_of k
handed zero old new = refl
handed (suc k) old new = refl

wrote : (k : ℕ) (r : Receiver) → (wrote_of k r).verdict ≡ verdict_of k
wrote zero r = refl
wrote (suc k) r = refl

told : (v : Verdict) (old new : Receiver) → (heard v old new).verdict ≡ v
told Accepted old new = refl
told Stale old new = refl
told (Refused k) old new = refl

noted : (r : Receiver) (time : Micros) (h : Heard) → is_one h.verdict ≡ not (consistent r) → is_one (noting r time h).verdict ≡ not (consistent r)
unfolding noting
noted r time h e = go (small time.0)
  where
    late : (c : Bool) → is_one (pick c (Refused 5) (Refused 1)) ≡ not c
    late true = refl
    late false = refl

    go : (b : Bool) → is_one (pick b h (record { verdict = pick (consistent r) (Refused 5) (Refused 1); next = r })).verdict ≡ not (consistent r)
    go true = e
    go false = late (consistent r)

-- ---- call by call

open-other : (t q : ℕ) (m : Millis) (u : Micros) → Other (verdict_of (open_refusal t q m u))
unfolding open_refusal
open-other t q m u =
    number (small t && (small q && (small m.0 && small u.0))) (pick (limits_rule (record { maximum = m; minimum = u })) 0 4) 5
    (number (limits_rule (record { maximum = m; minimum = u })) 0 4 refl refl) refl

opening : (time : Micros) (t q : ℕ) (m : Millis) (u : Micros) → Other (noting_opening time (heard_of (open_call t q m u))).verdict
unfolding noting_opening open_call
opening time t q m u = go (small time.0)
  where
    go : (b : Bool) → Other (pick b (heard_of (handed_back (open_refusal t q m u) usual (opened t q m u))) (record { verdict = Refused 5; next = usual })).verdict
    go true = ap is_one (handed (open_refusal t q m u) usual (opened t q m u)) ∙ open-other t q m u
    go false = refl

packet : (r : Receiver) (n : ℕ) (time : Micros) → is_one (verdict_of (packet_refusal r n time)) ≡ not (consistent r)
unfolding packet_refusal number_refusal
packet r n time =
    asked (consistent r) _
    (number (small n && small time.0) _ 5
    (number (leb r.seen.end n) 0 _ refl (number (ltb n (floor r.seen)) 7 _ refl (number (received r.seen n) 6 0 refl refl))) refl)

timer : (r : Receiver) (time : Micros) → is_one (verdict_of (timer_refusal r time)) ≡ not (consistent r)
unfolding timer_refusal
timer r time = asked (consistent r) _ (number (small time.0) 0 5 refl refl)

immediate : (r : Receiver) → is_one (verdict_of (immediate_refusal r)) ≡ not (consistent r)
unfolding immediate_refusal
immediate r = asked (consistent r) _ (number (eqb r.seen.end 0) 8 0 refl refl)

confirm : (r : Receiver) (k : ℕ) → is_one (verdict_of (confirm_refusal r k)) ≡ not (consistent r)
unfolding confirm_refusal
confirm r k =
    asked (consistent r) _ (number (small k) _ 5 (number (eqb r.seen.end 0) 8 _ refl (number (not_acknowledged r k) 19 0 refl refl)) refl)

threshold : (r : Receiver) (s t : ℕ) (d : Micros) (q : ℕ) → is_one (threshold_verdict r s t d q) ≡ not (consistent r)
unfolding threshold_verdict
threshold r s t d q = go (consistent r)
  where
    go : (c : Bool) → is_one (pick c (pick (small s && (small t && (small d.0 && small q))) (pick (delay_rule r.limits d) (pick (ltb s r.agreed.sequence) Stale Accepted) (Refused 4)) (Refused 5)) (Refused 1)) ≡ not c
    go true =
        either (small s && (small t && (small d.0 && small q))) _ (Refused 5)
        (either (delay_rule r.limits d) _ (Refused 4) (either (ltb s r.agreed.sequence) Stale Accepted refl refl) refl) refl
    go false = refl

write : (r : Receiver) (time : Micros) (kind : Kind) (room : ℕ) → is_one (verdict_of (write_refusal r time kind room)) ≡ not (consistent r)
unfolding write_refusal
write r time kind room =
    let tail = tail_of kind r.totals in
    let s = reported r.seen in
    asked (consistent r) (refusal_after1 r.seen time tail room)
    (number (small time.0 && all_small (counts_of tail)) (pick (eqb r.seen.end 0) 8 (marks_refusal s time tail room)) 5
    (number (eqb r.seen.end 0) 8 (marks_refusal s time tail room) refl (number (fits s tail (ack_delay s time) room 1) 0 9 refl refl)) refl)

one : (r : Receiver) (time : Micros) (call : Call) → is_one (step r time call).verdict ≡ (takes_record call && not (consistent r))
unfolding step takes_record packet_call timer_call immediate_call confirm_call threshold_call
one r time (Open t q m u) = opening time t q m u
one r time (Packet n eliciting mark) = ap is_one (handed (packet_refusal r n time) r (packet_after r n time eliciting mark)) ∙ packet r n time
one r time Timer = ap is_one (handed (timer_refusal r time) r (timer_after r time)) ∙ timer r time
one r time (Threshold s t d q) = noted r time (threshold_call r s t d q) (ap is_one (told (threshold_verdict r s t d q) r (agreed_after r s t d q)) ∙ threshold r s t d q)
one r time Immediate = noted r time (heard_of (immediate_call r)) (ap is_one (handed (immediate_refusal r) r (immediate_after r)) ∙ immediate r)
one r time (Confirm k) = noted r time (heard_of (confirm_call r k)) (ap is_one (handed (confirm_refusal r k) r (confirm_after r k)) ∙ confirm r k)
one r time (Write kind room) = ap is_one (wrote (write_refusal r time kind (acting room)) r) ∙ write r time kind (acting room)

answer : (r : Receiver) (time : Micros) (call : Call) (frame line : ℕ) → without_line r time call frame line ≡ first (rows r time call frame line)
unfolding without_line first
answer r time call frame line = rw (one r time call) (go (takes_record call && not (consistent r)) (has_room r time call frame line))
  where
    go : (a b : Bool) → ◌≡◌ {A = ℕ} (pick a 1 (pick b 0 9)) (pick a 1 (pick (not b) 9 0))
    go true b = refl
    go false true = refl
    go false false = refl

pub exactly : Exactly
exactly = record { answer = answer; one = one }
