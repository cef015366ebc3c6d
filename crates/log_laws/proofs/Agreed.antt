-- What is in force after a call is what the words of its line say.
-- Assumes nothing.
use Prim.Native.Nat.{ℕ, zero, suc}
use mathlib.Core.Path.{◌≡◌, refl, ap, ◌∙◌}
use mathlib.Core.Bool.{Bool, true, false}
use mathlib.Core.List.{List, [], ◌∷◌}
use Rattle.wire.specs.Bytes.{pick}
use Rattle.seen.specs.declared.Micros.{Micros}
use Rattle.seen.specs.Numbers.{small}
use Rattle.ecn.specs.declared.Mark.{Mark}
use Rattle.receiver.specs.declared.Millis.{Millis}
use Rattle.receiver.specs.declared.Receiver.{Receiver}
use Rattle.receiver.specs.declared.Agreed.{Agreed}
use Rattle.receiver.specs.declared.Heard.{Heard}
use Rattle.receiver.specs.declared.Verdict.{Verdict}
use Rattle.receiver.specs.declared.Verdict.TheVariants.{Accepted, Stale, Refused}
use Rattle.receiver.specs.Record.{micros_of, consistent}
use Rattle.receiver.specs.Packet.{handed_back, packet_refusal, packet_after, packet_call}
use Rattle.receiver.specs.Calls.{opened, usual, open_refusal, open_call, timer_refusal, timer_after, timer_call, immediate_refusal, immediate_after, immediate_call, heard, agreed_after, threshold_verdict, threshold_call}
use Rattle.receiver.specs.Confirm.{confirm_refusal, confirm_after, confirm_call}
use Rattle.receiver.specs.Write.{after_write, write_refusal}
use Rattle.call_log.specs.declared.Call.{Call}
use Rattle.call_log.specs.declared.Call.TheVariants.{Open, Packet, Timer, Threshold, Immediate, Confirm, Write}
use Rattle.call_log.specs.Calls.{heard_of, noting, noting_opening, acting, wrote_of, step}
use Rattle.call_log.specs.Line.{now_of}
use Rattle.log_laws.specs.Lines.{Entry, Line, next, after, lines_of, opened_by, framed_by, said_by, said}
use Rattle.log_laws.specs.Truth.{Agrees}

-- ---- calls that agree on nothing

kept : (k : ℕ) (r new : Receiver) → new.agreed ≡ r.agreed → (handed_back k r new).next.agreed ≡ r.agreed
kept zero r new e = e
kept (suc k) r new e = refl

noted : (r : Receiver) (time : Micros) (h : Heard) → h.next.agreed ≡ r.agreed → (noting r time h).next.agreed ≡ r.agreed
unfolding noting
noted r time h e = go (small time.0)
  where
    go : (b : Bool) → (pick b h (record { verdict = pick (consistent r) (Refused 5) (Refused 1); next = r })).next.agreed ≡ r.agreed
    go true = e
    go false = refl

packet-kept : (r : Receiver) (n : ℕ) (time : Micros) (eliciting : Bool) (mark : Mark) → (packet_after r n time eliciting mark).agreed ≡ r.agreed
unfolding packet_after
packet-kept r n time true mark = refl
packet-kept r n time false mark = refl

wrote : (k : ℕ) (r : Receiver) → (wrote_of k r).next.agreed ≡ r.agreed
unfolding after_write
wrote zero r = refl
wrote (suc k) r = refl

-- ---- the two that do

opening-said : (time : Micros) (t q : ℕ) (m : Millis) (u : Micros)
    → (noting_opening time (heard_of (open_call t q m u))).next.agreed
    ≡ opened_by (noting_opening time (heard_of (open_call t q m u))).verdict (record { threshold = t; reordering = q; delay = micros_of m; sequence = 0 })
unfolding noting_opening open_call opened
opening-said time t q m u = go (small time.0) (open_refusal t q m u)
  where
    go : (b : Bool) (k : ℕ)
        → (pick b (heard_of (handed_back k usual (opened t q m u))) (record { verdict = Refused 5; next = usual })).next.agreed
        ≡ opened_by (pick b (heard_of (handed_back k usual (opened t q m u))) (record { verdict = Refused 5; next = usual })).verdict (record { threshold = t; reordering = q; delay = micros_of m; sequence = 0 })
    go true zero = refl
    go true (suc k) = refl
    go false k = refl

frame-said : (r new : Receiver) (time : Micros) (v : Verdict)
    → (noting r time (heard v r new)).next.agreed ≡ framed_by (noting r time (heard v r new)).verdict r.agreed new.agreed
unfolding noting
frame-said r new time v = go (small time.0) v (consistent r)
  where
    go : (b : Bool) (v : Verdict) (c : Bool)
        → (pick b (heard v r new) (record { verdict = pick c (Refused 5) (Refused 1); next = r })).next.agreed
        ≡ framed_by (pick b (heard v r new) (record { verdict = pick c (Refused 5) (Refused 1); next = r })).verdict r.agreed new.agreed
    go true Accepted c = refl
    go true Stale c = refl
    go true (Refused k) c = refl
    go false v true = refl
    go false v false = refl

-- ---- every call

call-said : (r : Receiver) (time : Micros) (call : Call) → (step r time call).next.agreed ≡ said_by r.agreed call (step r time call).verdict
unfolding step said_by packet_call timer_call immediate_call confirm_call threshold_call agreed_after
call-said r time (Open t q m u) = opening-said time t q m u
call-said r time (Packet n eliciting mark) = kept (packet_refusal r n time) r (packet_after r n time eliciting mark) (packet-kept r n time eliciting mark)
call-said r time Timer = kept (timer_refusal r time) r (timer_after r time) refl
call-said r time (Threshold s t d q) = frame-said r (agreed_after r s t d q) time (threshold_verdict r s t d q)
call-said r time Immediate = noted r time (heard_of (immediate_call r)) (kept (immediate_refusal r) r (immediate_after r) refl)
call-said r time (Confirm k) = noted r time (heard_of (confirm_call r k)) (kept (confirm_refusal r k) r (confirm_after r k) refl)
call-said r time (Write kind room) = wrote (write_refusal r time kind (acting room)) r

pub agrees : Agrees
unfolding now_of after lines_of said
agrees r [] = refl
agrees r (e ∷ es) = agrees (next r e) es ∙ ap (λ (a : Agreed). said a (lines_of (next r e) es)) (call-said r e.time e.call)
