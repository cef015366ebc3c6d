-- The lines in their order; a call that was not accepted keeps the record, so its line says what the line before says.
-- Assumes nothing.
use Prim.Native.Nat.{ℕ, zero, suc}
use mathlib.Core.Path.{◌≡◌, refl, sym, ap, ◌∙◌}
use mathlib.Core.Bool.{Bool, true, false}
use mathlib.Core.List.{List, [], ◌∷◌, ◌++◌}
use native.Mathlib.Omega.{arith}
use lib.ListN.{length}
use Rattle.wire.specs.Bytes.{pick}
use Rattle.seen.specs.declared.Micros.{Micros}
use Rattle.seen.specs.Numbers.{small}
use Rattle.receiver.specs.declared.Millis.{Millis}
use Rattle.receiver.specs.declared.Receiver.{Receiver}
use Rattle.receiver.specs.declared.Heard.{Heard}
use Rattle.receiver.specs.declared.Verdict.{Verdict}
use Rattle.receiver.specs.declared.Verdict.TheVariants.{Accepted, Stale, Refused}
use Rattle.receiver.specs.Record.{consistent}
use Rattle.receiver.specs.Packet.{handed_back, packet_refusal, packet_after, packet_call}
use Rattle.receiver.specs.Calls.{opened, usual, open_refusal, open_call, timer_refusal, timer_after, timer_call, immediate_refusal, immediate_after, immediate_call, heard, agreed_after, threshold_verdict, threshold_call}
use Rattle.receiver.specs.Confirm.{confirm_refusal, confirm_after, confirm_call}
use Rattle.receiver.specs.Write.{write_refusal}
use Rattle.call_log.specs.declared.Call.{Call}
use Rattle.call_log.specs.declared.Call.TheVariants.{Open, Packet, Timer, Threshold, Immediate, Confirm, Write}
use Rattle.call_log.specs.Calls.{heard_of, noting, noting_opening, acting, wrote_of, step}
use Rattle.call_log.specs.Line.{now_of, line_of}
use Rattle.log_laws.specs.Lines.{Entry, Line, next, after, line_on, lines_of, text_of}
use Rattle.log_laws.specs.Truth.{KeepsOpen, SaysNow, Ignored, Determines}

-- ---- the last line

after_more : (r : Receiver) (es : List Entry) (e : Entry) → after r (es ++ (e ∷ [])) ≡ next (after r es) e
unfolding after
after_more r [] e = refl
after_more r (d ∷ es) e = after_more (next r d) es e

lines_more : (r : Receiver) (es : List Entry) (e : Entry) → lines_of r (es ++ (e ∷ [])) ≡ lines_of r es ++ (line_on (after r es) e ∷ [])
unfolding after lines_of
lines_more r [] e = refl
lines_more r (d ∷ es) e = ap (λ (ls : List Line). line_on r d ∷ ls) (lines_more (next r d) es e)

own-text : (r : Receiver) (e : Entry) → text_of (line_on r e ∷ []) ≡ line_of r e.time e.call []
unfolding text_of line_of
own-text r e = refl

pub says-now : SaysNow
says-now = record { last = lines_more; now = λ r es e. ap now_of (sym (after_more r es e)); text = own-text }

-- ---- a call that was not accepted

abbrev Keeps : Receiver → Heard → Type 0
Keeps r h = (h.verdict ≡ Accepted → ⊥) → h.next ≡ r

plain : (k : ℕ) (r new : Receiver) → Keeps r (heard_of (handed_back k r new))
plain zero r new n = absurd (n refl)
plain (suc k) r new n = refl

frame : (v : Verdict) (r new : Receiver) → Keeps r (heard v r new)
frame Accepted r new n = absurd (n refl)
frame Stale r new n = refl
frame (Refused k) r new n = refl

wrote : (k : ℕ) (r : Receiver) → Keeps r (wrote_of k r)
wrote zero r n = absurd (n refl)
wrote (suc k) r n = refl

noted : (r : Receiver) (time : Micros) (h : Heard) → Keeps r h → Keeps r (noting r time h)
unfolding noting
noted r time h f = go (small time.0)
  where
    go : (b : Bool) → Keeps r (pick b h (record { verdict = pick (consistent r) (Refused 5) (Refused 1); next = r }))
    go true = f
    go false = λ n. refl

keeps : (r : Receiver) (time : Micros) (call : Call) → KeepsOpen call → Keeps r (step r time call)
unfolding step packet_call timer_call immediate_call confirm_call threshold_call
keeps r time (Open t q m u) o = absurd o
keeps r time (Packet n eliciting mark) o = plain (packet_refusal r n time) r (packet_after r n time eliciting mark)
keeps r time Timer o = plain (timer_refusal r time) r (timer_after r time)
keeps r time (Threshold s t d q) o = noted r time (threshold_call r s t d q) (frame (threshold_verdict r s t d q) r (agreed_after r s t d q))
keeps r time Immediate o = noted r time (heard_of (immediate_call r)) (plain (immediate_refusal r) r (immediate_after r))
keeps r time (Confirm k) o = noted r time (heard_of (confirm_call r k)) (plain (confirm_refusal r k) r (confirm_after r k))
keeps r time (Write kind room) o = wrote (write_refusal r time kind (acting room)) r

-- an opening is never stale
opening : (time : Micros) (t q : ℕ) (m : Millis) (u : Micros) → (noting_opening time (heard_of (open_call t q m u))).verdict ≡ Stale → ⊥
unfolding noting_opening open_call
opening time t q m u = go (small time.0) (open_refusal t q m u)
  where
    go : (b : Bool) (k : ℕ) → (pick b (heard_of (handed_back k usual (opened t q m u))) (record { verdict = Refused 5; next = usual })).verdict ≡ Stale → ⊥
    go true zero e = let z : ◌≡◌ {A = ℕ} 0 1 = cc in omega arith
    go true (suc k) e = let z : ◌≡◌ {A = ℕ} 0 1 = cc in omega arith
    go false k e = let z : ◌≡◌ {A = ℕ} 0 1 = cc in omega arith

stale-not : (v : Verdict) → v ≡ Stale → v ≡ Accepted → ⊥
stale-not v s a = let y : ◌≡◌ {A = Verdict} Stale Accepted = sym s ∙ a in let z : ◌≡◌ {A = ℕ} 0 1 = cc in omega arith

refused-not : (v : Verdict) (k : ℕ) → v ≡ Refused k → v ≡ Accepted → ⊥
refused-not v k s a = let y : ◌≡◌ {A = Verdict} (Refused k) Accepted = sym s ∙ a in let z : ◌≡◌ {A = ℕ} 0 1 = cc in omega arith

stale-keeps : (r : Receiver) (time : Micros) (call : Call) → (step r time call).verdict ≡ Stale → (step r time call).next ≡ r
unfolding step
stale-keeps r time (Open t q m u) s = absurd (opening time t q m u s)
stale-keeps r time (Packet n eliciting mark) s = keeps r time (Packet n eliciting mark) tt (stale-not _ s)
stale-keeps r time Timer s = keeps r time Timer tt (stale-not _ s)
stale-keeps r time (Threshold a b c d) s = keeps r time (Threshold a b c d) tt (stale-not _ s)
stale-keeps r time Immediate s = keeps r time Immediate tt (stale-not _ s)
stale-keeps r time (Confirm k) s = keeps r time (Confirm k) tt (stale-not _ s)
stale-keeps r time (Write kind room) s = keeps r time (Write kind room) tt (stale-not _ s)

pub ignored : Ignored
ignored =
    record {
      stale = λ r d e s. ap now_of (stale-keeps (next r d) e.time e.call s);
      refused = λ r d e k o s. ap now_of (keeps (next r d) e.time e.call o (refused-not _ k s));
    }

-- ---- equal lines

abbrev first-or : Line → List Line → Line
first-or other [] = other
first-or other (l ∷ ls) = l

abbrev rest : List Line → List Line
rest [] = []
rest (l ∷ ls) = ls

abbrev entry : Line → Entry
entry l = record { time = l.time; call = l.call }

same : (r : Receiver) (es fs : List Entry) → lines_of r es ≡ lines_of r fs → es ≡ fs
unfolding lines_of
same r [] [] h = refl
same r [] (f ∷ fs) h = absurd (let z : ◌≡◌ {A = ℕ} 0 (suc (length (lines_of (next r f) fs))) = ap length h in omega arith)
same r (e ∷ es) [] h = absurd (let z : ◌≡◌ {A = ℕ} (suc (length (lines_of (next r e) es))) 0 = ap length h in omega arith)
same r (e ∷ es) (f ∷ fs) h =
    let p : e ≡ f = ap (λ (ls : List Line). entry (first-or (line_on r e) ls)) h in
    let q : lines_of (next r e) es ≡ lines_of (next r f) fs = ap rest h in
    let g : lines_of (next r f) es ≡ lines_of (next r f) fs = rw p at q in
    rw p (ap (λ (x : List Entry). f ∷ x) (same (next r f) es fs g))

pub determines : Determines
determines r es fs h = let e = same r es fs h in (e, ap (after r) e)
