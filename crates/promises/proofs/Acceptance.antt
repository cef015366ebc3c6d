-- What a call's acceptance says: an accepted call leaves what its rule makes of the record, and no row of the table applied to record and arguments.
-- Assumes nothing.
use Prim.Native.Nat.{ℕ, zero, suc, ◌≤◌, ◌<◌}
use mathlib.Core.Path.{◌≡◌, refl, sym, ap, ◌∙◌}
use mathlib.Core.Bool.{Bool, true, false, not, ◌&&◌}
use mathlib.Core.List.{List, [], ◌∷◌}
use native.Mathlib.Omega.{arith}
use borrow.Author.Tests.{ltb-true, ltb-false, leb-true, leb-false, eqb-false, lt-ltb, le-leb}
use lib.Dec.{leb, ltb, eqb}
use Rattle.wire.specs.Numbers.{limit}
use Rattle.seen.specs.declared.Micros.{Micros}
use Rattle.seen.specs.declared.Seen.{Seen}
use Rattle.receiver.specs.declared.Receiver.{Receiver}
use Rattle.receiver.specs.declared.Verdict.{Verdict}
use Rattle.receiver.specs.declared.Verdict.TheVariants.{Accepted, Stale, Refused}
use Rattle.seen.specs.Numbers.{small}
use Rattle.seen.specs.Received.{floor, received}
use Rattle.receiver.specs.Record.{delay_rule, consistent}
use Rattle.receiver.specs.Packet.{packet_refusal, packet_after, packet_call, handed_back}
use Rattle.receiver.specs.Calls.{timer_refusal, timer_after, timer_call, immediate_refusal, immediate_after, immediate_call, agreed_after, threshold_verdict, threshold_call, heard}
use Rattle.receiver.specs.Confirm.{confirm_refusal, confirm_after, confirm_call}
use Rattle.receiver.specs.Write.{write_refusal, after_write, answered}
use Rattle.receiver.specs.Exactly.{Row, row, first, packet_rows, timer_rows, immediate_rows, threshold_rows, confirm_rows, verdict_of}
use Rattle.receiver.specs.Emits.{write_rows}
use Rattle.receiver.proofs.Exactly.{unchanged}
use Rattle.ecn.specs.declared.Mark.{Mark}
use Rattle.promises.specs.Sequence.{Call, packet, timer, immediate, threshold, write, confirm, accepted, reply_of, reply_to, step}
use Rattle.promises.proofs.Truth.{both_left, both_right, not-false, last-false}
use Rattle.promises.proofs.Rows.{by_rows}

-- ---- what an accepted call leaves

abbrev pub made : Receiver → Call → Receiver
made r (packet n time eliciting mark) = packet_after r n time eliciting mark
made r (timer time) = timer_after r time
made r immediate = immediate_after r
made r (threshold sequence t delay q) = agreed_after r sequence t delay q
made r (write time kind room) = after_write r
made r (confirm k) = confirm_after r k

handed-new : (k : ℕ) (old new : Receiver) → reply_of (handed_back k old new).result ≡ accepted → (handed_back k old new).next ≡ new
handed-new zero old new e = refl
handed-new (suc k) old new e = absurd (cc)

heard-new : (v : Verdict) (old new : Receiver) → reply_to (heard v old new).verdict ≡ accepted → (heard v old new).next ≡ new
heard-new Accepted old new e = refl
heard-new Stale old new e = absurd (cc)
heard-new (Refused k) old new e = absurd (cc)

answered-new : (k : ℕ) (r : Receiver) → reply_of (answered k r []).result ≡ accepted → (answered k r []).next ≡ after_write r
answered-new zero r e = refl
answered-new (suc k) r e = absurd (cc)

answered-old : (k : ℕ) (r : Receiver) → (reply_of (answered k r []).result ≡ accepted → ⊥) → (answered k r []).next ≡ r
answered-old zero r f = absurd (f refl)
answered-old (suc k) r f = refl

-- a call that is not accepted hands the record back
pub step_kept : (r : Receiver) (c : Call) → ((step r c).reply ≡ accepted → ⊥) → (step r c).next ≡ r
unfolding step
step_kept r (packet n time eliciting mark) f = unchanged.packet r n time eliciting mark (λ z. f (ap reply_of z))
step_kept r (timer time) f = unchanged.timer r time (λ z. f (ap reply_of z))
step_kept r immediate f = unchanged.immediate r (λ z. f (ap reply_of z))
step_kept r (threshold s t d q) f = unchanged.threshold r s t d q (λ z. f (ap reply_to z))
step_kept r (write time kind room) f = answered-old (write_refusal r time kind room) r f
step_kept r (confirm k) f = unchanged.confirm r k (λ z. f (ap reply_of z))

-- an accepted one hands back what it makes
pub step-made : (r : Receiver) (c : Call) → (step r c).reply ≡ accepted → (step r c).next ≡ made r c
unfolding step packet_call timer_call immediate_call threshold_call confirm_call
step-made r (packet n time eliciting mark) e = handed-new (packet_refusal r n time) r (packet_after r n time eliciting mark) e
step-made r (timer time) e = handed-new (timer_refusal r time) r (timer_after r time) e
step-made r immediate e = handed-new (immediate_refusal r) r (immediate_after r) e
step-made r (threshold s t d q) e = heard-new (threshold_verdict r s t d q) r (agreed_after r s t d q) e
step-made r (write time kind room) e = answered-new (write_refusal r time kind room) r e
step-made r (confirm k) e = handed-new (confirm_refusal r k) r (confirm_after r k) e

-- ---- what record and arguments of an accepted call meet, besides consistency

pub record PacketMeets (s : Seen) (n : ℕ) (t : Micros) : Type 0 where
  pub number : n ≤ limit
  pub time : t.0 ≤ limit
  pub window : floor s ≤ n
  pub fresh : n < s.end → received s n ≡ false

pub record FrameMeets (r : Receiver) (s t : ℕ) (d : Micros) (q : ℕ) : Type 0 where
  pub sequence : s ≤ limit
  pub threshold : t ≤ limit
  pub reordering : q ≤ limit
  pub delay : d.0 < 16384000
  pub least : r.limits.minimum.0 ≤ d.0
  pub newer : r.agreed.sequence ≤ s

abbrev pub Meets : Receiver → Call → Type 0
Meets r (packet n time eliciting mark) = PacketMeets r.seen n time
Meets r (timer time) = time.0 ≤ limit
Meets r immediate = 0 < r.seen.end
Meets r (threshold sequence t delay q) = FrameMeets r sequence t delay q
Meets r (write time kind room) = 0 < r.seen.end
Meets r (confirm k) = k < r.acknowledged

pub reply-zero : (k : ℕ) → reply_of k ≡ accepted → k ≡ 0
reply-zero zero e = refl
reply-zero (suc k) e = absurd (cc)

verdict-zero : (k : ℕ) (b : Bool) → reply_to (verdict_of k b) ≡ accepted → (k ≡ 0) × (b ≡ false)
verdict-zero zero false e = (refl, refl)
verdict-zero zero true e = absurd (cc)
verdict-zero (suc k) b e = absurd (cc)

-- where no row applies, the first does not and none of the rest
rest : (k : ℕ) (b : Bool) (rows : List Row) → first (row (suc k) b ∷ rows) ≡ 0 → (b ≡ false) × (first rows ≡ 0)
unfolding first
rest k true rows e = absurd (omega arith)
rest k false rows e = (refl, e)

packet-meets : (r : Receiver) (n : ℕ) (time : Micros) → first (packet_rows r n time) ≡ 0 → PacketMeets r.seen n time
packet-meets r n time e =
    let a = rest 0 (not (consistent r)) _ e in
    let b = rest 4 (not (small n && small time.0)) _ a.1 in
    let c = rest 5 (leb (floor r.seen) n && (ltb n r.seen.end && received r.seen n)) _ b.1 in
    let d = rest 6 (ltb n (floor r.seen)) [] c.1 in
    let small = not-false (small n && small time.0) b.0 in
    let low : floor r.seen ≤ n = ltb-false n (floor r.seen) d.0 in record {
      number = leb-true n limit (both_left (leb n limit) (leb time.0 limit) small);
      time = leb-true time.0 limit (both_right (leb n limit) (leb time.0 limit) small);
      window = low;
      fresh = λ l. last-false (leb (floor r.seen) n) (ltb n r.seen.end) (received r.seen n) (le-leb (floor r.seen) n low) (lt-ltb n r.seen.end l) c.0;
    }

-- an accepted packet came on a consistent record
pub packet-consistent : (r : Receiver) (n : ℕ) (time : Micros) (eliciting : Bool) (mark : Mark) → (step r (packet n time eliciting mark)).reply ≡ accepted → consistent r ≡ true
packet-consistent r n time eliciting mark e =
    not-false (consistent r) (rest 0 (not (consistent r)) _ (reply-zero (first (packet_rows r n time)) (sym (by_rows r (packet n time eliciting mark)) ∙ e))).0

timer-meets : (r : Receiver) (time : Micros) → first (timer_rows r time) ≡ 0 → time.0 ≤ limit
timer-meets r time e =
    let a = rest 0 (not (consistent r)) _ e in
    leb-true time.0 limit (not-false (small time.0) (rest 4 (not (small time.0)) [] a.1).0)

some-received : (end : ℕ) (rows : List Row) → first (row 8 (eqb end 0) ∷ rows) ≡ 0 → 0 < end
some-received end rows e = let f = eqb-false end 0 (rest 7 (eqb end 0) rows e).0 in omega (arith, f)

frame-meets : (r : Receiver) (s t : ℕ) (d : Micros) (q : ℕ) → (first (threshold_rows r s t d q) ≡ 0) × (ltb s r.agreed.sequence ≡ false) → FrameMeets r s t d q
unfolding delay_rule
frame-meets r s t d q e =
    let rule : Bool = ltb d.0 16384000 && leb r.limits.minimum.0 d.0 in
    let a = rest 0 (not (consistent r)) _ e.0 in
    let b = rest 4 (not (small s && (small t && (small d.0 && small q)))) _ a.1 in
    let c = not-false rule (rest 3 (not rule) [] b.1).0 in
    let f = not-false (small s && (small t && (small d.0 && small q))) b.0 in
    let g = both_right (small s) (small t && (small d.0 && small q)) f in
    let h = both_right (small t) (small d.0 && small q) g in record {
      sequence = leb-true s limit (both_left (small s) (small t && (small d.0 && small q)) f);
      threshold = leb-true t limit (both_left (small t) (small d.0 && small q) g);
      reordering = leb-true q limit (both_right (small d.0) (small q) h);
      delay = ltb-true d.0 16384000 (both_left (ltb d.0 16384000) (leb r.limits.minimum.0 d.0) c);
      least = leb-true r.limits.minimum.0 d.0 (both_right (ltb d.0 16384000) (leb r.limits.minimum.0 d.0) c);
      newer = ltb-false s r.agreed.sequence e.1;
    }

pub step-meets : (r : Receiver) (c : Call) → (step r c).reply ≡ accepted → Meets r c
step-meets r (packet n time eliciting mark) e = packet-meets r n time (reply-zero _ (sym (by_rows r (packet n time eliciting mark)) ∙ e))
step-meets r (timer time) e = timer-meets r time (reply-zero _ (sym (by_rows r (timer time)) ∙ e))
step-meets r immediate e =
    let a = rest 0 (not (consistent r)) _ (reply-zero (first (immediate_rows r)) (sym (by_rows r immediate) ∙ e)) in some-received r.seen.end [] a.1
step-meets r (threshold s t d q) e = frame-meets r s t d q (verdict-zero _ _ (sym (by_rows r (threshold s t d q)) ∙ e))
step-meets r (write time kind room) e =
    let a = rest 0 (not (consistent r)) _ (reply-zero (first (write_rows r time kind room)) (sym (by_rows r (write time kind room)) ∙ e)) in
    let b = rest 4 (not (small time.0)) _ a.1 in
    some-received r.seen.end _ b.1
step-meets r (confirm k) e =
    let a = rest 0 (not (consistent r)) _ (reply-zero (first (confirm_rows r k)) (sym (by_rows r (confirm k)) ∙ e)) in
    let b = rest 4 (not (small k)) _ a.1 in
    let c = rest 7 (eqb r.seen.end 0) _ b.1 in
    leb-false r.acknowledged k (rest 18 (leb r.acknowledged k) [] c.1).0
