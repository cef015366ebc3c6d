-- `receiver::Receiver::with` meets its contract: each field is given as the definition says, and a consistent record keeps every number in range.
-- Assumes nothing.
use Prim.Native.Nat.{ℕ, ◌+◌, max}
use mathlib.Core.Path.{◌≡◌, refl, ap, ap₂, ◌∙◌}
use mathlib.Core.Bool.{Bool, true, false}
use mathlib.Core.List.{List}
use mir.Val.{bool_byte}
use Rattle.wire.specs.Bytes.{pick}
use Rattle.seen.specs.declared.Micros.{Micros}
use Rattle.seen.specs.declared.Seen.{Seen}
use Rattle.ecn.specs.declared.Mark.{Mark}
use Rattle.ecn.specs.declared.Totals.{Totals}
use Rattle.receiver.specs.declared.Pending.{Pending}
use Rattle.receiver.specs.declared.Receiver.{Receiver}
use Rattle.ecn.specs.Totals.{is_ce, totals_after}
use Rattle.seen.specs.Received.{over, seen_after}
use Rattle.seen.proofs.After.{with-small}
use Rattle.receiver.specs.Packet.{record_over, pending_after, congestion, first_cause, cause_after, packet_after}
use Rattle.receiver.proofs.Clauses.{consistent-exactly}
use Rattle.receiver.proofs.Raised.{in-range}
use Rattle.receiver.proofs.Receiver.with.Goals as goal
use Rattle.receiver.proofs.Receiver.with.Goals.{After-with_in-seen}

-- a number that obeys 5 is marked
seen-with : (c : After-with_in-seen) → let a = c.args in
    over c.with_in-seen.new.words c.with_in-seen.result ≡ seen_after (over a.words.now a.self.seen) a.number a.time
seen-with c = ap₂ over c.with_in-seen.ensures.1 c.with_in-seen.ensures.0 ∙ with-small _ _ _ c.requires.0

-- a packet that is not ack-eliciting leaves the window, its mark and its total, and nothing else
plain : (r : Receiver) (n : ℕ) (time : Micros) (eliciting : Bool) (mark : Mark) (s : Seen) (last : ℕ) (t : Totals)
    → eliciting ≡ false → s ≡ seen_after r.seen n time → t ≡ totals_after r.totals mark → last ≡ pick (is_ce mark) 1 0
    → record {
      seen = s;
      pending = r.pending;
      agreed = r.agreed;
      limits = r.limits;
      acknowledged = r.acknowledged;
      highest = r.highest;
      ce = last;
      cause = r.cause;
      totals = t;
    } ≡ packet_after r n time eliciting mark
unfolding packet_after
plain r n time eliciting mark s last t i j l k =
    rw (i, j, l)
    (ap
    (λ (x : ℕ).
    record {
      seen = seen_after r.seen n time;
      pending = r.pending;
      agreed = r.agreed;
      limits = r.limits;
      acknowledged = r.acknowledged;
      highest = r.highest;
      ce = x;
      cause = r.cause;
      totals = totals_after r.totals mark;
    })
    k)

-- an ack-eliciting one also what is pending, H and the cause
more : (r : Receiver) (n : ℕ) (time : Micros) (eliciting : Bool) (mark : Mark) (s : Seen) (p : Pending) (h last cause : ℕ) (t : Totals)
    → eliciting ≡ true → s ≡ seen_after r.seen n time → p ≡ pending_after r.pending n time → h ≡ max r.highest (n + 1)
    → last ≡ pick (is_ce mark) 1 0 → cause ≡ cause_after r n (is_ce mark) s p → t ≡ totals_after r.totals mark
    → record {
      seen = s;
      pending = p;
      agreed = r.agreed;
      limits = r.limits;
      acknowledged = r.acknowledged;
      highest = h;
      ce = last;
      cause = cause;
      totals = t;
    } ≡ packet_after r n time eliciting mark
unfolding packet_after
more r n time eliciting mark s p h last cause t i es ep eh el ec et = rw (i, ec, el, et, eh, ep, es)

-- a truth value as a number
byte : (b : Bool) → bool_byte b ≡ pick b 1 0
byte true = refl
byte false = refl

-- the cause looks at no word of the record's own window
cause-over : (ws : List ℕ) (r : Receiver) (n : ℕ) (ce : Bool) (s : Seen) (p : Pending) → cause_after r n ce s p ≡ cause_after (record_over ws r) n ce s p
unfolding cause_after first_cause congestion
cause-over ws r n ce s p = refl

pub returns-then-not-eliciting : goal.returns-then-not-eliciting
returns-then-not-eliciting c =
    let a = c.args in
    plain (record_over a.words.now a.self) a.number a.time a.eliciting a.mark _ _ _ c.if-not-eliciting.true (seen-with (goal.at.returns-then-not-eliciting c).After-with_in-seen) c.counted-totals.ensures
    (c.from-last.ensures ∙ byte _ ∙ ap (λ (b : Bool). pick b 1 0) c.is_ce-ce.ensures)

pub with-pending-requires : goal.with-pending-requires
with-pending-requires c =
    (c.requires.0, ((consistent-exactly _).0 c.requires.1).count)

pub cause_after-cause-requires : goal.cause_after-cause-requires
cause_after-cause-requires c =
    let a = c.args in
    let i = in-range (record_over a.words.now a.self) a.number a.time _ _ c.requires.1 c.requires.0 (seen-with (goal.at.cause_after-cause-requires c).After-with_in-seen) c.with-pending.ensures in
    (c.requires.0, record { some = i.some; unacknowledged = i.unacknowledged; largest = i.largest })

pub returns : goal.returns
returns c =
    let a = c.args in
    let ws = a.words.now in
    let s = over c.with_in-seen.new.words c.with_in-seen.result in
    let p = c.with-pending.result in
    more (record_over ws a.self) a.number a.time a.eliciting a.mark s p _ _ _ _ c.if-not-eliciting.false (seen-with (goal.at.returns c).After-with_in-seen)
    c.with-pending.ensures c.larger_of-highest.ensures (c.from-last.ensures ∙ byte _ ∙ ap (λ (b : Bool). pick b 1 0) c.is_ce-ce.ensures)
    (c.cause_after-cause.ensures ∙ cause-over ws a.self a.number c.is_ce-ce.result s p ∙ ap (λ (b : Bool). cause_after (record_over ws a.self) a.number b s p) c.is_ce-ce.ensures) c.counted-totals.ensures
