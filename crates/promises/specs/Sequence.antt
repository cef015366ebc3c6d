-- The calls on one receiver, in their order: each is given the record that the call before handed back.
use Rattle.std.specs.Prelude.{ℕ, zero, suc, Bool, ◌≡◌, List, [], ◌∷◌, length}
use Rattle.receiver.specs.declared.Millis.{Millis}
use Rattle.seen.specs.declared.Micros.{Micros}
use Rattle.ecn.specs.declared.Mark.{Mark}
use Rattle.ecn.specs.declared.Kind.{Kind}
use Rattle.receiver.specs.declared.Receiver.{Receiver}
use Rattle.receiver.specs.declared.Verdict.{Verdict}
use Rattle.receiver.specs.declared.Verdict.TheVariants.{Accepted, Stale, Refused}
use Rattle.receiver.specs.Packet.{packet_call}
use Rattle.receiver.specs.Calls.{open_call, timer_call, immediate_call, threshold_call}
use Rattle.receiver.specs.Confirm.{confirm_call}
use Rattle.receiver.specs.Write.{write_refusal, answered, write_answer}

-- a call and its arguments; a write is of the type that its caller chose (02, No. 2), and of its lent buffer only the length, the room, matters to the record
pub data Call : Type 0 where
  packet : ℕ → Micros → Bool → Mark → Call
  timer : Micros → Call
  immediate : Call
  threshold : ℕ → ℕ → Micros → ℕ → Call
  write : Micros → Kind → ℕ → Call
  confirm : ℕ → Call

-- what a call is answered: "stale" is an answer of its own, neither accepted nor refused
pub data Reply : Type 0 where
  accepted : Reply
  stale : Reply
  refused : ℕ → Reply

pub record Outcome : Type 0 where
  pub reply : Reply
  pub next : Receiver

abbrev pub reply_of : ℕ → Reply
reply_of zero = accepted
reply_of (suc k) = refused (suc k)

abbrev pub reply_to : Verdict → Reply
reply_to Accepted = accepted
reply_to Stale = stale
reply_to (Refused k) = refused k

-- one call on a record
unfoldable pub step : Receiver → Call → Outcome
step r (packet n time eliciting mark) =
    record { reply = reply_of (packet_call r n time eliciting mark).result; next = (packet_call r n time eliciting mark).next }
step r (timer time) = record { reply = reply_of (timer_call r time).result; next = (timer_call r time).next }
step r immediate = record { reply = reply_of (immediate_call r).result; next = (immediate_call r).next }
step r (threshold sequence t delay q) =
    record { reply = reply_to (threshold_call r sequence t delay q).verdict; next = (threshold_call r sequence t delay q).next }
step r (write time kind room) =
    record { reply = reply_of (answered (write_refusal r time kind room) r []).result; next = (answered (write_refusal r time kind room) r []).next }
step r (confirm k) = record { reply = reply_of (confirm_call r k).result; next = (confirm_call r k).next }

-- the line of a write is what the write call answers, whatever the lent buffer holds
abbrev pub WriteIsStep : Type 0
WriteIsStep =
    (r : Receiver) (time : Micros) (kind : Kind) (xs : List ℕ)
    → step r (write time kind (length xs)) ≡ record { reply = reply_of (write_answer r time kind xs).result; next = (write_answer r time kind xs).next }

-- calls in their order: none yet, or some and then one more
infixl 20 ◌then◌
pub data Calls : Type 0 where
  none : Calls
  ◌then◌ : Calls → Call → Calls

-- a list of calls, the first call first
unfoldable pub in_order : Calls → List Call → Calls
in_order cs [] = cs
in_order cs (c ∷ l) = in_order (cs then c) l

-- the record after calls from a record; an opening that is refused hands back the usual record, and the calls go on from it
unfoldable pub after : Receiver → Calls → Receiver
after r none = r
after r (cs then c) = (step (after r cs) c).next

-- what the last of them was answered
abbrev pub replied : Receiver → Calls → Call → Reply
replied r cs c = (step (after r cs) c).reply

abbrev pub opening : ℕ → ℕ → Millis → Micros → Receiver
opening t q maximum minimum = (open_call t q maximum minimum).next
