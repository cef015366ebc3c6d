-- "Packet": refusals 1, 5, then 6 and 7; what an accepted packet raises; the causes count, order and congestion.
use Rattle.std.specs.Prelude.{ℕ, zero, suc, ◌+◌, ◌-◌, ◌≤◌, ◌<◌, min, max, Bool, false, not, ◌&&◌, ◌||◌, List, leb, ltb, eqb, Option, Some, None}
use Rattle.wire.specs.Bytes.{pick}
use Rattle.wire.specs.Numbers.{limit}
use Rattle.seen.specs.declared.Micros.{Micros}
use Rattle.seen.specs.declared.Seen.{Seen}
use Rattle.receiver.specs.declared.Pending.{Pending}
use Rattle.receiver.specs.declared.Agreed.{Agreed}
use Rattle.receiver.specs.declared.Receiver.{Receiver}
use Rattle.receiver.specs.declared.Answer.{Answer}
use Rattle.ecn.specs.declared.Mark.{Mark}
use Rattle.ecn.specs.Totals.{is_ce, totals_after}
use Rattle.seen.specs.Numbers.{small}
use Rattle.seen.specs.Received.{over, number_refusal, seen_after, first_missing, is_any}
use Rattle.ack.specs.Ack.{number_at}
use Rattle.receiver.specs.Record.{consistent}

-- ---- a record and an answer whose window's words are lent beside them

abbrev pub record_over : List ℕ → Receiver → Receiver
record_over words r =
    record {
      seen = over words r.seen;
      pending = r.pending;
      agreed = r.agreed;
      limits = r.limits;
      acknowledged = r.acknowledged;
      highest = r.highest;
      ce = r.ce;
      cause = r.cause;
      totals = r.totals;
    }

abbrev pub answer_over : List ℕ → Answer → Answer
answer_over words a = record { result = a.result; next = record_over words a.next }

-- ---- refusals

-- "Order: 1 first. Number arguments next, giving 5. Then [..] 6, 7"
unfoldable pub packet_refusal : Receiver → ℕ → Micros → ℕ
packet_refusal r n time = pick (consistent r) (pick (small n && small time.0) (number_refusal r.seen n) 5) 1

-- ---- what is still to be acknowledged

-- "An ack-eliciting one raises N, H and U as needed"; "At 2^62, N stays"
unfoldable pub pending_after : Pending → ℕ → Micros → Pending
pending_after p n time =
    record { count = min (p.count + 1) (limit + 1); end = max p.end (n + 1); first = pick (eqb p.count 0) time p.first }

-- ---- the causes; seen and pending are as the packet leaves them

-- "R = 1: the number is below the earlier H, or it is above H and a number strictly between is missing; with no earlier H, all numbers from 0 up to it count as between"
unfoldable pub out_of_order : Seen → ℕ → ℕ → Bool
out_of_order s n highest = ltb (n + 1) highest || is_any (first_missing s highest n)

-- U - m >= R for the missing number m at a place, where U's end is `end`
abbrev pub reaches : Seen → ℕ → ℕ → Option ℕ → Bool
reaches s reach end (Some place) = leb (number_at s.end place + reach) (end - 1)
reaches s reach end None = false

-- "R from 2 up: the smallest unreported missing number m has U - m >= R. Unreported missing numbers are those not received, below U, and above A - R"
unfoldable pub gap_reached : Seen → ℕ → ℕ → ℕ → Bool
gap_reached s reach acknowledged end = reaches s reach end (first_missing s (acknowledged - reach) (end - 1))

-- "3, order. R = 0: never"; "An R above 1,023 acts as 1,023"
unfoldable pub order : Seen → ℕ → ℕ → ℕ → ℕ → ℕ → Bool
order s zero n highest acknowledged end = false
order s (suc zero) n highest acknowledged end = out_of_order s n highest
order s (suc (suc r)) n highest acknowledged end = gap_reached s (min (suc (suc r)) 1023) acknowledged end

-- "4, congestion": "Until the first threshold frame is accepted, every accepted ack-eliciting packet with CE sets cause 4; from then on the start-of-run rule holds" (02, No. 1):
-- "this packet has CE and the previously accepted packet, of either kind, had not, or there was none"; `before` is that packet's mark, false where there was none
abbrev pub starts_congestion : Bool → Bool → Bool → Bool
starts_congestion ce noFrameYet before = ce && (noFrameYet || not before)

-- no threshold frame was accepted yet, as the record keeps it: no sequence was processed
abbrev pub nothing_agreed : Agreed → Bool
nothing_agreed a = eqb a.sequence 0

-- the mark of the packet before, as the record keeps it: CE where the number is not 0
abbrev pub mark_before : Receiver → Bool
mark_before r = not (eqb r.seen.end 0) && not (eqb r.ce 0)

unfoldable pub congestion : Receiver → Bool → Bool
congestion r ce = starts_congestion ce (nothing_agreed r.agreed) (mark_before r)

-- "the first that holds becomes the cause", 2 being "count: N > T"
unfoldable pub first_cause : Receiver → ℕ → Bool → Seen → Pending → ℕ
first_cause r n ce s p =
    pick (ltb r.agreed.threshold p.count) 2
    (pick (order s r.agreed.reordering n r.highest r.acknowledged p.end) 3 (pick (congestion r ce) 4 0))

-- "If no cause stands": a standing one stays
abbrev pub standing : ℕ → ℕ → ℕ
standing zero new = new
standing (suc cause) new = suc cause

unfoldable pub cause_after : Receiver → ℕ → Bool → Seen → Pending → ℕ
cause_after r n ce s p = standing r.cause (first_cause r n ce s p)

-- what they ask of what the packet leaves: U is there, and U and L are in range
pub record InRange (s : Seen) (end : ℕ) : Type 0 where
  pub some : 0 < end
  pub unacknowledged : end ≤ limit + 1
  pub largest : s.end ≤ limit + 1

-- ---- the call

-- either kind: the window, the CE mark and the total of its mark
abbrev pub plain_after : Receiver → ℕ → Micros → Mark → Receiver
plain_after r n time mark =
    record {
      seen = seen_after r.seen n time;
      pending = r.pending;
      agreed = r.agreed;
      limits = r.limits;
      acknowledged = r.acknowledged;
      highest = r.highest;
      ce = pick (is_ce mark) 1 0;
      cause = r.cause;
      totals = totals_after r.totals mark;
    }

-- an ack-eliciting one also N, U, H and the cause; q is the record with its window and mark
abbrev pub eliciting_after : Receiver → Receiver → ℕ → Micros → Mark → Receiver
eliciting_after r q n time mark =
    record {
      seen = q.seen;
      pending = pending_after r.pending n time;
      agreed = q.agreed;
      limits = q.limits;
      acknowledged = q.acknowledged;
      highest = max r.highest (n + 1);
      ce = q.ce;
      cause = cause_after r n (is_ce mark) q.seen (pending_after r.pending n time);
      totals = q.totals;
    }

-- "A packet that is not ack-eliciting never sets a cause"
unfoldable pub packet_after : Receiver → ℕ → Micros → Bool → Mark → Receiver
packet_after r n time eliciting mark = pick eliciting (eliciting_after r (plain_after r n time mark) n time mark) (plain_after r n time mark)

-- "A refusal returns its number and the record as it came in"
abbrev pub handed_back : ℕ → Receiver → Receiver → Answer
handed_back zero old new = record { result = 0; next = new }
handed_back (suc refusal) old new = record { result = suc refusal; next = old }

unfoldable pub packet_call : Receiver → ℕ → Micros → Bool → Mark → Answer
packet_call r n time eliciting mark = handed_back (packet_refusal r n time) r (packet_after r n time eliciting mark)
