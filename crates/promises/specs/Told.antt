-- Told: after any calls from an opening the record says exactly what the accepted calls say.
-- Each quantity is read from the lists of accepted packets and frames; what may be absent is an end, one past the number, and 0 for none.
use Rattle.std.specs.Prelude.{ℕ, zero, suc, ◌+◌, ◌-◌, ◌^◌, ◌≤◌, ◌<◌, min, max, ◌≡◌, Bool, true, false, ◌&&◌, ◌||◌, List, [], ◌∷◌, leb, ltb, eqb, length}
use Rattle.wire.specs.Bytes.{pick}
use Rattle.wire.specs.Numbers.{limit}
use Rattle.window.specs.Window.{places, window_of, with_bit}
use Rattle.receiver.specs.declared.Millis.{Millis}
use Rattle.seen.specs.declared.Micros.{Micros}
use Rattle.seen.specs.declared.Seen.{Seen}
use Rattle.receiver.specs.declared.Pending.{Pending}
use Rattle.receiver.specs.declared.Agreed.{Agreed}
use Rattle.ecn.specs.declared.Mark.{Mark}
use Rattle.ecn.specs.declared.Totals.{Totals}
use Rattle.receiver.specs.declared.Receiver.{Receiver}
use Rattle.ecn.specs.Totals.{is_ce, is_ect0, is_ect1, is_none}
use Rattle.seen.specs.Received.{floor, floor_of, received}
use Rattle.ack.specs.Ack.{number_at}
use Rattle.promises.specs.Sequence.{packet, timer, immediate, threshold, write, confirm, Calls, none, ◌then◌, accepted, after, replied, opening}
use Rattle.promises.specs.Accepted.{Packet, Frame, one_if, accepted_of, packets, since, before, frames}

-- ---- of a list of packets

-- the largest number
unfoldable pub largest : List Packet → ℕ
largest [] = 0
largest (p ∷ ps) = max (largest ps) (p.number + 1)

-- the ack-eliciting ones
unfoldable pub eliciting_of : List Packet → List Packet
eliciting_of [] = []
eliciting_of (p ∷ ps) = pick p.eliciting (p ∷ eliciting_of ps) (eliciting_of ps)

-- whether a number is among them
unfoldable pub among : List Packet → ℕ → Bool
among [] n = false
among (p ∷ ps) n = eqb p.number n || among ps n

-- the arrival time of the largest: a packet that does not exceed the earlier ones leaves it
unfoldable pub arrival_of : List Packet → Micros
arrival_of [] = record { 0 = 0 }
arrival_of (p ∷ ps) = pick (ltb p.number (largest ps)) (arrival_of ps) p.time

-- the arrival time of the first of them, `other` where there is none
unfoldable pub first_arrival : Micros → List Packet → Micros
first_arrival other [] = other
first_arrival other (p ∷ ps) = first_arrival p.time ps

-- the last one's CE mark
unfoldable pub last_mark : List Packet → Bool
last_mark [] = false
last_mark (p ∷ ps) = is_ce p.mark

-- how many carried a mark for which the test holds
unfoldable pub how_often : (Mark → Bool) → List Packet → ℕ
how_often test [] = 0
how_often test (p ∷ ps) = how_often test ps + one_if (test p.mark)

-- "Each total is defined from the list of accepted packets" (02, No. 2), of both kinds; "A total stays at 2^62 - 1"
abbrev pub total_of : (Mark → Bool) → List Packet → ℕ
total_of test ps = min (how_often test ps) limit

-- "totals of accepted packets marked ECT(0), ECT(1) and CE, and of unmarked ones"
unfoldable pub totals_of : List Packet → Totals
totals_of ps = record { ect0 = total_of is_ect0 ps; ect1 = total_of is_ect1 ps; ce = total_of is_ce ps; unmarked = total_of is_none ps }

-- ---- the window of "the last 1,024 numbers"

-- whether a place stands for a number, from 0 up, that is among the packets
unfoldable pub is_marked : List Packet → ℕ → Bool
is_marked ps place = leb places (place + largest ps) && among ps (number_at (largest ps) place)

-- the number with exactly those of the first k places marked for which the test holds
unfoldable pub marks : (ℕ → Bool) → ℕ → ℕ
marks test zero = 0
marks test (suc k) = pick (test k) (with_bit (marks test k) k) (marks test k)

-- ---- of a list of frames

-- none was accepted yet
unfoldable pub no_frame : List Frame → Bool
no_frame [] = true
no_frame (f ∷ fs) = false

-- the largest sequence
unfoldable pub largest_sequence : List Frame → ℕ
largest_sequence [] = 0
largest_sequence (f ∷ fs) = max (largest_sequence fs) (f.sequence + 1)

-- T, R, delay and sequence of a frame
abbrev pub values_of : Frame → Agreed
values_of f = record { threshold = f.threshold; reordering = f.reordering; delay = f.delay; sequence = f.sequence + 1 }

-- the values in force: those of the frame with the largest sequence, and the opening's where there is none
unfoldable pub in_force : Agreed → List Frame → Agreed
in_force opened [] = opened
in_force opened (f ∷ fs) = pick (ltb f.sequence (largest_sequence fs)) (in_force opened fs) (values_of f)

-- ---- of the accepted calls

-- the record's own floor: each confirmation raises it "to k + 1, or to L where k is L" (02, No. 12), L being the largest number accepted until then
unfoldable pub confirmed_of : Calls → ℕ
confirmed_of none = 0
confirmed_of (cs then packet n time eliciting mark) = confirmed_of cs
confirmed_of (cs then timer time) = confirmed_of cs
confirmed_of (cs then immediate) = confirmed_of cs
confirmed_of (cs then threshold s t d q) = confirmed_of cs
confirmed_of (cs then write time kind room) = confirmed_of cs
confirmed_of (cs then confirm k) = max (confirmed_of cs) (min (k + 1) (largest (packets cs) - 1))

-- the floor in use: "the larger of it and the window's own floor"
abbrev pub floor_in : Calls → ℕ
floor_in cs = max (confirmed_of cs) (floor_of (largest (packets cs)))

-- L with its arrival time, the window and the floor
unfoldable pub seen_of : Calls → Seen
seen_of cs = record { window = window_of (marks (is_marked (packets cs)) places); end = largest (packets cs); arrived = arrival_of (packets cs); confirmed = confirmed_of cs }

-- the first arrival as the last written ACK left it: it means nothing until an ack-eliciting packet comes
unfoldable pub left_arrival : Calls → Micros
left_arrival none = record { 0 = 0 }
left_arrival (cs then packet n time eliciting mark) = left_arrival cs
left_arrival (cs then timer time) = left_arrival cs
left_arrival (cs then immediate) = left_arrival cs
left_arrival (cs then threshold s t d q) = left_arrival cs
left_arrival (cs then write time kind room) = first_arrival (left_arrival cs) (eliciting_of (since cs))
left_arrival (cs then confirm k) = left_arrival cs

-- N ("At 2^62, N stays"), U, and the first arrival
unfoldable pub pending_of : Calls → Pending
pending_of cs =
    record {
      count = min (length (eliciting_of (since cs))) (2 ^ 62);
      end = largest (eliciting_of (since cs));
      first = first_arrival (left_arrival cs) (eliciting_of (since cs));
    }

-- the record that the accepted calls tell, with a cause: L, the window and the floor; N, U and the first arrival; T, R, delay and sequence in force;
-- the own limits; A, which was L at the last written ACK; H; the last packet's CE mark; the totals
abbrev pub tell : Receiver → Calls → ℕ → Receiver
tell opened cs cause =
    record {
      seen = seen_of cs;
      pending = pending_of cs;
      agreed = in_force opened.agreed (frames cs);
      limits = opened.limits;
      acknowledged = largest (before cs);
      highest = largest (eliciting_of (packets cs));
      ce = pick (last_mark (packets cs)) 1 0;
      cause = cause;
      totals = totals_of (packets cs);
    }

-- ---- the theorem

-- what the record after calls says of the accepted ones among them
pub record Tells (opened : Receiver) (cs : Calls) : Type 0 where
  -- the whole record; which cause is due is the theorem Due
  pub whole : after opened cs ≡ tell opened (accepted_of opened cs) (after opened cs).cause
  -- a number from the floor up to L is marked exactly when it was accepted
  pub window : (n : ℕ) → floor (after opened cs).seen ≤ n → n < (after opened cs).seen.end
      → received (after opened cs).seen n ≡ among (packets (accepted_of opened cs)) n
  -- no number is accepted twice
  pub once : (n : ℕ) (time : Micros) (eliciting : Bool) (mark : Mark) → replied opened cs (packet n time eliciting mark) ≡ accepted
      → among (packets (accepted_of opened cs)) n ≡ false
  -- where N is above 0 the first arrival is that of the packets since the last written ACK, whatever stood before
  pub first : (other : Micros) → 0 < (after opened cs).pending.count
      → (after opened cs).pending.first ≡ first_arrival other (eliciting_of (since (accepted_of opened cs)))
  -- the sequence kept is the largest accepted one
  pub sequence : (after opened cs).agreed.sequence ≡ largest_sequence (frames (accepted_of opened cs))
  -- an accepted frame's is above all accepted before it, so that the values in force are those of the last accepted frame
  pub newest : (s t : ℕ) (d : Micros) (q : ℕ) → replied opened cs (threshold s t d q) ≡ accepted → largest_sequence (frames (accepted_of opened cs)) ≤ s

-- of any calls from any opening
abbrev pub Told : Type 0
Told = (t q : ℕ) (m : Millis) (u : Micros) (cs : Calls) → Tells (opening t q m u) cs
