-- What demand 3 counts, read from the accepted calls alone: "A refused call counts nowhere", nor does a stale one.
use Rattle.std.specs.Prelude.{ℕ, ◌+◌, min, Bool, true, false, ◌&&◌, List, [], ◌∷◌, eqb, length}
use Rattle.wire.specs.Bytes.{pick}
use Rattle.receiver.specs.declared.Millis.{Millis}
use Rattle.seen.specs.declared.Micros.{Micros}
use Rattle.receiver.specs.Calls.{open_call}
use Rattle.receiver.specs.Packet.{starts_congestion}
use Rattle.ecn.specs.Totals.{is_ce}
use Rattle.promises.specs.Sequence.{Call, packet, timer, immediate, threshold, write, confirm, Calls, none, ◌then◌}
use Rattle.promises.specs.Accepted.{one_if, Frame, packets, frames}
use Rattle.promises.specs.Told.{eliciting_of, last_mark, no_frame}
use Rattle.promises.specs.Passed.{passed_over}

-- ---- of the packets

-- "E counts accepted ack-eliciting packets"
abbrev pub E : Calls → ℕ
E cs = length (eliciting_of (packets cs))

-- "S counts packet numbers passed over"
abbrev pub S : Calls → ℕ
S cs = passed_over (packets cs)

-- "C starts of congestion marking": "accepted ack-eliciting packets for which the congestion line holds", each after the calls before it
unfoldable pub C : Calls → ℕ
C none = 0
C (cs then packet n time eliciting mark) = C cs + one_if (eliciting && starts_congestion (is_ce mark) (no_frame (frames cs)) (last_mark (packets cs)))
C (cs then timer time) = C cs
C (cs then immediate) = C cs
C (cs then threshold sequence t delay q) = C cs
C (cs then write time kind room) = C cs
C (cs then confirm k) = C cs

-- ---- of the threshold frames

-- "F counts accepted, not stale, threshold frames"
abbrev pub F : Calls → ℕ
F cs = length (frames cs)

-- the smallest of a threshold and those of the frames
unfoldable pub smallest : ℕ → List Frame → ℕ
smallest t [] = t
smallest t (f ∷ fs) = min (smallest t fs) f.threshold

-- "T is the smallest ack-eliciting threshold ever in force, the opening's included": t is the opening's
abbrev pub T : ℕ → Calls → ℕ
T t cs = smallest t (frames cs)

-- the T of an opening: a refused one hands back the usual record, whose T is 1
abbrev pub opening_t : ℕ → ℕ → Millis → Micros → ℕ
opening_t t q maximum minimum = pick (eqb (open_call t q maximum minimum).result 0) t 1

-- ---- of the other calls

-- how many calls pass a test
unfoldable pub how_many : (Call → Bool) → Calls → ℕ
how_many test none = 0
how_many test (cs then c) = how_many test cs + one_if (test c)

abbrev pub is_immediate : Call → Bool
is_immediate (packet n time eliciting mark) = false
is_immediate (timer time) = false
is_immediate immediate = true
is_immediate (threshold sequence t delay q) = false
is_immediate (write time kind room) = false
is_immediate (confirm k) = false

abbrev pub is_timer : Call → Bool
is_timer (packet n time eliciting mark) = false
is_timer (timer time) = true
is_timer immediate = false
is_timer (threshold sequence t delay q) = false
is_timer (write time kind room) = false
is_timer (confirm k) = false

-- a call to write an acknowledgment; it is written where the call is accepted
abbrev pub is_write : Call → Bool
is_write (packet n time eliciting mark) = false
is_write (timer time) = false
is_write immediate = false
is_write (threshold sequence t delay q) = false
is_write (write time kind room) = true
is_write (confirm k) = false

-- "I accepted IMMEDIATE_ACK frames and D timer calls"
abbrev pub I : Calls → ℕ
I cs = how_many is_immediate cs

abbrev pub D : Calls → ℕ
D cs = how_many is_timer cs

-- the acknowledgments written
abbrev pub W : Calls → ℕ
W cs = how_many is_write cs
