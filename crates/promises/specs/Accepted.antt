-- What the list of calls and their replies holds: the accepted calls, and among them the packets, those since the last written ACK, those before it, and the threshold frames.
-- A refused or stale call counts nowhere. Lists of packets and frames have the last one first.
use Rattle.std.specs.Prelude.{ℕ, Bool, true, false, List, [], ◌∷◌}
use Rattle.seen.specs.declared.Micros.{Micros}
use Rattle.ecn.specs.declared.Mark.{Mark}
use Rattle.receiver.specs.declared.Receiver.{Receiver}
use Rattle.promises.specs.Sequence.{Call, packet, timer, immediate, threshold, write, confirm, Calls, none, ◌then◌, Reply, accepted, stale, refused, replied}

-- 1 where a test holds, 0 where it does not
abbrev pub one_if : Bool → ℕ
one_if true = 1
one_if false = 0

-- a call joins the others only where it was accepted
abbrev pub joined : Reply → Calls → Call → Calls
joined accepted cs c = cs then c
joined stale cs c = cs
joined (refused k) cs c = cs

-- the accepted calls among calls from a record, in their order
unfoldable pub accepted_of : Receiver → Calls → Calls
accepted_of r none = none
accepted_of r (cs then c) = joined (replied r cs c) (accepted_of r cs) c

-- "Packet (number, time, ack-eliciting or not, CE or not)"; the mark is one of four (02, No. 2)
pub record Packet : Type 0 where
  pub number : ℕ
  pub time : Micros
  pub eliciting : Bool
  pub mark : Mark

-- "Threshold frame": sequence, T, delay, R
pub record Frame : Type 0 where
  pub sequence : ℕ
  pub threshold : ℕ
  pub delay : Micros
  pub reordering : ℕ

abbrev pub packet_of : ℕ → Micros → Bool → Mark → Packet
packet_of n time eliciting mark = record { number = n; time = time; eliciting = eliciting; mark = mark }

abbrev pub frame_of : ℕ → ℕ → Micros → ℕ → Frame
frame_of s t d q = record { sequence = s; threshold = t; delay = d; reordering = q }

-- the packets
unfoldable pub packets : Calls → List Packet
packets none = []
packets (cs then packet n time eliciting mark) = packet_of n time eliciting mark ∷ packets cs
packets (cs then timer time) = packets cs
packets (cs then immediate) = packets cs
packets (cs then threshold s t d q) = packets cs
packets (cs then write time kind room) = packets cs
packets (cs then confirm k) = packets cs

-- the packets "since the last written ACK", all of them where none was written
unfoldable pub since : Calls → List Packet
since none = []
since (cs then packet n time eliciting mark) = packet_of n time eliciting mark ∷ since cs
since (cs then timer time) = since cs
since (cs then immediate) = since cs
since (cs then threshold s t d q) = since cs
since (cs then write time kind room) = []
since (cs then confirm k) = since cs

-- the packets before the last written ACK, none where none was written
unfoldable pub before : Calls → List Packet
before none = []
before (cs then packet n time eliciting mark) = before cs
before (cs then timer time) = before cs
before (cs then immediate) = before cs
before (cs then threshold s t d q) = before cs
before (cs then write time kind room) = packets cs
before (cs then confirm k) = before cs

-- the threshold frames
unfoldable pub frames : Calls → List Frame
frames none = []
frames (cs then packet n time eliciting mark) = frames cs
frames (cs then timer time) = frames cs
frames (cs then immediate) = frames cs
frames (cs then threshold s t d q) = frame_of s t d q ∷ frames cs
frames (cs then write time kind room) = frames cs
frames (cs then confirm k) = frames cs
