-- The seven calls of a log, and what each comes to: its answer, the next record and, of a write, the frame.
use Rattle.std.specs.Prelude.{ℕ, zero, suc, min, List, []}
use Rattle.wire.specs.Bytes.{pick}
use Rattle.seen.specs.declared.Micros.{Micros}
use Rattle.seen.specs.Numbers.{small}
use Rattle.receiver.specs.declared.Receiver.{Receiver}
use Rattle.receiver.specs.declared.Answer.{Answer}
use Rattle.receiver.specs.declared.Heard.{Heard}
use Rattle.receiver.specs.declared.Verdict.{Verdict}
use Rattle.receiver.specs.declared.Verdict.TheVariants.{Accepted, Refused}
use Rattle.receiver.specs.Record.{consistent}
use Rattle.receiver.specs.Packet.{packet_call}
use Rattle.receiver.specs.Calls.{usual, open_call, timer_call, immediate_call, threshold_call}
use Rattle.receiver.specs.Confirm.{confirm_call}
use Rattle.receiver.specs.Write.{write_refusal, emitted, answered}
use Rattle.call_log.specs.declared.Call.{Call}
use Rattle.call_log.specs.declared.Call.TheVariants.{Open, Packet, Timer, Threshold, Immediate, Confirm, Write}

-- ---- answers

abbrev pub verdict_of : ℕ → Verdict
verdict_of zero = Accepted
verdict_of (suc k) = Refused (suc k)

abbrev pub heard_of : Answer → Heard
heard_of a = record { verdict = verdict_of a.result; next = a.next }

-- a call that takes no time notes the host's clock: a time above 2^62 - 1 gives 5 like any other, after 1
unfoldable pub noting : Receiver → Micros → Heard → Heard
noting r time h = pick (small time.0) h (record { verdict = pick (consistent r) (Refused 5) (Refused 1); next = r })

-- an opening takes no record, and a refused one gives the usual record
unfoldable pub noting_opening : Micros → Heard → Heard
noting_opening time h = pick (small time.0) h (record { verdict = Refused 5; next = usual })

-- ---- a write

-- the longest frame there is has 1,066 bytes: a larger room acts as that
abbrev pub longest_frame : ℕ
longest_frame = 1066

abbrev pub acting : ℕ → ℕ
acting room = min room longest_frame

abbrev pub wrote_of : ℕ → Receiver → Heard
wrote_of refusal r = record { verdict = verdict_of (answered refusal r []).result; next = (answered refusal r []).next }

-- the bytes of a frame that was not refused
abbrev pub unless_refused : ℕ → List ℕ → List ℕ
unless_refused zero frame = frame
unless_refused (suc refusal) frame = []

-- ---- a call on a record at a time

unfoldable pub step : Receiver → Micros → Call → Heard
step r time (Open threshold reordering maximum minimum) = noting_opening time (heard_of (open_call threshold reordering maximum minimum))
step r time (Packet number eliciting mark) = heard_of (packet_call r number time eliciting mark)
step r time Timer = heard_of (timer_call r time)
step r time (Threshold sequence threshold delay reordering) = noting r time (threshold_call r sequence threshold delay reordering)
step r time Immediate = noting r time (heard_of (immediate_call r))
step r time (Confirm largest) = noting r time (heard_of (confirm_call r largest))
step r time (Write kind room) = wrote_of (write_refusal r time kind (acting room)) r

-- the frame that it writes; only a write does
unfoldable pub frame_of : Receiver → Micros → Call → List ℕ
frame_of r time (Open threshold reordering maximum minimum) = []
frame_of r time (Packet number eliciting mark) = []
frame_of r time Timer = []
frame_of r time (Threshold sequence threshold delay reordering) = []
frame_of r time Immediate = []
frame_of r time (Confirm largest) = []
frame_of r time (Write kind room) = unless_refused (write_refusal r time kind (acting room)) (emitted r time kind (acting room))
