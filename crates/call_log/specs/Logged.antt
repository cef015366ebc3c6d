-- A logged call: its line is written with it, or nothing happens.
use Rattle.std.specs.Prelude.{ℕ, zero, suc, Bool, false, ◌&&◌, List, [], eqb, leb, length}
use Rattle.wire.specs.Bytes.{pick, splice}
use Rattle.seen.specs.declared.Micros.{Micros}
use Rattle.receiver.specs.declared.Receiver.{Receiver}
use Rattle.receiver.specs.declared.Heard.{Heard}
use Rattle.receiver.specs.declared.Verdict.{Verdict}
use Rattle.receiver.specs.declared.Verdict.TheVariants.{Accepted, Stale, Refused}
use Rattle.call_log.specs.declared.Call.{Call}
use Rattle.call_log.specs.declared.Noted.{Noted}
use Rattle.call_log.specs.Calls.{step, frame_of}
use Rattle.call_log.specs.Line.{line_of}

-- what a call comes to before its line is written
abbrev pub made : Heard → ℕ → Noted
made h frame = record { verdict = h.verdict; next = h.next; frame = frame; line = 0 }

-- the length of a text that fits the room, 0 for one that does not; and the buffer after it
abbrev pub fitted : ℕ → List ℕ → ℕ
fitted room text = pick (leb (length text) room) (length text) 0

abbrev pub laid_if : List ℕ → List ℕ → List ℕ
laid_if xs text = pick (leb (length text) (length xs)) (splice xs 0 text) xs

-- whether a call was answered 1: what is not the record of a receiver has no log
abbrev pub is_one : Verdict → Bool
is_one Accepted = false
is_one Stale = false
is_one (Refused refusal) = eqb refusal 1

-- whether the lent buffers, of these lengths, have room for the call's frame and for its line
unfoldable pub has_room : Receiver → Micros → Call → ℕ → ℕ → Bool
has_room r time call frame line = leb (length (frame_of r time call)) frame && leb (length (line_of r time call [])) line

-- why a call has no line: 1, then 9; else 0
unfoldable pub without_line : Receiver → Micros → Call → ℕ → ℕ → ℕ
without_line r time call frame line = pick (is_one (step r time call).verdict) 1 (pick (has_room r time call frame line) 0 9)

-- the answer: what the call gives with the lengths of frame and line, or the refusal, the record as it came and no line
abbrev pub answered_with : ℕ → Receiver → Heard → ℕ → ℕ → Noted
answered_with zero r h frame line = record { verdict = h.verdict; next = h.next; frame = frame; line = line }
answered_with (suc refusal) r h frame line = record { verdict = Refused (suc refusal); next = r; frame = 0; line = 0 }

unfoldable pub logged_answer : Receiver → Micros → Call → ℕ → ℕ → Noted
logged_answer r time call frame line =
    answered_with (without_line r time call frame line) r (step r time call) (length (frame_of r time call)) (length (line_of r time call []))

-- a lent buffer after it: the text at its start, or as it was
abbrev pub laid_unless : ℕ → List ℕ → List ℕ → List ℕ
laid_unless zero xs text = splice xs 0 text
laid_unless (suc refusal) xs text = xs

unfoldable pub frame_after : Receiver → Micros → Call → List ℕ → List ℕ → List ℕ
frame_after r time call frame line = laid_unless (without_line r time call (length frame) (length line)) frame (frame_of r time call)

unfoldable pub line_after : Receiver → Micros → Call → List ℕ → List ℕ → List ℕ
line_after r time call frame line = laid_unless (without_line r time call (length frame) (length line)) line (line_of r time call [])
