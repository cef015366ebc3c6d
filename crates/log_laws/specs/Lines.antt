-- The lines of calls in their order, the first first; and what they say is in force, read from their words alone.
use Rattle.std.specs.Prelude.{ℕ, ◌+◌, List, [], ◌∷◌}
use Rattle.seen.specs.declared.Micros.{Micros}
use Rattle.receiver.specs.declared.Receiver.{Receiver}
use Rattle.receiver.specs.declared.Agreed.{Agreed}
use Rattle.receiver.specs.declared.Verdict.{Verdict}
use Rattle.receiver.specs.declared.Verdict.TheVariants.{Accepted, Stale, Refused}
use Rattle.receiver.specs.Record.{micros_of}
use Rattle.receiver.specs.Calls.{usual}
use Rattle.call_log.specs.declared.Call.{Call}
use Rattle.call_log.specs.declared.Call.TheVariants.{Open, Packet, Timer, Threshold, Immediate, Confirm, Write}
use Rattle.call_log.specs.declared.Now.{Now}
use Rattle.call_log.specs.Calls.{step, frame_of}
use Rattle.call_log.specs.Line.{now_of, line_text}

-- ---- calls and their lines

-- a call with the host's time
pub record Entry : Type 0 where
  pub time : Micros
  pub call : Call

-- what a line says
pub record Line : Type 0 where
  pub time : Micros
  pub call : Call
  pub answer : Verdict
  pub frame : List ℕ
  pub now : Now

-- the record after a call, and after calls
abbrev pub next : Receiver → Entry → Receiver
next r e = (step r e.time e.call).next

unfoldable pub after : Receiver → List Entry → Receiver
after r [] = r
after r (e ∷ es) = after (next r e) es

-- the line of a call on a record, and the lines of calls
abbrev pub line_on : Receiver → Entry → Line
line_on r e =
    record {
      time = e.time;
      call = e.call;
      answer = (step r e.time e.call).verdict;
      frame = frame_of r e.time e.call;
      now = now_of (next r e);
    }

unfoldable pub lines_of : Receiver → List Entry → List Line
lines_of r [] = []
lines_of r (e ∷ es) = line_on r e ∷ lines_of (next r e) es

-- their text
unfoldable pub text_of : List Line → List ℕ
text_of [] = []
text_of (l ∷ ls) = line_text l.time l.call l.answer l.frame l.now (text_of ls)

-- ---- what the words of lines say is in force

-- T, R, delay and sequence of a NOW
abbrev pub agreed_in : Now → Agreed
agreed_in now = record { threshold = now.threshold; reordering = now.reordering; delay = now.delay; sequence = now.sequence }

-- an opening's values where the line says accepted, the usual ones where it does not
abbrev pub opened_by : Verdict → Agreed → Agreed
opened_by Accepted own = own
opened_by Stale own = usual.agreed
opened_by (Refused refusal) own = usual.agreed

-- a frame's values where the line says accepted, those before where it does not
abbrev pub framed_by : Verdict → Agreed → Agreed → Agreed
framed_by Accepted before own = own
framed_by Stale before own = before
framed_by (Refused refusal) before own = before

-- after a line with these words, where these values were in force before it
unfoldable pub said_by : Agreed → Call → Verdict → Agreed
said_by before (Open threshold reordering maximum minimum) answer =
    opened_by answer (record { threshold = threshold; reordering = reordering; delay = micros_of maximum; sequence = 0 })
said_by before (Packet packet eliciting mark) answer = before
said_by before Timer answer = before
said_by before (Threshold sequence threshold delay reordering) answer =
    framed_by answer before (record { threshold = threshold; reordering = reordering; delay = delay; sequence = sequence + 1 })
said_by before Immediate answer = before
said_by before (Confirm largest) answer = before
said_by before (Write kind room) answer = before

unfoldable pub said : Agreed → List Line → Agreed
said before [] = before
said before (l ∷ ls) = said (said_by before l.call l.answer) ls
