-- The line of a call, part by part as it is written: time, call with its arguments, answer, a write's frame, and what is in force now.
-- In a form `#` stands for a value. Each part stands before what follows, tl.
use Rattle.std.specs.Prelude.{ℕ, Bool, true, false, List, [], ◌∷◌}
use Prim.Native.String.{String}
use Rattle.texts.specs.Forms.{bytes, number, or_null, yes_or_no, filled}
use Rattle.texts.specs.Hex.{hex_text}
use Rattle.seen.specs.declared.Micros.{Micros}
use Rattle.seen.specs.Received.{floor}
use Rattle.ecn.specs.declared.Mark.{Mark}
use Rattle.ecn.specs.declared.Mark.TheVariants.{None, Ect0, Ect1, Ce}
use Rattle.ecn.specs.declared.Kind.{Kind}
use Rattle.ecn.specs.declared.Kind.TheVariants.{Plain, Counts}
use Rattle.receiver.specs.declared.Receiver.{Receiver}
use Rattle.receiver.specs.declared.Verdict.{Verdict}
use Rattle.receiver.specs.declared.Verdict.TheVariants.{Accepted, Stale, Refused}
use Rattle.call_log.specs.declared.Call.{Call}
use Rattle.call_log.specs.declared.Call.TheVariants.{Open, Packet, Timer, Threshold, Immediate, Confirm, Write}
use Rattle.call_log.specs.declared.Now.{Now}
use Rattle.call_log.specs.Calls.{step, frame_of}

-- ---- values

unfoldable pub mark_text : Mark → List ℕ
mark_text None = bytes "none"
mark_text Ect0 = bytes "ect0"
mark_text Ect1 = bytes "ect1"
mark_text Ce = bytes "ce"

unfoldable pub counts_text : Kind → List ℕ
counts_text Plain = bytes "false"
counts_text Counts = bytes "true"

-- ---- the time

unfoldable pub time_text : Micros → List ℕ → List ℕ
time_text time tl = filled "{\"time\":#" (number time.0 ∷ []) tl

-- ---- the call

unfoldable pub call_form : Call → String
call_form (Open threshold reordering maximum minimum) = ",\"call\":\"open\",\"threshold\":#,\"reordering\":#,\"maximum\":#,\"minimum\":#"
call_form (Packet packet eliciting mark) = ",\"call\":\"packet\",\"number\":#,\"eliciting\":#,\"mark\":\"#\""
call_form Timer = ",\"call\":\"timer\""
call_form (Threshold sequence threshold delay reordering) = ",\"call\":\"threshold\",\"sequence\":#,\"threshold\":#,\"delay\":#,\"reordering\":#"
call_form Immediate = ",\"call\":\"immediate\""
call_form (Confirm largest) = ",\"call\":\"confirm\",\"largest\":#"
call_form (Write kind room) = ",\"call\":\"write\",\"counts\":#,\"room\":#"

unfoldable pub call_values : Call → List (List ℕ)
call_values (Open threshold reordering maximum minimum) = number threshold ∷ number reordering ∷ number maximum.0 ∷ number minimum.0 ∷ []
call_values (Packet packet eliciting mark) = number packet ∷ yes_or_no eliciting ∷ mark_text mark ∷ []
call_values Timer = []
call_values (Threshold sequence threshold delay reordering) = number sequence ∷ number threshold ∷ number delay.0 ∷ number reordering ∷ []
call_values Immediate = []
call_values (Confirm largest) = number largest ∷ []
call_values (Write kind room) = counts_text kind ∷ number room ∷ []

unfoldable pub call_text : Call → List ℕ → List ℕ
call_text call tl = filled (call_form call) (call_values call) tl

-- ---- the answer

unfoldable pub answer_form : Verdict → String
answer_form Accepted = ",\"answer\":\"accepted\""
answer_form Stale = ",\"answer\":\"stale\""
answer_form (Refused refusal) = ",\"answer\":\"refused #\""

unfoldable pub answer_values : Verdict → List (List ℕ)
answer_values Accepted = []
answer_values Stale = []
answer_values (Refused refusal) = number refusal ∷ []

unfoldable pub answer_text : Verdict → List ℕ → List ℕ
answer_text verdict tl = filled (answer_form verdict) (answer_values verdict) tl

-- ---- the frame: of a write alone, and empty where it was refused

unfoldable pub is_write : Call → Bool
is_write (Open threshold reordering maximum minimum) = false
is_write (Packet packet eliciting mark) = false
is_write Timer = false
is_write (Threshold sequence threshold delay reordering) = false
is_write Immediate = false
is_write (Confirm largest) = false
is_write (Write kind room) = true

unfoldable pub frame_form : Bool → String
frame_form true = ",\"frame\":\"#\""
frame_form false = ""

unfoldable pub frame_text : Call → List ℕ → List ℕ → List ℕ
frame_text call frame tl = filled (frame_form (is_write call)) (hex_text frame ∷ []) tl

-- ---- what is in force now, and the line's end

unfoldable pub now_of : Receiver → Now
now_of r =
    record {
      threshold = r.agreed.threshold;
      reordering = r.agreed.reordering;
      delay = r.agreed.delay;
      sequence = r.agreed.sequence;
      largest = r.seen.end;
      floor = floor r.seen;
      acknowledged = r.acknowledged;
      pending = r.pending.count;
      cause = r.cause;
    }

-- the values that were agreed
unfoldable pub agreed_text : Now → List ℕ → List ℕ
agreed_text now tl =
    filled ",\"now\":{\"threshold\":#,\"reordering\":#,\"delay\":#,\"sequence\":#"
    (number now.threshold ∷ number now.reordering ∷ number now.delay.0 ∷ or_null now.sequence ∷ []) tl

-- what was received and acknowledged
unfoldable pub seen_text : Now → List ℕ → List ℕ
seen_text now tl =
    filled ",\"largest\":#,\"floor\":#,\"acknowledged\":#"
    (or_null now.largest ∷ number now.floor ∷ or_null now.acknowledged ∷ []) tl

-- what is due
unfoldable pub due_text : Now → List ℕ → List ℕ
due_text now tl = filled ",\"pending\":#,\"cause\":#}}\n" (number now.pending ∷ number now.cause ∷ []) tl

-- ---- the line

abbrev pub line_text : Micros → Call → Verdict → List ℕ → Now → List ℕ → List ℕ
line_text time call verdict frame now tl =
    time_text time (call_text call (answer_text verdict (frame_text call frame (agreed_text now (seen_text now (due_text now tl))))))

-- the line of a call on a record: the values now are those of the next record
unfoldable pub line_of : Receiver → Micros → Call → List ℕ → List ℕ
line_of r time call tl = line_text time call (step r time call).verdict (frame_of r time call) (now_of (step r time call).next) tl
