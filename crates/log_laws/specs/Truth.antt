-- The log cannot lie. For the clerk, in plain words:
--   SaysNow: every line ends with the values that are in force in the record after its call, whatever calls came before.
--   Ignored: where a line says stale, what it says is in force is what the line before it says. So it is where a line says refused, but for an opening.
--   Agrees: the T, R, delay and sequence that any line says are in force are those of the last opening or threshold frame that the lines say was accepted
--   (of an opening that they say was refused, the usual ones). No other word of the log matters to them, and no frame that was stale or refused.
--   Determines: calls on one record with the same lines are the same calls, and lead to the same record.
use Rattle.std.specs.Prelude.{ℕ, ◌≡◌, List, [], ◌∷◌, ◌++◌}
use Rattle.receiver.specs.declared.Receiver.{Receiver}
use Rattle.receiver.specs.declared.Verdict.TheVariants.{Accepted, Stale, Refused}
use Rattle.call_log.specs.declared.Call.{Call}
use Rattle.call_log.specs.declared.Call.TheVariants.{Open, Packet, Timer, Threshold, Immediate, Confirm, Write}
use Rattle.call_log.specs.Line.{now_of, line_of}
use Rattle.log_laws.specs.Lines.{Entry, Line, next, after, line_on, lines_of, text_of, agreed_in, said}

-- the call opens no receiver
abbrev pub KeepsOpen : Call → Type 0
KeepsOpen (Open threshold reordering maximum minimum) = ⊥
KeepsOpen (Packet packet eliciting mark) = Unit
KeepsOpen Timer = Unit
KeepsOpen (Threshold sequence threshold delay reordering) = Unit
KeepsOpen Immediate = Unit
KeepsOpen (Confirm largest) = Unit
KeepsOpen (Write kind room) = Unit

-- the lines of calls and one more are those of the calls and its own, whose text is the call's on the record then
pub record SaysNow : Type 0 where
  pub last : (r : Receiver) (es : List Entry) (e : Entry) → lines_of r (es ++ (e ∷ [])) ≡ lines_of r es ++ (line_on (after r es) e ∷ [])
  pub now : (r : Receiver) (es : List Entry) (e : Entry) → (line_on (after r es) e).now ≡ now_of (after r (es ++ (e ∷ [])))
  pub text : (r : Receiver) (e : Entry) → text_of (line_on r e ∷ []) ≡ line_of r e.time e.call []

-- of two lines that follow each other, d's and e's
pub record Ignored : Type 0 where
  pub stale : (r : Receiver) (d e : Entry) → (line_on (next r d) e).answer ≡ Stale → (line_on (next r d) e).now ≡ (line_on r d).now
  pub refused : (r : Receiver) (d e : Entry) (k : ℕ) → KeepsOpen e.call → (line_on (next r d) e).answer ≡ Refused k → (line_on (next r d) e).now ≡ (line_on r d).now

-- after any calls on any record: in force is what the words of the lines say
abbrev pub Agrees : Type 0
Agrees = (r : Receiver) (es : List Entry) → agreed_in (now_of (after r es)) ≡ said r.agreed (lines_of r es)

abbrev pub Determines : Type 0
Determines = (r : Receiver) (es fs : List Entry) → lines_of r es ≡ lines_of r fs → (es ≡ fs) × (after r es ≡ after r fs)
