-- `call_log::put_answer` meets its contract.
-- Assumes nothing.
use native.Mathlib.Omega.{arith}
use Rattle.call_log.proofs.Laws.{laid_then}
use Rattle.call_log.specs.Line.{answer_text, answer_form, answer_values}
use Rattle.call_log.proofs.line.put_answer.Goals as goal

pub returns-in-Accepted : goal.returns-in-Accepted
unfolding answer_text answer_form answer_values
returns-in-Accepted c =
    rw c.in-Accepted.is (c.put_text.ensures.0, omega (arith, c.put_text.ensures.1))

pub returns-in-Stale : goal.returns-in-Stale
unfolding answer_text answer_form answer_values
returns-in-Stale c =
    rw c.in-Stale.is (c.put_text-in-Stale.ensures.0, omega (arith, c.put_text-in-Stale.ensures.1))

pub returns-in-Refused : goal.returns-in-Refused
unfolding answer_text answer_form answer_values
returns-in-Refused c =
    rw c.in-Refused.is (laid_then c.put_field-next.ensures.0 c.put_text-in-Refused.ensures.0, omega (arith, c.put_field-next.ensures.1, c.put_text-in-Refused.ensures.1))
