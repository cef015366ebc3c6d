-- `call_log::put_packet` meets its contract.
-- Assumes nothing.
use native.Mathlib.Omega.{arith}
use Rattle.call_log.proofs.Laws.{laid_then}
use Rattle.call_log.specs.Line.{call_text, call_form, call_values}
use Rattle.call_log.proofs.line.put_packet.Goals as goal

pub returns : goal.returns
unfolding call_text call_form call_values
returns c =
    (laid_then c.put_field-a.ensures.0 (laid_then c.put_text-b.ensures.0 (laid_then c.put_yes-c.ensures.0 (laid_then c.put_text-d.ensures.0 (laid_then c.put_mark-e.ensures.0 c.put_text.ensures.0)))), omega (arith, c.put_field-a.ensures.1, c.put_text-b.ensures.1, c.put_yes-c.ensures.1, c.put_text-d.ensures.1, c.put_mark-e.ensures.1, c.put_text.ensures.1))
