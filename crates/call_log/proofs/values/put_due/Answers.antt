-- `call_log::put_due` meets its contract.
-- Assumes nothing.
use native.Mathlib.Omega.{arith}
use Rattle.call_log.proofs.Laws.{laid_then}
use Rattle.call_log.specs.Line.{due_text}
use Rattle.call_log.proofs.values.put_due.Goals as goal

pub returns : goal.returns
unfolding due_text
returns c =
    (laid_then c.put_field-a.ensures.0 (laid_then c.put_field-b.ensures.0 c.put_text.ensures.0), omega (arith, c.put_field-a.ensures.1, c.put_field-b.ensures.1, c.put_text.ensures.1))
