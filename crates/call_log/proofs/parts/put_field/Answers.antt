-- `call_log::put_field` meets its contract.
-- Assumes nothing.
use native.Mathlib.Omega.{arith}
use Rattle.call_log.proofs.Laws.{laid_then}
use Rattle.call_log.proofs.parts.put_field.Goals as goal

pub returns : goal.returns
returns c =
    (laid_then c.put_text-next.ensures.0 c.put_number.ensures.0, omega (arith, c.put_text-next.ensures.1, c.put_number.ensures.1))
