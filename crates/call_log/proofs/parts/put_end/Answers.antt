-- `call_log::put_end` meets its contract.
-- Assumes nothing.
use native.Mathlib.Omega.{arith}
use Rattle.call_log.proofs.Laws.{laid_then, or-null}
use Rattle.call_log.proofs.parts.put_end.Goals as goal

pub returns-then-end-eq0 : goal.returns-then-end-eq0
returns-then-end-eq0 c =
    rw c.if-end-eq0.true (laid_then c.put_text-next.ensures.0 c.put_text.ensures.0, omega (arith, c.put_text-next.ensures.1, c.put_text.ensures.1))

pub returns : goal.returns
returns c =
    rw (or-null _ c.if-end-eq0.false) (laid_then c.put_text-next.ensures.0 c.put_number.ensures.0, omega (arith, c.put_text-next.ensures.1, c.put_number.ensures.1))
