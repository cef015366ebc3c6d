-- `call_log::put_mark` meets its contract.
-- Assumes nothing.
use native.Mathlib.Omega.{arith}
use Rattle.call_log.specs.Line.{mark_text}
use Rattle.call_log.proofs.line.put_mark.Goals as goal

pub returns-in-None : goal.returns-in-None
unfolding mark_text
returns-in-None c =
    rw c.in-None.is (c.put_text.ensures.0, omega (arith, c.put_text.ensures.1))

pub returns-in-Ect0 : goal.returns-in-Ect0
unfolding mark_text
returns-in-Ect0 c =
    rw c.in-Ect0.is (c.put_text-in-Ect0.ensures.0, omega (arith, c.put_text-in-Ect0.ensures.1))

pub returns-in-Ect1 : goal.returns-in-Ect1
unfolding mark_text
returns-in-Ect1 c =
    rw c.in-Ect1.is (c.put_text-in-Ect1.ensures.0, omega (arith, c.put_text-in-Ect1.ensures.1))

pub returns-in-Ce : goal.returns-in-Ce
unfolding mark_text
returns-in-Ce c =
    rw c.in-Ce.is (c.put_text-in-Ce.ensures.0, omega (arith, c.put_text-in-Ce.ensures.1))
