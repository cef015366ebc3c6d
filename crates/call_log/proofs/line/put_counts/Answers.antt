-- `call_log::put_counts` meets its contract.
-- Assumes nothing.
use native.Mathlib.Omega.{arith}
use Rattle.call_log.specs.Line.{counts_text}
use Rattle.call_log.proofs.line.put_counts.Goals as goal

pub returns-in-Plain : goal.returns-in-Plain
unfolding counts_text
returns-in-Plain c =
    rw c.in-Plain.is (c.put_text.ensures.0, omega (arith, c.put_text.ensures.1))

pub returns-in-Counts : goal.returns-in-Counts
unfolding counts_text
returns-in-Counts c =
    rw c.in-Counts.is (c.put_text-in-Counts.ensures.0, omega (arith, c.put_text-in-Counts.ensures.1))
