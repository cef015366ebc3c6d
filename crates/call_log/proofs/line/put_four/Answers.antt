-- `call_log::put_four` meets its contract.
-- Assumes nothing.
use native.Mathlib.Omega.{arith}
use Rattle.decimal.specs.Decimal.{decimal}
use Rattle.call_log.proofs.Laws.{laid_then, laid_on}
use Rattle.call_log.proofs.line.put_four.Goals as goal

pub returns : goal.returns
returns c =
    (laid_then c.put_field-a.ensures.0 (laid_then c.put_field-b.ensures.0 (laid_then c.put_field-c.ensures.0 (laid_on c.args.fourth.now (decimal c.args.l) c.put_field.ensures.0))), omega (arith, c.put_field-a.ensures.1, c.put_field-b.ensures.1, c.put_field-c.ensures.1, c.put_field.ensures.1))
