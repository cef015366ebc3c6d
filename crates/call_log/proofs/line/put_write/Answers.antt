-- `call_log::put_write` meets its contract.
-- Assumes nothing.
use native.Mathlib.Omega.{arith}
use Rattle.texts.specs.Forms.{bytes}
use Rattle.decimal.specs.Decimal.{decimal}
use Rattle.call_log.proofs.Laws.{laid_then, laid_on}
use Rattle.call_log.specs.Line.{call_text, call_form, call_values}
use Rattle.call_log.proofs.line.put_write.Goals as goal

pub returns : goal.returns
unfolding call_text call_form call_values
returns c =
    (laid_then c.put_text-a.ensures.0 (laid_then c.put_counts-b.ensures.0 (laid_on (bytes ",\"room\":") (decimal c.args.room) c.put_field.ensures.0)), omega (arith, c.put_text-a.ensures.1, c.put_counts-b.ensures.1, c.put_field.ensures.1))
