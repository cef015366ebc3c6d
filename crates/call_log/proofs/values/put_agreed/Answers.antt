-- `call_log::put_agreed` meets its contract.
-- Assumes nothing.
use native.Mathlib.Omega.{arith}
use Rattle.texts.specs.Forms.{bytes, or_null}
use Rattle.call_log.proofs.Laws.{laid_then, laid_on}
use Rattle.call_log.specs.Line.{agreed_text}
use Rattle.call_log.proofs.values.put_agreed.Goals as goal

pub returns : goal.returns
unfolding agreed_text
returns c =
    (laid_then c.put_field-a.ensures.0 (laid_then c.put_field-b.ensures.0 (laid_then c.put_field-c.ensures.0 (laid_on (bytes ",\"sequence\":") (or_null c.args.values.sequence) c.put_end.ensures.0))), omega (arith, c.put_field-a.ensures.1, c.put_field-b.ensures.1, c.put_field-c.ensures.1, c.put_end.ensures.1))
