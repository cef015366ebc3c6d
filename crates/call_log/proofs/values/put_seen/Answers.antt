-- `call_log::put_seen` meets its contract.
-- Assumes nothing.
use native.Mathlib.Omega.{arith}
use Rattle.texts.specs.Forms.{bytes, or_null}
use Rattle.call_log.proofs.Laws.{laid_then, laid_on}
use Rattle.call_log.specs.Line.{seen_text}
use Rattle.call_log.proofs.values.put_seen.Goals as goal

pub returns : goal.returns
unfolding seen_text
returns c =
    (laid_then c.put_end-a.ensures.0 (laid_then c.put_field-b.ensures.0 (laid_on (bytes ",\"acknowledged\":") (or_null c.args.values.acknowledged) c.put_end.ensures.0)), omega (arith, c.put_end-a.ensures.1, c.put_field-b.ensures.1, c.put_end.ensures.1))
