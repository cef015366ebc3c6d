-- `call_log::put_line` meets its contract.
-- Assumes nothing.
use native.Mathlib.Omega.{arith}
use Rattle.texts.specs.Forms.{bytes}
use Rattle.decimal.specs.Decimal.{decimal}
use Rattle.call_log.specs.Line.{time_text}
use Rattle.call_log.proofs.Laws.{laid_then, laid_on}
use Rattle.call_log.proofs.Behind.{line-laid}
use Rattle.call_log.proofs.line.put_line.Goals as goal

pub returns : goal.returns
unfolding time_text
returns c =
    let a = c.args in
    (line-laid a.time a.call a.verdict a.frame.now a.values (laid_then (laid_on (bytes "{\"time\":") (decimal a.time.0) c.put_field-a.ensures.0) (laid_then c.put_call-b.ensures.0 (laid_then c.put_answer-c.ensures.0 (laid_then c.put_frame-d.ensures.0 (laid_then c.put_agreed-e.ensures.0 (laid_then c.put_seen-f.ensures.0 c.put_due.ensures.0)))))), omega (arith, c.put_field-a.ensures.1, c.put_call-b.ensures.1, c.put_answer-c.ensures.1, c.put_frame-d.ensures.1, c.put_agreed-e.ensures.1, c.put_seen-f.ensures.1, c.put_due.ensures.1))
