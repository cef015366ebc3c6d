-- `sent::record::consistent` meets its contract: the numbers, then the marks.
-- Assumes nothing.
use mathlib.Core.Path.{◌∙◌}
use Rattle.sent.proofs.Sends.{numbers-wrong, marks-judged}
use Rattle.sent.proofs.record.consistent.Goals as goal

pub returns-then-numbers_agree : goal.returns-then-numbers_agree
returns-then-numbers_agree c = marks-judged _ c.numbers_agree.ensures c.if-numbers_agree.true c.marks_agree.ensures

pub returns-else-numbers_agree : goal.returns-else-numbers_agree
returns-else-numbers_agree c = c.if-numbers_agree.false ∙ numbers-wrong _ c.numbers_agree.ensures c.if-numbers_agree.false
