-- `sent::record::word_agrees` meets its contract: each test tells of every bit.
-- Assumes nothing.
use mathlib.Core.Path.{sym, ◌∙◌}
use borrow.Author.Tests.{eqb-true, eqb-false}
use Rattle.sent.proofs.Agree.{both-wrong, due-wrong, outside-judged}
use Rattle.sent.proofs.record.word_agrees.Goals as goal
use Rattle.sent.proofs.record.word_agrees.Goals.{then-acked-lost-eq0, else-acked-lost-eq0}

pub returns-then-due-either-eq0 : goal.returns-then-due-either-eq0
returns-then-due-either-eq0 c =
    let r = c.ranges in
    elim c.if-acked-lost-eq0.branch [
      | then-acked-lost-eq0 w ↦ outside-judged _ _ _ _ r.acked.fits r.lost.fits r.due.fits r.outside.fits w.if-acked-lost-eq0.true (eqb-true _ 0 (sym w.value-is ∙ c.if-due-either-eq0.true))
      | else-acked-lost-eq0 w ↦ absurd (w.if-acked-lost-eq0.false (eqb-true _ 0 (sym w.value-is ∙ c.if-due-either-eq0.true)))
    ]

pub returns-else-due-either-eq0 : goal.returns-else-due-either-eq0
returns-else-due-either-eq0 c =
    let r = c.ranges in
    c.if-due-either-eq0.false ∙ elim c.if-acked-lost-eq0.branch [
      | then-acked-lost-eq0 w ↦ due-wrong _ _ _ _ r.acked.fits r.lost.fits r.due.fits r.outside.fits (eqb-false _ 0 (sym w.value-is ∙ c.if-due-either-eq0.false))
      | else-acked-lost-eq0 w ↦ both-wrong _ _ _ _ r.acked.fits r.lost.fits r.due.fits r.outside.fits w.if-acked-lost-eq0.false
    ]
