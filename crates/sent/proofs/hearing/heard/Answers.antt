-- `sent::hearing::heard` meets its contract: a refusal for each test in its order, then the ranges.
-- Assumes nothing.
use mathlib.Core.Path.{sym, subst, ◌∙◌}
use Rattle.frames.proofs.Check.{whole}
use Rattle.sent.specs.Heard.{Hearing, IsHeard}
use Rattle.sent.proofs.Sends.{consistent-small}
use Rattle.sent.proofs.Hears.{heard-refused, one, checked, never-sent, was-sent}
use Rattle.sent.proofs.hearing.heard.Goals as goal

pub returns-then-not-consistent : goal.returns-then-not-consistent
returns-then-not-consistent c = heard-refused 1 _ _ _ c.from.ensures (one _ _ _ _ c.consistent.ensures c.if-not-consistent.true)

pub returns-then-losses-checked : goal.returns-then-losses-checked
returns-then-losses-checked c =
    let q = c.consistent.ensures in
    heard-refused 16 _ _ _ c.from-then-losses-checked.ensures (never-sent _ _ _ _ q c.if-not-consistent.false c.check_ack.ensures c.in-Ok.is c.if-losses-checked.true)

pub hear_ranges-requires : goal.hear_ranges-requires
hear_ranges-requires c =
    let small = consistent-small _ (sym c.consistent.ensures ∙ c.if-not-consistent.false) in
    (c.if-losses-checked.false, small.sent, small.most, whole _ c.check_ack.ensures c.in-Ok.is)

pub returns-in-Err : goal.returns-in-Err
returns-in-Err c =
    let q = c.consistent.ensures in
    heard-refused _ _ _ _ c.from-in-Err.ensures (checked _ _ _ _ q c.if-not-consistent.false c.check_ack.ensures _ c.in-Err.is)

pub returns-else-losses-checked : goal.returns-else-losses-checked
returns-else-losses-checked c =
    let s = c.args in
    let d = was-sent _ _ _ _ c.consistent.ensures c.if-not-consistent.false c.check_ack.ensures c.in-Ok.is c.if-losses-checked.false in
    subst (λ (x : Hearing). IsHeard x s.acked.now s.lost.now c.hear_ranges.result c.hear_ranges.new.losses c.hear_ranges.new.acked c.hear_ranges.new.lost) d c.hear_ranges.ensures
