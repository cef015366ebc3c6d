-- `receiver::Receiver::threshold` meets its contract: its tests are the refusals, in their order, and then staleness.
-- Assumes nothing.
use mathlib.Core.Path.{◌≡◌, ◌∙◌}
use mathlib.Core.Bool.{true, ◌&&◌}
use native.Mathlib.Omega.{arith}
use borrow.Author.Tests.{lt-ltb, le-ltb, leb-true}
use Rattle.wire.specs.Numbers.{limit}
use Rattle.seen.specs.Numbers.{small}
use Rattle.receiver.specs.Record.{consistent}
use Rattle.receiver.specs.Calls.{threshold_call, threshold_verdict, agreed_after}
use Rattle.seen.proofs.Tests.{failed, held}
use Rattle.ack.proofs.Ranges.{both}
use Rattle.receiver.proofs.Receiver.threshold.Goals as goal
use Rattle.receiver.proofs.Receiver.threshold.Goals.{Else-not-all_small}

pub returns-then-not-consistent : goal.returns-then-not-consistent
unfolding threshold_call threshold_verdict
returns-then-not-consistent c = c.refused.ensures ∙ rw (failed c.consistent.ensures c.if-not-consistent.true)

pub returns-then-not-all_small : goal.returns-then-not-all_small
unfolding threshold_call threshold_verdict
returns-then-not-all_small c = c.refused-then-not-all_small.ensures ∙ rw (held c.consistent.ensures c.if-not-consistent.false, failed c.all_small.ensures c.if-not-all_small.true)

-- the record is consistent and the four numbers obey 5
obeys : (c : Else-not-all_small) → let a = c.args in
    (consistent a.self ≡ true) × ((small a.sequence && (small a.threshold && (small a.delay.0 && small a.reordering))) ≡ true)
obeys c = (held c.consistent.ensures c.if-not-consistent.false, held c.all_small.ensures c.if-not-all_small.false)

pub overflow_add-next : goal.overflow_add-next
overflow_add-next c =
    let a = c.args in
    omega (arith, leb-true a.sequence limit (both (small a.sequence) (small a.threshold && (small a.delay.0 && small a.reordering)) (obeys (goal.at.overflow_add-next c).Else-not-all_small).1).0)

pub returns-then-not-allow : goal.returns-then-not-allow
unfolding threshold_call threshold_verdict
returns-then-not-allow c =
    let k = obeys (goal.at.returns-then-not-allow c).Else-not-all_small in
    c.refused-then-not-allow.ensures ∙ rw (k.0, k.1, failed c.allow.ensures c.if-not-allow.true)

pub returns-then-sequence-self : goal.returns-then-sequence-self
unfolding threshold_call threshold_verdict
returns-then-sequence-self c =
    let k = obeys (goal.at.returns-then-sequence-self c).Else-not-all_small in
    rw (k.0, k.1, held c.allow.ensures c.if-not-allow.false, lt-ltb _ _ c.if-sequence-self.true) c.stale.ensures

pub returns : goal.returns
unfolding threshold_call threshold_verdict agreed_after
returns c =
    let k = obeys (goal.at.returns c).Else-not-all_small in
    rw (k.0, k.1, held c.allow.ensures c.if-not-allow.false, le-ltb _ _ c.if-sequence-self.false)
