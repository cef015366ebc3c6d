-- `receiver::Receiver::immediate` meets its contract: its tests are the refusals, in their order.
-- Assumes nothing.
use mathlib.Core.Path.{◌∙◌}
use borrow.Author.Tests.{eq-eqb, ne_eqb}
use Rattle.receiver.specs.Calls.{immediate_call, immediate_refusal}
use Rattle.seen.proofs.Tests.{failed, held}
use Rattle.receiver.proofs.Receiver.immediate.Goals as goal

pub returns-then-not-consistent : goal.returns-then-not-consistent
unfolding immediate_call immediate_refusal
returns-then-not-consistent c = c.refused.ensures ∙ rw (failed c.consistent.ensures c.if-not-consistent.true)

pub returns-then-self-eq0 : goal.returns-then-self-eq0
unfolding immediate_call immediate_refusal
returns-then-self-eq0 c = c.refused-then-self-eq0.ensures ∙ rw (held c.consistent.ensures c.if-not-consistent.false, eq-eqb _ _ c.if-self-eq0.true)

pub returns : goal.returns
unfolding immediate_call immediate_refusal
returns c = rw (held c.consistent.ensures c.if-not-consistent.false, ne_eqb _ _ c.if-self-eq0.false, c.standing.ensures)
