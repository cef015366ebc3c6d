-- `receiver::Receiver::confirm` meets its contract: its tests are the refusals, in their order.
-- Assumes nothing.
use mathlib.Core.Path.{◌≡◌, ◌∙◌}
use native.Mathlib.Omega.{arith}
use borrow.Author.Tests.{eq-eqb, ne_eqb, lt-leb}
use Rattle.seen.specs.Received.{confirmed_after}
use Rattle.receiver.specs.Confirm.{confirm_call, confirm_refusal}
use Rattle.seen.proofs.Tests.{failed, held}
use Rattle.receiver.proofs.Receiver.confirm.Goals as goal

pub returns-then-not-consistent : goal.returns-then-not-consistent
unfolding confirm_call confirm_refusal
returns-then-not-consistent c = c.refused.ensures ∙ rw (failed c.consistent.ensures c.if-not-consistent.true)

pub returns-then-not-is_small : goal.returns-then-not-is_small
unfolding confirm_call confirm_refusal
returns-then-not-is_small c = c.refused-then-not-is_small.ensures ∙ rw (held c.consistent.ensures c.if-not-consistent.false, failed c.is_small.ensures c.if-not-is_small.true)

pub returns-then-before-eq0 : goal.returns-then-before-eq0
unfolding confirm_call confirm_refusal
returns-then-before-eq0 c = c.refused-then-before-eq0.ensures ∙ rw (held c.consistent.ensures c.if-not-consistent.false, held c.is_small.ensures c.if-not-is_small.false, eq-eqb _ _ c.if-before-eq0.true)

pub returns : goal.returns
unfolding confirm_call confirm_refusal
returns c =
    let small = held c.is_small.ensures c.if-not-is_small.false in
    let seen : c.confirm-seen.result ≡ confirmed_after c.args.self.seen c.args.k = c.confirm-seen.ensures ∙ rw small in
    rw (held c.consistent.ensures c.if-not-consistent.false, small, ne_eqb _ _ c.if-before-eq0.false, lt-leb c.args.self.acknowledged c.args.k (omega arith), seen)
