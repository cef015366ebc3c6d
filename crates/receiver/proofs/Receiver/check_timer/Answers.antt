-- `receiver::Receiver::check_timer` meets its contract: its tests are the refusals.
-- Assumes nothing.
use mathlib.Core.Path.{sym, ◌∙◌}
use Rattle.receiver.specs.Calls.{timer_refusal}
use Rattle.seen.proofs.Tests.{failed, held}
use Rattle.receiver.proofs.Written.{rest-fails, rest-holds}
use Rattle.receiver.proofs.Receiver.check_timer.Goals as goal

pub returns-then-not-rest_consistent : goal.returns-then-not-rest_consistent
unfolding timer_refusal
returns-then-not-rest_consistent c = rw (rest-fails c.args.self (failed c.rest_consistent.ensures c.if-not-rest_consistent.true))

pub returns-then-not-consistent : goal.returns-then-not-consistent
unfolding timer_refusal
returns-then-not-consistent c =
    rw (sym (rest-holds c.args.self (held c.rest_consistent.ensures c.if-not-rest_consistent.false)) ∙ failed c.consistent.ensures c.if-not-consistent.true)

pub returns-then-not-is_small : goal.returns-then-not-is_small
unfolding timer_refusal
returns-then-not-is_small c =
    rw (sym (rest-holds c.args.self (held c.rest_consistent.ensures c.if-not-rest_consistent.false)) ∙ held c.consistent.ensures c.if-not-consistent.false, failed c.is_small.ensures c.if-not-is_small.true)

pub returns : goal.returns
unfolding timer_refusal
returns c =
    rw (sym (rest-holds c.args.self (held c.rest_consistent.ensures c.if-not-rest_consistent.false)) ∙ held c.consistent.ensures c.if-not-consistent.false, held c.is_small.ensures c.if-not-is_small.false)
