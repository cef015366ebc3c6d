-- `receiver::Receiver::open` meets its contract: its tests are the refusals, in their order.
-- Assumes nothing.
use Rattle.receiver.specs.Calls.{open_call, open_refusal}
use Rattle.receiver.proofs.Clauses.{allowed-below}
use Rattle.seen.proofs.Tests.{failed, held}
use Rattle.receiver.proofs.Receiver.open.Goals as goal

pub returns-then-not-all_small : goal.returns-then-not-all_small
unfolding open_call open_refusal
returns-then-not-all_small c = rw (failed c.all_small.ensures c.if-not-all_small.true) c.refused_opening.ensures

pub returns-then-not-allowed : goal.returns-then-not-allowed
unfolding open_call open_refusal
returns-then-not-allowed c = rw (held c.all_small.ensures c.if-not-all_small.false, failed c.allowed.ensures c.if-not-allowed.true) c.refused_opening-then-not-allowed.ensures

pub opened-next-requires : goal.opened-next-requires
opened-next-requires c = allowed-below _ (held c.allowed.ensures c.if-not-allowed.false)

pub returns : goal.returns
unfolding open_call open_refusal
returns c = rw (held c.all_small.ensures c.if-not-all_small.false, held c.allowed.ensures c.if-not-allowed.false, c.opened-next.ensures)
