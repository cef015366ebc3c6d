-- `ack::counts_obey` meets its contract: one law for each count.
-- Assumes nothing.
use Rattle.seen.proofs.Tests.{failed, held}
use Rattle.ack.proofs.Counts.{none-obeys, first-breaks, second-breaks, third-decides}
use Rattle.ack.proofs.counts_obey.Goals as goal

pub returns-then-not-is_small : goal.returns-then-not-is_small
returns-then-not-is_small c =
    first-breaks c.in-Some.is (failed c.is_small.ensures c.if-not-is_small.true)

pub returns-then-not-is_small-2 : goal.returns-then-not-is_small-2
returns-then-not-is_small-2 c =
    second-breaks c.in-Some.is (held c.is_small.ensures c.if-not-is_small.false) (failed c.is_small-in-Some.ensures c.if-not-is_small-2.true)

pub returns-in-None : goal.returns-in-None
returns-in-None c = none-obeys c.in-None.is

pub returns-else-not-is_small-2 : goal.returns-else-not-is_small-2
returns-else-not-is_small-2 c =
    third-decides c.in-Some.is (held c.is_small.ensures c.if-not-is_small.false) (held c.is_small-in-Some.ensures c.if-not-is_small-2.false) c.is_small-in-Some-2.ensures
