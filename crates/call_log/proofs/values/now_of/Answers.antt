-- `call_log::now_of` meets its contract.
-- Assumes nothing.
use Rattle.call_log.specs.Line.{now_of}
use Rattle.call_log.proofs.values.now_of.Goals as goal

pub returns : goal.returns
unfolding now_of
returns c = rw c.floor.ensures
