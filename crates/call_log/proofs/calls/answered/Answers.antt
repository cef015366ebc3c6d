-- `call_log::answered` meets its contract.
-- Assumes nothing.
use Rattle.call_log.proofs.calls.answered.Goals as goal

pub returns : goal.returns
returns c = rw c.verdict_of.ensures
