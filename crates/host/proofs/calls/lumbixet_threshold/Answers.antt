-- `host::calls::lumbixet_threshold` meets its contract: the verdict has its number, and the next record is the one that the call gives.
-- Assumes nothing.
use Rattle.host.specs.Calls.{heard_out}
use Rattle.host.proofs.calls.lumbixet_threshold.Goals as goal

pub returns : goal.returns
unfolding heard_out
returns c = rw (c.verdict_out-result.ensures, c.threshold-heard.ensures)
