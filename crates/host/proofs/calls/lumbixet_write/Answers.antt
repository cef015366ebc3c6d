-- `host::calls::lumbixet_write` meets its contract: the receiver's write call, of the type that was chosen.
-- Assumes nothing.
use Rattle.host.proofs.calls.lumbixet_write.Goals as goal

pub returns : goal.returns
returns c = (rw c.from-kind.ensures at c.write.ensures.0, rw c.from-kind.ensures at c.write.ensures.1)
