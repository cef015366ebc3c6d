-- `host::calls::lumbixet_packet` meets its contract: the receiver's packet call, with the mark that the ECN field tells.
-- Assumes nothing.
use Rattle.host.proofs.calls.lumbixet_packet.Goals as goal

pub returns : goal.returns
returns c = rw c.from-mark.ensures at c.packet.ensures
