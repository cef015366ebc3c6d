-- `receiver::Receiver::packet` meets its contract: the call at the record's own words, which are put back.
-- Assumes nothing.
use Rattle.receiver.proofs.Receiver.packet.Goals as goal

pub returns : goal.returns
returns c = c.packet_in-answer.ensures
