-- `receiver::Receiver::opened` meets its contract: each field is given as the definition says.
-- Assumes nothing.
use Rattle.receiver.specs.Calls.{opened}
use Rattle.receiver.proofs.Receiver.opened.Goals as goal

pub returns : goal.returns
unfolding opened
returns c = rw (c.empty-window.ensures, c.micros-delay.ensures)
