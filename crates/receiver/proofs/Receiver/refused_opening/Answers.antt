-- `receiver::Receiver::refused_opening` meets its contract: it opens as usual.
-- Assumes nothing.
use Rattle.receiver.proofs.Receiver.refused_opening.Goals as goal

pub returns : goal.returns
returns c = rw (c.refused.ensures, c.opened.ensures)
