-- `call_log::fit_line` meets its contract.
-- Assumes nothing.
use Rattle.call_log.proofs.Room.{fits}
use Rattle.call_log.proofs.noting.fit_line.Goals as goal

pub returns : goal.returns
returns c = fits _ _ _ _ c.put_line.ensures.0
