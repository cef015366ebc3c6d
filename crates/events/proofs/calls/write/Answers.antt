-- `events::write` meets its contract: the answer of the receiver's write in a buffer of 1,200 zeros, without its length.
-- Assumes nothing.
use Rattle.events.specs.Events.{write_call}
use Rattle.events.proofs.calls.write.Goals as goal

pub returns : goal.returns
unfolding write_call
returns c = rw c.write-wrote.ensures.0
