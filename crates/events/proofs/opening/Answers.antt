-- `events::opening` meets its contract: the opening is not refused.
-- Assumes nothing.
use Rattle.receiver.specs.Record.{limits_rule}
use Rattle.receiver.specs.Calls.{open_call, open_refusal}
use Rattle.events.proofs.opening.Goals as goal

pub returns : goal.returns
unfolding open_call open_refusal limits_rule
returns c = rw c.open-opened.ensures
