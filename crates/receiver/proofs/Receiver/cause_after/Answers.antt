-- `receiver::Receiver::cause_after` meets its contract: a standing cause stays, else the first line that holds.
-- Assumes nothing.
use mathlib.Core.Path.{◌∙◌}
use native.Mathlib.Omega.{arith}
use Rattle.receiver.specs.Packet.{cause_after}
use Rattle.receiver.proofs.Standing.{stays, sets}
use Rattle.receiver.proofs.Receiver.cause_after.Goals as goal

pub returns-in-0 : goal.returns-in-0
unfolding cause_after
returns-in-0 c = c.first_cause.ensures ∙ sets _ _ c.in-0.is

pub returns-in_default : goal.returns-in_default
unfolding cause_after
returns-in_default c = stays _ _ (omega arith)
