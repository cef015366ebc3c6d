-- `receiver::calls::standing` meets its contract: a cause that is not 0 stays.
-- Assumes nothing.
use native.Mathlib.Omega.{arith}
use Rattle.receiver.proofs.Standing.{stays}
use Rattle.receiver.proofs.calls.standing.Goals as goal

pub returns-in_default : goal.returns-in_default
returns-in_default c = stays _ _ (omega arith)
