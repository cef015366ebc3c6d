-- `pieces::calls::nothing` meets its contract: the empty header stands beside the refusal.
-- Assumes nothing.
use mathlib.Core.Path.{refl}
use Rattle.pieces.proofs.calls.nothing.Goals as goal

pub returns : goal.returns
returns c = rw c.empty_header-header.ensures refl
