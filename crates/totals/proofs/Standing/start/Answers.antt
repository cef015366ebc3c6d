-- `totals::Standing::start` meets its contract.
-- Assumes nothing.
use mathlib.Core.Path.{refl}
use Rattle.totals.specs.Files.{start}
use Rattle.totals.proofs.Standing.start.Goals as goal

pub returns : goal.returns
unfolding start
returns c = refl
