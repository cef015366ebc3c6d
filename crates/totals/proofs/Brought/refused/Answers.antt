-- `totals::Brought::refused` meets its contract.
-- Assumes nothing.
use mathlib.Core.Path.{refl}
use Rattle.totals.specs.Adding.{refused_brings}
use Rattle.totals.proofs.Brought.refused.Goals as goal

pub returns : goal.returns
unfolding refused_brings
returns c = refl
