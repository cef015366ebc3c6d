-- `pieces::calls::started` meets its contract: the words are those of a start.
-- Assumes nothing.
use mathlib.Core.Path.{refl}
use Rattle.pieces.specs.Record.{body_as, body_of}
use Rattle.pieces.proofs.calls.started.Goals as goal

pub returns : goal.returns
unfolding body_as body_of
returns c = (refl, refl)
