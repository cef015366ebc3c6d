-- `pieces::rest::count_on` meets its contract: the bytes are counted.
-- Assumes nothing.
use mathlib.Core.Path.{refl}
use Rattle.pieces.specs.Record.{stand_in}
use Rattle.pieces.proofs.Endings.{ended-counting}
use Rattle.pieces.proofs.rest.count_on.Goals as goal

pub returns : goal.returns
returns c =
    let a = c.args in
    let h = c.requires in
    ended-counting a.profile (stand_in a.from a.state.now) a.part.now c.min-bytes.result _ h.0 h.1 c.min-bytes.ensures refl
