-- `pieces::fields::through_header` meets its contract, by the stage.
-- Assumes nothing.
use Rattle.pieces.specs.Record.{stand_in}
use Rattle.pieces.proofs.Going.{served-still}
use Rattle.pieces.proofs.Numbering.{past-still}
use Rattle.pieces.proofs.fields.through_header.Goals as goal

pub returns : goal.returns
returns c =
    let a = c.args in
    let h = c.requires in
    rw c.as_it_was.ensures (λ out. served-still a.profile (stand_in a.from a.state.now) a.part.now out h, past-still (stand_in a.from a.state.now) a.part.now c.if-stage-eq-NUMBERS.false)
