-- `pieces::rest::finish` meets its contract, by the stage.
-- Assumes nothing.
use native.Mathlib.Omega.{arith}
use mathlib.Core.Path.{ap}
use Rattle.pieces.specs.Record.{stand_in, moved_in}
use Rattle.pieces.specs.declared.Walked.{Walked}
use Rattle.pieces.proofs.Endings.{ended-still}
use Rattle.pieces.proofs.rest.finish.Goals as goal

pub returns-in-2 : goal.returns-in-2
returns-in-2 c = ((λ out e. c.count_on.ensures.0.0 out, c.count_on.ensures.0.1 c.args.room), c.count_on.ensures.1)

pub returns-in_default : goal.returns-in_default
returns-in_default c =
    let a = c.args in
    let h = c.requires in
    ended-still a.profile (stand_in a.from a.state.now) a.part.now a.room _ h.0 h.1 (λ z. omega arith) (λ z. omega arith) (ap (λ (x : Walked). moved_in x a.state.now) c.as_it_was.ensures)
