-- `pieces::fitness::words_fit` meets its contract: the marks that it judges are those of the words.
-- Assumes nothing.
use mathlib.Core.Path.{ap, ◌∙◌}
use Rattle.pieces.specs.Record.{stand_in}
use Rattle.pieces.specs.Fitness.{stand_fit}
use Rattle.pieces.specs.declared.Marks.{Marks}
use Rattle.pieces.proofs.fitness.words_fit.Goals as goal

pub returns : goal.returns
returns c =
    let a = c.args in
    c.stand_fit.ensures ∙ ap (λ (m : Marks). stand_fit a.profile (stand_in m a.state.now)) c.loaded-s.ensures
