-- `pieces::fitness::consistent` meets its contract, by its profile.
-- Assumes nothing.
use mathlib.Core.Bool.{false}
use mathlib.Core.Path.{sym, ◌∙◌}
use lib.ListN.{get_or}
use Rattle.report.proofs.Numbered.{asked-for, asked-none}
use Rattle.pieces.specs.Record.{stand_at}
use Rattle.pieces.specs.Fitness.{stand_fit, consistent}
use Rattle.pieces.proofs.fitness.consistent.Goals as goal

pub returns-in-Ok : goal.returns-in-Ok
unfolding consistent
returns-in-Ok c =
    let w = c.args.state.now in
    c.words_fit.ensures ∙ asked-for (get_or w 0 0) false (λ p. stand_fit p (stand_at w)) _ (sym c.in-Ok.is ∙ c.try_from.ensures)

pub returns-in-Err : goal.returns-in-Err
unfolding consistent
returns-in-Err c =
    let w = c.args.state.now in
    (asked-none (get_or w 0 0) false (λ p. stand_fit p (stand_at w)) (sym c.in-Err.is ∙ c.try_from.ensures)).1
