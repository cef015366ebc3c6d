-- `pieces::fitness::numbers_fit` meets its contract: its tests are the definition's.
-- Assumes nothing.
use mathlib.Core.Path.{sym, ap, ◌∙◌}
use Rattle.std.specs.Prelude.{Result, is_ok}
use Rattle.wire.specs.declared.Refusal.{Refusal}
use Rattle.pieces.proofs.Parts.{numbers-large, numbers-judged}
use Rattle.pieces.proofs.fitness.numbers_fit.Goals as goal

pub returns-else-all_small : goal.returns-else-all_small
returns-else-all_small c =
    let a = c.args in
    c.if-all_small.false ∙ numbers-large a.profile a.numbers.now (sym c.all_small.ensures ∙ c.if-all_small.false)

pub returns-then-all_small : goal.returns-then-all_small
returns-then-all_small c =
    let a = c.args in
    c.is_ok.ensures.value ∙ ap (λ (x : Result Unit Refusal). is_ok x) c.first_fault.ensures ∙ numbers-judged a.profile a.numbers.now (sym c.all_small.ensures ∙ c.if-all_small.true)
