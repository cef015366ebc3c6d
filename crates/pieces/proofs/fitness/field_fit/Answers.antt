-- `pieces::fitness::field_fit` meets its contract: its tests are the definition's.
-- Assumes nothing.
use mathlib.Core.Path.{sym, ◌∙◌}
use borrow.Author.Tests.{le-ltb}
use lib.ListN.{length}
use Rattle.pieces.proofs.Parts.{field-whole, field-read}
use Rattle.pieces.proofs.fitness.field_fit.Goals as goal

pub returns-else-numbers-wanted : goal.returns-else-numbers-wanted
returns-else-numbers-wanted c =
    let a = c.args in
    let h = rw c.wanted.ensures at c.if-numbers-wanted.false in
    rw (le-ltb (length a.numbers.now) c.wanted.result c.if-numbers-wanted.false) (field-whole a.profile a.numbers.now a.held.now h)

pub returns-then-numbers-wanted : goal.returns-then-numbers-wanted
returns-then-numbers-wanted c = c.is_err.ensures.value ∙ field-read _ _ _ _ (sym c.read_number.ensures) (rw c.wanted.ensures at c.if-numbers-wanted.true)
