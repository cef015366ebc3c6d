-- `pieces::fitness::rows_fit` meets its contract: its tests are the definition's.
-- Assumes nothing.
use mathlib.Core.Path.{sym, ◌∙◌}
use Rattle.pieces.proofs.Parts.{rows-part, rows_more, rows-misplaced, rows-over, rows_last}
use Rattle.pieces.proofs.fitness.rows_fit.Goals as goal

pub returns-then-not-is_whole : goal.returns-then-not-is_whole
returns-then-not-is_whole c =
    let a = c.args in
    rows-part a.profile a.numbers.now a.left a.last a.above a.carried (sym c.is_whole.ensures ∙ c.if-not-is_whole.true)

pub returns-then-count-left : goal.returns-then-count-left
returns-then-count-left c =
    let a = c.args in
    rows_more a.profile a.numbers.now (sym c.is_whole.ensures ∙ c.if-not-is_whole.false) _ c.last_of-count.ensures a.left a.last a.above a.carried c.if-count-left.true

pub returns-then-not-place_fit : goal.returns-then-not-place_fit
returns-then-not-place_fit c =
    let a = c.args in
    rows-misplaced a.profile a.numbers.now (sym c.is_whole.ensures ∙ c.if-not-is_whole.false) _ c.last_of-count.ensures a.left a.last a.above a.carried c.if-count-left.false (sym c.place_fit.ensures ∙ c.if-not-place_fit.true)

pub returns-then-left-eq0 : goal.returns-then-left-eq0
returns-then-left-eq0 c =
    let a = c.args in
    rows-over a.profile a.numbers.now (sym c.is_whole.ensures ∙ c.if-not-is_whole.false) _ c.last_of-count.ensures a.left a.last a.above a.carried c.if-count-left.false (sym c.place_fit.ensures ∙ c.if-not-place_fit.false) c.if-left-eq0.true

pub returns : goal.returns
returns c =
    let a = c.args in
    rows_last a.profile a.numbers.now (sym c.is_whole.ensures ∙ c.if-not-is_whole.false) _ c.last_of-count.ensures a.left a.last a.above a.carried c.if-count-left.false (sym c.place_fit.ensures ∙ c.if-not-place_fit.false) c.if-left-eq0.false _ c.record_size.ensures
