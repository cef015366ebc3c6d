-- `tracker::counting::widened` meets its contract: its test is the definition's.
-- Assumes nothing.
use mathlib.Core.Path.{sym, ◌∙◌}
use Rattle.tracker.proofs.counting.widened.Goals as goal

pub returns-then-not-has_arrived : goal.returns-then-not-has_arrived
returns-then-not-has_arrived c = rw (sym c.has_arrived.ensures ∙ c.if-not-has_arrived.true)

pub returns : goal.returns
returns c = rw (sym c.has_arrived.ensures ∙ c.if-not-has_arrived.false, c.min.ensures, c.max.ensures)
