-- `tracker::record::consistent` meets its contract: its tests are the definition's.
-- Assumes nothing.
use mathlib.Core.Path.{sym, ◌∙◌}
use Rattle.tracker.specs.Record.{consistent}
use Rattle.tracker.proofs.record.consistent.Goals as goal

pub returns-then-not-numbers_obey : goal.returns-then-not-numbers_obey
unfolding consistent
returns-then-not-numbers_obey c = rw (sym c.numbers_obey.ensures ∙ c.if-not-numbers_obey.true)

pub returns : goal.returns
unfolding consistent
returns c = rw (sym c.numbers_obey.ensures ∙ c.if-not-numbers_obey.false) c.first_named.ensures
