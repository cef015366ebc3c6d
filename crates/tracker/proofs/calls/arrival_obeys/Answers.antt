-- `tracker::calls::arrival_obeys` meets its contract: its tests are the definition's.
-- Assumes nothing.
use mathlib.Core.Path.{sym, ◌∙◌}
use Rattle.tracker.proofs.calls.arrival_obeys.Goals as goal

pub returns-then-not-both_obey : goal.returns-then-not-both_obey
returns-then-not-both_obey c = rw (sym c.both_obey.ensures ∙ c.if-not-both_obey.true)

pub returns : goal.returns
returns c = rw (sym c.both_obey.ensures ∙ c.if-not-both_obey.false)
