-- `tracker::open` meets its contract: its test is the definition's, and the words are those of an opening.
-- Assumes nothing.
use mathlib.Core.Path.{refl, sym, ◌∙◌}
use Rattle.tracker.specs.Calls.{open_refusal, opened}
use Rattle.tracker.proofs.calls.open.Goals as goal

pub returns-then-not-numbers_obey : goal.returns-then-not-numbers_obey
unfolding open_refusal
returns-then-not-numbers_obey c = rw (sym c.numbers_obey.ensures ∙ c.if-not-numbers_obey.true) (refl, refl)

pub returns : goal.returns
unfolding open_refusal opened
returns c = rw (sym c.numbers_obey.ensures ∙ c.if-not-numbers_obey.false) (refl, refl)
