-- `call_log::untimely_opening` meets its contract.
-- Assumes nothing.
use mathlib.Core.Path.{◌∙◌}
use Rattle.receiver.specs.Record.{limits_rule}
use Rattle.receiver.specs.Calls.{open_call, open_refusal}
use Rattle.call_log.proofs.calls.untimely_opening.Goals as goal

pub returns : goal.returns
unfolding open_call open_refusal limits_rule
returns c = c.answered.ensures ∙ rw (c.number.ensures, c.open-opened.ensures)
