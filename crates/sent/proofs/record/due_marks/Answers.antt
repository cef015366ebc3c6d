-- `sent::record::due_marks` meets its contract: the range of the numbers that are due.
-- Assumes nothing.
use Rattle.sent.proofs.Agree.{due-is}
use Rattle.sent.proofs.record.due_marks.Goals as goal

pub returns : goal.returns
returns c = due-is _ _ _ _ c.saturating_sub.ensures c.add_range.ensures
