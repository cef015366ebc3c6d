-- `host_report::reports::lumbixet_find_entries` meets its contract: the part is no longer than the bytes that it is a part of.
-- Assumes nothing.
use Rattle.host_report.proofs.Entries.{no_longer}
use Rattle.host_report.proofs.reports.lumbixet_find_entries.Goals as goal

pub overflow_sub-start : goal.overflow_sub-start
overflow_sub-start c = rw c.entries_of-part.ensures (no_longer c.args.profile c.args.bytes.now)

pub returns : goal.returns
returns c = rw c.entries_of-part.ensures
