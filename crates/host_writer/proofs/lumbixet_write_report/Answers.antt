-- `host_writer::lumbixet_write_report` meets its contract: its numbers are those of the answer that the call gives, and the lent buffer is as the call leaves it.
-- Assumes nothing.
use Rattle.host_writer.proofs.lumbixet_write_report.Goals as goal

pub returns : goal.returns
returns c = (rw (c.written_out.ensures, c.write_report-answer.ensures.0), c.write_report-answer.ensures.1)
