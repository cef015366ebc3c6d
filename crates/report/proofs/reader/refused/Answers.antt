-- `report::refused` meets its contract.
-- Assumes nothing.
use Rattle.report.specs.Reader.{report_of}
use Rattle.report.proofs.reader.refused.Goals as goal

pub returns : goal.returns
unfolding report_of
returns c = rw (c.empty_header-header.ensures, c.number.ensures)
