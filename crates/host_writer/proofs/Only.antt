-- Only one: two results that meet the contract of the exported call, as its source states it, are equal, and so are the lent buffers that they leave.
-- Assumes nothing.
use mathlib.Core.Path.{sym, ◌∙◌}
use Rattle.wire.proofs.Only.{OneBuffer}
use Rattle.host_writer.proofs.lumbixet_write_report.Reads as write-report
use Rattle.host_writer.proofs.lumbixet_write_report.Kinds as write-report-kinds

pub write-report-one : OneBuffer 2 write-report-kinds.ps write-report-kinds.r (λ κs s. s.1.0.now) write-report.Post
write-report-one κs given x y s t p q = (p.0 ∙ sym q.0, p.1 ∙ sym q.1)
