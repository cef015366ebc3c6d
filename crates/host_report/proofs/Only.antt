-- Only one: two results that meet the contract of an exported call, as its source states it, are equal.
-- Assumes nothing.
use mathlib.Core.Path.{sym, ◌∙◌}
use Rattle.wire.proofs.Only.{OneAnswer}
use Rattle.host_report.proofs.reports.lumbixet_read_report.Reads as read-report
use Rattle.host_report.proofs.reports.lumbixet_read_report.Kinds as read-report-kinds
use Rattle.host_report.proofs.reports.lumbixet_find_entries.Reads as find-entries
use Rattle.host_report.proofs.reports.lumbixet_find_entries.Kinds as find-entries-kinds

pub read-report-one : OneAnswer 1 read-report-kinds.ps read-report-kinds.r read-report.Post
read-report-one κs given x y s t p q = p ∙ sym q

pub find-entries-one : OneAnswer 1 find-entries-kinds.ps find-entries-kinds.r find-entries.Post
find-entries-one κs given x y s t p q = p ∙ sym q
