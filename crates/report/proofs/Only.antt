-- Only one: two results that meet the contract of a public call, as its source states it, are equal, and so are the lent buffers that they leave.
-- Assumes nothing.
use mathlib.Core.Path.{◌≡◌, sym, ◌∙◌}
use borrow.Fn.Kinds.{Dens, res_t, ended_of}
use contract.Lifetimes.{Lfts}
use denote.Triple.Clauses.{AtExit}
use Rattle.wire.proofs.Only.{OneAnswer, OneBuffer}
use Rattle.report.proofs.reader.read_report.Reads as read-report
use Rattle.report.proofs.reader.read_report.Kinds as read-report-kinds
use Rattle.report.proofs.reader.entries_of.Reads as entries-of
use Rattle.report.proofs.reader.entries_of.Kinds as entries-of-kinds
use Rattle.report.proofs.head.read_head.Reads as read_head
use Rattle.report.proofs.head.read_head.Kinds as read-head-kinds
use Rattle.report.proofs.writer.write_report.Reads as write-report
use Rattle.report.proofs.writer.write_report.Kinds as write-report-kinds
use Rattle.report.proofs.judging.judge_field.Reads as judge-field
use Rattle.report.proofs.judging.judge_field.Kinds as judge-field-kinds
use Rattle.report.proofs.judging.most_metrics.Reads as most-metrics
use Rattle.report.proofs.judging.most_metrics.Kinds as most-metrics-kinds
use Rattle.report.proofs.judging.wanted.Reads as wanted
use Rattle.report.proofs.judging.wanted.Kinds as wanted-kinds
use Rattle.report.proofs.judging.number_at.Reads as number_at
use Rattle.report.proofs.judging.number_at.Kinds as number-at-kinds
use Rattle.report.proofs.judging.last_of.Reads as last_of
use Rattle.report.proofs.judging.last_of.Kinds as last-of-kinds
use Rattle.report.proofs.judging.first_fault.Reads as first-fault
use Rattle.report.proofs.judging.first_fault.Kinds as first-fault-kinds
use Rattle.report.proofs.headers.average.Reads as average
use Rattle.report.proofs.headers.average.Kinds as average-kinds
use Rattle.report.proofs.headers.empty_header.Reads as empty-header
use Rattle.report.proofs.headers.empty_header.Kinds as empty-header-kinds

pub read-report-one : OneAnswer 1 read-report-kinds.ps read-report-kinds.r read-report.Post
read-report-one κs given x y s t p q = p ∙ sym q

-- the companion's answer is a part of the lent bytes: what it holds is fixed
pub entries-of-one : (κs : Lfts 1) (given : Dens κs entries-of-kinds.ps) (x y : (res_t entries-of-kinds.r κs).Denot) (s t : AtExit (ended_of 1 entries-of-kinds.ps entries-of-kinds.r) κs)
    → entries-of.Post κs given x s → entries-of.Post κs given y t → x.now ≡ y.now
entries-of-one κs given x y s t p q = p ∙ sym q

pub read-head-one : OneAnswer 1 read-head-kinds.ps read-head-kinds.r read_head.Post
read-head-one κs given x y s t p q = p.0 ∙ sym q.0

pub write-report-one : OneBuffer 2 write-report-kinds.ps write-report-kinds.r (λ κs s. s.1.0.now) write-report.Post
write-report-one κs given x y s t p q = (p.0 ∙ sym q.0, p.1 ∙ sym q.1)

pub judge-field-one : OneAnswer 1 judge-field-kinds.ps judge-field-kinds.r judge-field.Post
judge-field-one κs given x y s t p q = p ∙ sym q

pub most-metrics-one : OneAnswer 0 most-metrics-kinds.ps most-metrics-kinds.r most-metrics.Post
most-metrics-one κs given x y s t p q = p.0 ∙ sym q.0

pub wanted-one : OneAnswer 1 wanted-kinds.ps wanted-kinds.r wanted.Post
wanted-one κs given x y s t p q = p ∙ sym q

pub number-at-one : OneAnswer 1 number-at-kinds.ps number-at-kinds.r number_at.Post
number-at-one κs given x y s t p q = p ∙ sym q

pub last-of-one : OneAnswer 1 last-of-kinds.ps last-of-kinds.r last_of.Post
last-of-one κs given x y s t p q = p ∙ sym q

pub first-fault-one : OneAnswer 1 first-fault-kinds.ps first-fault-kinds.r first-fault.Post
first-fault-one κs given x y s t p q = p ∙ sym q

pub average-one : OneAnswer 0 average-kinds.ps average-kinds.r average.Post
average-one κs given x y s t p q = p ∙ sym q

pub empty-header-one : OneAnswer 0 empty-header-kinds.ps empty-header-kinds.r empty-header.Post
empty-header-one κs given x y s t p q = p ∙ sym q
