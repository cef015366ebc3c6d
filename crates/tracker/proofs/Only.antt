-- Only one: two results that meet the contract of a public call, as its source states it, are equal, and so are the record or the lent buffer that they leave.
-- Assumes nothing.
use mathlib.Core.Path.{sym, ◌∙◌}
use Rattle.wire.proofs.Only.{OneBuffer}
use Rattle.tracker.proofs.Judging.{same-answer}
use Rattle.tracker.proofs.calls.open.Reads as opening
use Rattle.tracker.proofs.calls.open.Kinds as opening-kinds
use Rattle.tracker.proofs.calls.arrived.Reads as arrived
use Rattle.tracker.proofs.calls.arrived.Kinds as arrived-kinds
use Rattle.tracker.proofs.calls.ended_early.Reads as ended-early
use Rattle.tracker.proofs.calls.ended_early.Kinds as ended-early-kinds
use Rattle.tracker.proofs.summary.report.Reads as report
use Rattle.tracker.proofs.summary.report.Kinds as report-kinds

pub open-one : OneBuffer 1 opening-kinds.ps opening-kinds.r (λ κs s. s.0.now) opening.Post
open-one κs given x y s t p q = (same-answer x y (p.0 ∙ sym q.0), p.1 ∙ sym q.1)

pub arrived-one : OneBuffer 1 arrived-kinds.ps arrived-kinds.r (λ κs s. s.0.now) arrived.Post
arrived-one κs given x y s t p q = (same-answer x y (p.0 ∙ sym q.0), p.1 ∙ sym q.1)

pub ended-early-one : OneBuffer 1 ended-early-kinds.ps ended-early-kinds.r (λ κs s. s.0.now) ended-early.Post
ended-early-one κs given x y s t p q = (same-answer x y (p.0 ∙ sym q.0), p.1 ∙ sym q.1)

pub report-one : OneBuffer 2 report-kinds.ps report-kinds.r (λ κs s. s.1.1.1.0.now) report.Post
report-one κs given x y s t p q = (p.0 ∙ sym q.0, p.1 ∙ sym q.1)
