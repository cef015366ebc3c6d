-- Only one: two results that meet the contract of an exported call, as its source states it, are equal, and so are the lent buffers that they leave.
-- Assumes nothing.
use mathlib.Core.Path.{sym, ◌∙◌}
use Rattle.wire.proofs.Only.{OneBuffer}
use Rattle.host_tracker.proofs.tracked.lumbixet_tracker_open.Reads as tracker-open
use Rattle.host_tracker.proofs.tracked.lumbixet_tracker_open.Kinds as tracker-open-kinds
use Rattle.host_tracker.proofs.tracked.lumbixet_tracker_arrived.Reads as tracker-arrived
use Rattle.host_tracker.proofs.tracked.lumbixet_tracker_arrived.Kinds as tracker-arrived-kinds
use Rattle.host_tracker.proofs.tracked.lumbixet_tracker_ended_early.Reads as tracker-ended-early
use Rattle.host_tracker.proofs.tracked.lumbixet_tracker_ended_early.Kinds as tracker-ended-early-kinds
use Rattle.host_tracker.proofs.tracked.lumbixet_tracker_report.Reads as tracker-report
use Rattle.host_tracker.proofs.tracked.lumbixet_tracker_report.Kinds as tracker-report-kinds

pub tracker-open-one : OneBuffer 1 tracker-open-kinds.ps tracker-open-kinds.r (λ κs s. s.0.now) tracker-open.Post
tracker-open-one κs given x y s t p q = (p.0 ∙ sym q.0, p.1 ∙ sym q.1)

pub tracker-arrived-one : OneBuffer 1 tracker-arrived-kinds.ps tracker-arrived-kinds.r (λ κs s. s.0.now) tracker-arrived.Post
tracker-arrived-one κs given x y s t p q = (p.0 ∙ sym q.0, p.1 ∙ sym q.1)

pub tracker-ended-early-one : OneBuffer 1 tracker-ended-early-kinds.ps tracker-ended-early-kinds.r (λ κs s. s.0.now) tracker-ended-early.Post
tracker-ended-early-one κs given x y s t p q = (p.0 ∙ sym q.0, p.1 ∙ sym q.1)

pub tracker-report-one : OneBuffer 2 tracker-report-kinds.ps tracker-report-kinds.r (λ κs s. s.1.1.1.0.now) tracker-report.Post
tracker-report-one κs given x y s t p q = (p.0 ∙ sym q.0, p.1 ∙ sym q.1)
