-- `report::read_as` meets its contract: the numbers and what comes behind them, or the refusal, make the report.
-- Assumes nothing.
use mathlib.Core.Path.{◌∙◌}
use Rattle.report.proofs.Whole.{stopped-judged, refused-behind, whole-behind, report-stopped, report-whole}
use Rattle.report.proofs.reader.read_as.Goals as goal

pub returns-in-Err : goal.returns-in-Err
returns-in-Err c =
    let a = c.args in
    c.refused.ensures ∙ report-stopped a.profile a.s.now _ (stopped-judged a.profile a.s.now _ c.in-Err.ensures.0)

pub returns-in-Err-fault_behind : goal.returns-in-Err-fault_behind
returns-in-Err-fault_behind c =
    let a = c.args in
    let f = c.in-Ok in
    c.refused-in-Err-fault_behind.ensures ∙ report-stopped a.profile a.s.now _ (refused-behind a.profile a.s.now f.read f.ensures.0 _ _ c.last_of.ensures c.fault_behind.ensures c.in-Err-fault_behind.is)

pub returns : goal.returns
returns c =
    let a = c.args in
    let f = c.in-Ok in
    rw c.header_of-header.ensures
    (report-whole a.profile a.s.now _ f.read.next (whole-behind a.profile a.s.now f.read f.ensures.0 _ _ c.last_of.ensures c.fault_behind.ensures c.in_default.is))
