-- `totals::Brought::by` meets its contract: an accepted report's entries are its last bytes.
-- Assumes nothing.
use mathlib.Core.Path.{◌∙◌}
use native.Mathlib.Omega.{arith}
use lib.ListN.{length-take, length-drop}
use Rattle.totals.proofs.Bringing.{entries_fit, entries-last, brings-refused, brings-accepted, brings-long, accepted-is}
use Rattle.totals.proofs.Brought.by.Goals as goal

pub returns-then-report-gt-LONGEST : goal.returns-then-report-gt-LONGEST
returns-then-report-gt-LONGEST c = c.refused.ensures ∙ brings-long _ (omega arith)

pub returns-then-read-ne0 : goal.returns-then-read-ne0
returns-then-read-ne0 c =
    let r = c.read_report-read in
    c.refused-then-read-ne0.ensures ∙ brings-refused _ r.ensures (omega arith) c.if-read-ne0.true

pub overflow_mul-start : goal.overflow_mul-start
overflow_mul-start c = omega (arith, entries_fit _ c.read_report-read.ensures)

pub overflow_sub-start : goal.overflow_sub-start
overflow_sub-start c = entries_fit _ c.read_report-read.ensures

pub count_statuses-statuses-requires : goal.count_statuses-statuses-requires
count_statuses-statuses-requires c = simp (length-take, length-drop) (omega arith)

pub returns : goal.returns
returns c =
    let r = c.read_report-read in
    let e = entries-last _ r.ensures in
    accepted-is _ r.result.header (rw e at c.count_statuses-statuses.ensures) ∙ brings-accepted _ r.ensures (omega arith) (omega arith)
