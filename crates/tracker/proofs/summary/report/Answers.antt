-- `tracker::report` meets its contract: its tests are the refusals in their order, and what it worked out is the summary and the entries.
-- Assumes nothing.
use Prim.Native.Nat.{◌+◌}
use mathlib.Core.Path.{◌≡◌, sym, ap, ◌∙◌}
use mathlib.Core.Bool.{true}
use native.Mathlib.Omega.{arith}
use lib.Dec.{leb}
use lib.IntN.{ℤ}
use lib.ListN.{length}
use mir.Syntax.{w64}
use mir.ValLaws.{to_z-of_z}
use Rattle.wire.specs.Numbers.{limit}
use Rattle.report.specs.Average.{stored_of}
use Rattle.report.specs.declared.Header.{Header}
use Rattle.tracker.specs.Record.{first_of, interval_of, both_obey, consistent, known}
use Rattle.tracker.specs.Report.{average_fits}
use Rattle.tracker.proofs.Judging.{both_small}
use Rattle.tracker.proofs.Losses.{numbers-sound, named-within}
use Rattle.tracker.proofs.Reported.{Made, made, total-is, header_is, entries-long, few, refused-one, refused-five, refused-range, refused-room, accepted-room, answer-refused, answer-made}
use Rattle.tracker.proofs.summary.report.Goals as goal
use Rattle.tracker.proofs.summary.report.Goals.{Else-not-consistent, Else-not-both_obey, Else-not-in_range, After-mean-average}

-- what holds once the tests are passed
sound : (c : Else-not-consistent) → consistent c.args.tracker.now ≡ true
sound c = sym c.consistent.ensures ∙ c.if-not-consistent.false

small : (c : Else-not-both_obey) → both_obey c.args.time c.args.interval ≡ true
small c = sym c.both_obey.ensures ∙ c.if-not-both_obey.false

worked : (c : After-mean-average) → Made c.args.tracker.now c.args.time c.loss_end-end.result c.counts_of-counts.result c.mean-average.result
worked c =
    made c.args.tracker.now c.args.time (sym c.consistent.ensures ∙ c.if-not-consistent.false)
    c.spread_of-spread.ensures.0 c.loss_end-end.ensures c.counts_of-counts.ensures c.saturating_sub-gaps.ensures c.saturating_sub.ensures c.mean-average.ensures

-- the average is in its range
ranged : (c : Else-not-in_range) → Made c.args.tracker.now c.args.time c.loss_end-end.result c.counts_of-counts.result c.mean-average.result → average_fits (known c.args.tracker.now) ≡ true
ranged c w =
    let z = to_z-of_z w64 c.mean-average.result (record { sfits = c.mean-average.type_inv }) in
    ap (λ (z : ℤ). leb (stored_of z) limit) (sym w.average) ∙ sym (rw z at c.in_range.ensures) ∙ c.if-not-in_range.false

pub returns-then-not-consistent : goal.returns-then-not-consistent
returns-then-not-consistent c =
    let a = c.args in
    answer-refused a.tracker.now a.time a.interval a.entries.now {n = 0} c.refused.ensures (refused-one a.tracker.now a.time a.interval (length a.entries.now) (sym c.consistent.ensures ∙ c.if-not-consistent.true))

pub returns-then-not-both_obey : goal.returns-then-not-both_obey
returns-then-not-both_obey c =
    let a = c.args in
    let s = sound (goal.at.returns-then-not-both_obey c).Else-not-consistent in
    answer-refused a.tracker.now a.time a.interval a.entries.now {n = 4} c.refused-then-not-both_obey.ensures (refused-five a.tracker.now a.time a.interval (length a.entries.now) s (sym c.both_obey.ensures ∙ c.if-not-both_obey.true))

pub loss_end-end-requires : goal.loss_end-end-requires
loss_end-end-requires c =
    let a = c.args in
    let s = sound (goal.at.loss_end-end-requires c).Else-not-consistent in
    let o = small (goal.at.loss_end-end-requires c).Else-not-both_obey in
    (omega (arith, (both_small a.time a.interval o).0), named-within a.tracker.now s)

pub overflow_add-counts : goal.overflow_add-counts
overflow_add-counts c =
    let f = few _ c.args.tracker.now c.counts_of-counts.ensures in
    omega (arith, f.received, f.late)

pub returns-then-not-in_range : goal.returns-then-not-in_range
returns-then-not-in_range c =
    let a = c.args in
    let s = sound (goal.at.returns-then-not-in_range c).Else-not-consistent in
    let o = small (goal.at.returns-then-not-in_range c).Else-not-both_obey in
    let w = worked (goal.at.returns-then-not-in_range c).After-mean-average in
    let z = to_z-of_z w64 c.mean-average.result (record { sfits = c.mean-average.type_inv }) in
    let no = ap (λ (z : ℤ). leb (stored_of z) limit) (sym w.average) ∙ sym (rw z at c.in_range.ensures) ∙ c.if-not-in_range.true in
    answer-refused a.tracker.now a.time a.interval a.entries.now {n = 4} c.refused-then-not-in_range.ensures (refused-range a.tracker.now a.time a.interval (length a.entries.now) s o no)

pub mean-average-requires : goal.mean-average-requires
mean-average-requires c =
    let r = c.args.tracker.now in
    let s = sound (goal.at.mean-average-requires c).Else-not-consistent in
    (omega (arith, c.spread_of-spread.ensures.1), omega (arith, (both_small (first_of r + 255) (interval_of r) (numbers-sound r s)).1))

pub header-header-requires : goal.header-header-requires
header-header-requires c =
    let f = few _ c.args.tracker.now c.counts_of-counts.ensures in
    (omega (arith, f.received), (omega (arith, f.late), (omega (arith, f.missing), omega (arith, f.partial))))

pub returns-then-entries-header : goal.returns-then-entries-header
returns-then-entries-header c =
    let a = c.args in
    let g = goal.at.returns-then-entries-header c in
    let w = worked g.After-mean-average in
    let total = ap (λ (h : Header). h.total) c.header-header.ensures ∙ total-is w in
    answer-refused a.tracker.now a.time a.interval a.entries.now {n = 8} c.refused-then-entries-header.ensures (refused-room a.tracker.now a.time a.interval (length a.entries.now) (sound g.Else-not-consistent) (small g.Else-not-both_obey) (ranged g.Else-not-in_range w) (omega (arith, total, c.if-entries-header.true)))

pub put_entries-requires : goal.put_entries-requires
put_entries-requires c =
    let r = c.args.tracker.now in
    let g = goal.at.put_entries-requires c in
    let w = worked g.After-mean-average in
    let total = ap (λ (h : Header). h.total) c.header-header.ensures ∙ total-is w in
    (omega (arith, (both_small (first_of r + 255) (interval_of r) (numbers-sound r (sound g.Else-not-consistent))).0), omega (arith, entries-long w, total, c.if-entries-header.false))

pub returns : goal.returns
returns c =
    let a = c.args in
    let g = goal.at.returns c in
    let w = worked g.After-mean-average in
    let total = ap (λ (h : Header). h.total) c.header-header.ensures ∙ total-is w in
    answer-made a.tracker.now a.time a.interval a.entries.now
    (accepted-room a.tracker.now a.time a.interval (length a.entries.now) (sound g.Else-not-consistent) (small g.Else-not-both_obey) (ranged g.Else-not-in_range w) (omega (arith, total, c.if-entries-header.false)))
    (header_is w a.interval (to_z-of_z w64 c.mean-average.result (record { sfits = c.mean-average.type_inv })) c.header-header.ensures)
    c.put_entries.ensures w.entries
