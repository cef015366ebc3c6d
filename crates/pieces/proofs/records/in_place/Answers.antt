-- `pieces::records::in_place` meets its contract: the records that lie whole in the part are one step.
-- Assumes nothing.
use mathlib.Core.Path.{◌≡◌, refl, sym, ap, ap₂, ◌∙◌}
use native.Mathlib.Omega.{arith}
use lib.ListN.{length}
use lib.Seq.{length-take-le}
use Rattle.pieces.specs.Record.{stand_in, moved_in}
use Rattle.pieces.specs.declared.Walked.{Walked}
use Rattle.pieces.proofs.Going.{served-still}
use Prim.Native.Nat.{◌/◌, min}
use Rattle.entries.specs.Profiles.{record_size}
use Rattle.pieces.proofs.RowSteps.{short_still, row_here_lem, row-few, bytes-there, end-there, end_fits, end-left, next-there, row_done, row-bad-done}
use Rattle.pieces.proofs.records.in_place.Goals as goal
use Rattle.pieces.proofs.records.in_place.Goals.{After-min-n}

-- records are coming, and nothing is carried
here : (c : After-min-n) → (c.args.from.stage ≡ 1) × (c.args.from.carried ≡ 0)
here c = row_here_lem c.args.profile (stand_in c.args.from c.args.state.now) (sym c.row_here.ensures ∙ c.if-not-row_here.false)

-- as many as are to come, are there and fit
many : (c : After-min-n) → c.min-n.result ≡ min c.args.from.left (min (length c.args.part.now / record_size c.args.profile) (length c.args.out.now / record_size c.args.profile))
many c = c.min-n.ensures ∙ ap (min c.args.from.left) (c.min.ensures ∙ ap₂ min c.records_in.ensures c.records_in-room.ensures)

pub returns-then-not-row_here : goal.returns-then-not-row_here
returns-then-not-row_here c =
    let a = c.args in
    let h = c.requires in
    let e = sym c.row_here.ensures ∙ c.if-not-row_here.true in
    rw c.as_it_was.ensures (served-still a.profile (stand_in a.from a.state.now) a.part.now a.out.now h.0, short_still a.profile (stand_in a.from a.state.now) a.part.now _ h.0 h.1 e)

pub overflow_mul-bytes : goal.overflow_mul-bytes
overflow_mul-bytes c =
    let a = c.args in
    let h = c.requires in
    let t = bytes-there a.profile (stand_in a.from a.state.now) a.part.now a.out.now h.0 (here c).0 (here c).1 c.min-n.result (many c) c.record_size-size.result c.record_size-size.ensures in
    omega (arith, t, c.well_formed)

pub slice_bounds-good_run-end : goal.slice_bounds-good_run-end
slice_bounds-good_run-end c =
    let a = c.args in
    let h = c.requires in
    sym (length-take-le _ _ (bytes-there a.profile (stand_in a.from a.state.now) a.part.now a.out.now h.0 (here c).0 (here c).1 c.min-n.result (many c) c.record_size-size.result c.record_size-size.ensures))

pub overflow_mul-end : goal.overflow_mul-end
overflow_mul-end c =
    let a = c.args in
    let h = c.requires in
    let t = end-there a.profile (stand_in a.from a.state.now) a.part.now a.out.now h.0 (here (goal.at.overflow_mul-end c).After-min-n).0 (here (goal.at.overflow_mul-end c).After-min-n).1 c.min-n.result (many (goal.at.overflow_mul-end c).After-min-n) c.record_size-size.result c.record_size-size.ensures c.good_run-run.result c.good_run-run.ensures in
    omega (arith, t, c.well_formed)

pub slice_bounds-copy-end : goal.slice_bounds-copy-end
slice_bounds-copy-end c =
    let a = c.args in
    let h = c.requires in
    end_fits a.profile (stand_in a.from a.state.now) a.part.now a.out.now h.0 (here (goal.at.slice_bounds-copy-end c).After-min-n).0 (here (goal.at.slice_bounds-copy-end c).After-min-n).1 c.min-n.result (many (goal.at.slice_bounds-copy-end c).After-min-n) c.record_size-size.result c.record_size-size.ensures c.good_run-run.result c.good_run-run.ensures

pub slice_bounds-copy-end-2 : goal.slice_bounds-copy-end-2
slice_bounds-copy-end-2 c =
    let a = c.args in
    let h = c.requires in
    sym (length-take-le _ _ (end_fits a.profile (stand_in a.from a.state.now) a.part.now a.out.now h.0 (here (goal.at.slice_bounds-copy-end-2 c).After-min-n).0 (here (goal.at.slice_bounds-copy-end-2 c).After-min-n).1 c.min-n.result (many (goal.at.slice_bounds-copy-end-2 c).After-min-n) c.record_size-size.result c.record_size-size.ensures c.good_run-run.result c.good_run-run.ensures))

pub slice_bounds-copy-end-3 : goal.slice_bounds-copy-end-3
slice_bounds-copy-end-3 c =
    let a = c.args in
    let h = c.requires in
    sym (length-take-le _ _ (end-there a.profile (stand_in a.from a.state.now) a.part.now a.out.now h.0 (here (goal.at.slice_bounds-copy-end-3 c).After-min-n).0 (here (goal.at.slice_bounds-copy-end-3 c).After-min-n).1 c.min-n.result (many (goal.at.slice_bounds-copy-end-3 c).After-min-n) c.record_size-size.result c.record_size-size.ensures c.good_run-run.result c.good_run-run.ensures))

pub copy-requires : goal.copy-requires
copy-requires c =
    let a = c.args in
    let h = c.requires in
    length-take-le _ _ (end_fits a.profile (stand_in a.from a.state.now) a.part.now a.out.now h.0 (here (goal.at.copy-requires c).After-min-n).0 (here (goal.at.copy-requires c).After-min-n).1 c.min-n.result (many (goal.at.copy-requires c).After-min-n) c.record_size-size.result c.record_size-size.ensures c.good_run-run.result c.good_run-run.ensures) ∙ sym (length-take-le _ _ (end-there a.profile (stand_in a.from a.state.now) a.part.now a.out.now h.0 (here (goal.at.copy-requires c).After-min-n).0 (here (goal.at.copy-requires c).After-min-n).1 c.min-n.result (many (goal.at.copy-requires c).After-min-n) c.record_size-size.result c.record_size-size.ensures c.good_run-run.result c.good_run-run.ensures))

pub overflow_add-end : goal.overflow_add-end
overflow_add-end c =
    let a = c.args in
    let h = c.requires in
    let t = next-there a.profile (stand_in a.from a.state.now) a.part.now a.out.now h.0 (here (goal.at.overflow_add-end c).After-min-n).0 (here (goal.at.overflow_add-end c).After-min-n).1 c.min-n.result (many (goal.at.overflow_add-end c).After-min-n) c.record_size-size.result c.record_size-size.ensures c.good_run-run.result c.good_run-run.ensures c.if-good-n.true in
    omega (arith, t, c.well_formed)

pub after_bad-requires : goal.after_bad-requires
after_bad-requires c =
    let a = c.args in
    let h = c.requires in
    omega (arith, row-few a.profile (stand_in a.from a.state.now) a.part.now a.out.now h.0 (here (goal.at.after_bad-requires c).After-min-n).0 (here (goal.at.after_bad-requires c).After-min-n).1 c.min-n.result (many (goal.at.after_bad-requires c).After-min-n))

pub returns-then-good-n : goal.returns-then-good-n
returns-then-good-n c =
    let a = c.args in
    let h = c.requires in
    row-bad-done a.profile (stand_in a.from a.state.now) a.part.now a.out.now h.0 (here (goal.at.returns-then-good-n c).After-min-n).0 (here (goal.at.returns-then-good-n c).After-min-n).1 c.min-n.result (many (goal.at.returns-then-good-n c).After-min-n) c.record_size-size.result c.record_size-size.ensures c.good_run-run.result c.good_run-run.ensures c.if-good-n.true c.copy.new.to c.copy.ensures _ (ap (λ (x : Walked). moved_in x a.state.now) c.after_bad.ensures)

pub overflow_sub-now : goal.overflow_sub-now
overflow_sub-now c =
    let a = c.args in
    let h = c.requires in
    end-left a.profile (stand_in a.from a.state.now) a.part.now a.out.now h.0 (here (goal.at.overflow_sub-now c).After-min-n).0 (here (goal.at.overflow_sub-now c).After-min-n).1 c.min-n.result (many (goal.at.overflow_sub-now c).After-min-n) c.record_size-size.result c.record_size-size.ensures c.good_run-run.result c.good_run-run.ensures

pub returns : goal.returns
returns c =
    let a = c.args in
    let h = c.requires in
    row_done a.profile (stand_in a.from a.state.now) a.part.now a.out.now h.0 (here (goal.at.returns c).After-min-n).0 (here (goal.at.returns c).After-min-n).1 c.min-n.result (many (goal.at.returns c).After-min-n) c.record_size-size.result c.record_size-size.ensures c.good_run-run.result c.good_run-run.ensures (λ z. absurd (omega (arith, z, c.if-good-n.false))) c.copy.new.to c.copy.ensures _ refl
