-- `pieces::records::complete` meets its contract: the record that is carried is one step.
-- Assumes nothing.
use mathlib.Core.Path.{refl, sym, ap, ◌∙◌}
use native.Mathlib.Omega.{arith}
use Prim.Native.Nat.{ℕ, ◌-◌}
use mathlib.Core.List.{List, ◌++◌}
use lib.ListN.{take}
use lib.Seq.{length-take-le}
use Rattle.pieces.specs.Record.{stand_in, moved_in}
use Rattle.pieces.specs.declared.Walked.{Walked}
use Rattle.pieces.specs.Reading.{key_of}
use Rattle.pieces.proofs.Keys.{key-bad, key-good}
use Rattle.pieces.proofs.Going.{served-still}
use Rattle.pieces.proofs.Steps.{size-most, begun-still, Completes, completes-true, left-within, left-pos, need-below, need-long, joined-fits, bad-done, good-done}
use Rattle.pieces.proofs.records.complete.Goals as goal
use Rattle.pieces.proofs.records.complete.Goals.{Else-not-completes}

-- the part has the bytes
whole : (c : Else-not-completes) → Completes c.args.profile (stand_in c.args.from c.args.state.now) c.args.part.now
whole c = completes-true c.args.profile (stand_in c.args.from c.args.state.now) c.args.part.now (rw c.record_size-size.ensures at (sym c.completes.ensures ∙ c.if-not-completes.false))

pub returns-then-not-completes : goal.returns-then-not-completes
returns-then-not-completes c =
    let a = c.args in
    let h = c.requires in
    let e = rw c.record_size-size.ensures at (sym c.completes.ensures ∙ c.if-not-completes.true) in
    rw c.as_it_was.ensures (served-still a.profile (stand_in a.from a.state.now) a.part.now a.out.now h.0, begun-still a.profile (stand_in a.from a.state.now) a.part.now h.0 h.1.0 e)

pub overflow_sub-need : goal.overflow_sub-need
overflow_sub-need c =
    let a = c.args in
    let h = c.requires in
    need-below a.profile (stand_in a.from a.state.now) a.part.now a.out.now h.0 (whole c) h.1.1 c.record_size-size.result c.record_size-size.ensures

pub slice_bounds-joined-end : goal.slice_bounds-joined-end
slice_bounds-joined-end c =
    let a = c.args in
    let h = c.requires in
    need-long a.profile (stand_in a.from a.state.now) a.part.now a.out.now h.0 (whole (goal.at.slice_bounds-joined-end c).Else-not-completes) h.1.1 c.record_size-size.result c.record_size-size.ensures

pub held_in-held-requires : goal.held_in-held-requires
held_in-held-requires c = omega (arith, c.requires.0.carried)

pub joined-record-requires : goal.joined-record-requires
joined-record-requires c =
    let a = c.args in
    let h = c.requires in
    joined-fits a.profile (stand_in a.from a.state.now) a.part.now a.out.now h.0 (whole (goal.at.joined-record-requires c).Else-not-completes) h.1.1 c.record_size-size.result c.record_size-size.ensures

pub slice_bounds-record-end : goal.slice_bounds-record-end
slice_bounds-record-end c = omega (arith, c.record_size-size.ensures, c.joined-record.ensures.0, size-most c.args.profile)

pub slice_bounds-good_run-end : goal.slice_bounds-good_run-end
slice_bounds-good_run-end c = sym (length-take-le _ _ (omega (arith, c.record_size-size.ensures, c.joined-record.ensures.0, size-most c.args.profile)))

pub overflow_sub-left : goal.overflow_sub-left
overflow_sub-left c =
    let a = c.args in
    let h = c.requires in
    left-pos a.profile (stand_in a.from a.state.now) a.part.now a.out.now h.0 (whole (goal.at.overflow_sub-left c).Else-not-completes) h.1.1

pub after_bad-requires : goal.after_bad-requires
after_bad-requires c =
    let a = c.args in
    let h = c.requires in
    omega (arith, left-within a.profile (stand_in a.from a.state.now) a.part.now a.out.now h.0 (whole (goal.at.after_bad-requires c).Else-not-completes) h.1.1)

pub returns-then-run-eq0 : goal.returns-then-run-eq0
returns-then-run-eq0 c =
    let a = c.args in
    let h = c.requires in
    bad-done a.profile (stand_in a.from a.state.now) a.part.now a.out.now h.0 (whole (goal.at.returns-then-run-eq0 c).Else-not-completes) h.1.1 c.record_size-size.result c.record_size-size.ensures c.joined-record.result (key_of a.profile a.from.last a.from.above (take c.record_size-size.result c.joined-record.result)) (c.joined-record.ensures.1 ∙ ap (λ (x : List ℕ). x ++ take (c.record_size-size.result - a.from.carried) a.part.now) c.held_in-held.ensures.1) refl (key-bad a.profile a.from.last a.from.above (take c.record_size-size.result c.joined-record.result) (length-take-le c.record_size-size.result c.joined-record.result (omega (arith, c.record_size-size.ensures, c.joined-record.ensures.0, size-most a.profile)) ∙ c.record_size-size.ensures) c.good_run-run.result c.good_run-run.ensures c.if-run-eq0.true) _ (ap (λ (x : Walked). moved_in x a.state.now) c.after_bad.ensures)

pub slice_bounds-copy_from_slice-end-2 : goal.slice_bounds-copy_from_slice-end-2
slice_bounds-copy_from_slice-end-2 c = sym (length-take-le _ _ (omega (arith, c.record_size-size.ensures, c.requires.1.1)))

pub slice_bounds-record-end-2 : goal.slice_bounds-record-end-2
slice_bounds-record-end-2 c = omega (arith, c.record_size-size.ensures, c.joined-record.ensures.0, size-most c.args.profile)

pub slice_bounds-copy_from_slice-end-3 : goal.slice_bounds-copy_from_slice-end-3
slice_bounds-copy_from_slice-end-3 c = sym (length-take-le _ _ (omega (arith, c.record_size-size.ensures, c.joined-record.ensures.0, size-most c.args.profile)))

pub copy_from_slice-requires : goal.copy_from_slice-requires
copy_from_slice-requires c = length-take-le c.record_size-size.result c.args.out.now (omega (arith, c.record_size-size.ensures, c.requires.1.1)) ∙ sym (length-take-le c.record_size-size.result c.joined-record.result (omega (arith, c.record_size-size.ensures, c.joined-record.ensures.0, size-most c.args.profile)))

pub overflow_sub-now : goal.overflow_sub-now
overflow_sub-now c =
    let a = c.args in
    let h = c.requires in
    left-pos a.profile (stand_in a.from a.state.now) a.part.now a.out.now h.0 (whole (goal.at.overflow_sub-now c).Else-not-completes) h.1.1

pub returns : goal.returns
returns c =
    let a = c.args in
    let h = c.requires in
    good-done a.profile (stand_in a.from a.state.now) a.part.now a.out.now h.0 (whole (goal.at.returns c).Else-not-completes) h.1.1 c.record_size-size.result c.record_size-size.ensures c.joined-record.result c.copy_from_slice.new.self (key_of a.profile a.from.last a.from.above (take c.record_size-size.result c.joined-record.result)) _ _ (c.joined-record.ensures.1 ∙ ap (λ (x : List ℕ). x ++ take (c.record_size-size.result - a.from.carried) a.part.now) c.held_in-held.ensures.1) refl (key-good a.profile a.from.last a.from.above (take c.record_size-size.result c.joined-record.result) (length-take-le c.record_size-size.result c.joined-record.result (omega (arith, c.record_size-size.ensures, c.joined-record.ensures.0, size-most a.profile)) ∙ c.record_size-size.ensures) c.good_run-run.result c.good_run-run.ensures c.if-run-eq0.false) c.copy_from_slice.ensures.after _ refl
