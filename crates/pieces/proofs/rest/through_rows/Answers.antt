-- `pieces::rest::through_rows` meets its contract: two steps, one after the other.
-- Assumes nothing.
use mathlib.Core.Path.{refl}
use native.Mathlib.Omega.{arith}
use Rattle.pieces.specs.Record.{state_in, stand_in, moved_in}
use Rattle.pieces.proofs.Combining.{both-rows, filled-fits, begun-lent, same-room, few-records}
use Rattle.pieces.proofs.rest.through_rows.Goals as goal

pub overflow_mul-filled : goal.overflow_mul-filled
overflow_mul-filled c =
    let a = c.args in
    let t = filled-fits a.profile (state_in (stand_in a.from a.state.now)) a.part.now a.out.now (moved_in c.complete-first.result a.state.now) c.complete-first.new.out c.complete-first.ensures.0 c.record_size.result c.record_size.ensures in
    let r = same-room a.profile (state_in (stand_in a.from a.state.now)) a.part.now a.out.now (moved_in c.complete-first.result a.state.now) c.complete-first.new.out c.complete-first.ensures.0 in
    omega (arith, t, r, c.well_formed)

pub slice_bounds-finish_rows-count-2 : goal.slice_bounds-finish_rows-count-2
slice_bounds-finish_rows-count-2 c =
    let a = c.args in
    filled-fits a.profile (state_in (stand_in a.from a.state.now)) a.part.now a.out.now (moved_in c.complete-first.result a.state.now) c.complete-first.new.out c.complete-first.ensures.0 c.record_size.result c.record_size.ensures

pub slice_bounds-finish_rows-start-2 : goal.slice_bounds-finish_rows-start-2
slice_bounds-finish_rows-start-2 c =
    let a = c.args in
    filled-fits a.profile (state_in (stand_in a.from a.state.now)) a.part.now a.out.now (moved_in c.complete-first.result a.state.now) c.complete-first.new.out c.complete-first.ensures.0 c.record_size.result c.record_size.ensures

pub finish_rows-rest-requires : goal.finish_rows-rest-requires
finish_rows-rest-requires c =
    let a = c.args in
    (c.complete-first.ensures.0.sits, begun-lent a.profile (state_in (stand_in c.complete-first.result.now a.state.now)) a.part.now c.complete-first.result.taken c.complete-first.ensures.1)

pub overflow_add-result : goal.overflow_add-result
overflow_add-result c =
    let a = c.args in
    let b = both-rows a.profile (state_in (stand_in a.from a.state.now)) a.part.now a.out.now (moved_in c.complete-first.result a.state.now) c.complete-first.new.out c.complete-first.ensures.0 c.record_size.result c.record_size.ensures (moved_in c.finish_rows-rest.result c.finish_rows-rest.new.state) c.finish_rows-rest.new.out c.finish_rows-rest.ensures _ refl in
    omega (arith, b.0.went.within, c.well_formed)

pub overflow_add-result-2 : goal.overflow_add-result-2
overflow_add-result-2 c =
    let a = c.args in
    let b = both-rows a.profile (state_in (stand_in a.from a.state.now)) a.part.now a.out.now (moved_in c.complete-first.result a.state.now) c.complete-first.new.out c.complete-first.ensures.0 c.record_size.result c.record_size.ensures (moved_in c.finish_rows-rest.result c.finish_rows-rest.new.state) c.finish_rows-rest.new.out c.finish_rows-rest.ensures _ refl in
    omega (arith, few-records a.profile (state_in (stand_in a.from a.state.now)) a.part.now a.out.now _ _ b.0, c.well_formed)

pub returns : goal.returns
returns c =
    let a = c.args in
    both-rows a.profile (state_in (stand_in a.from a.state.now)) a.part.now a.out.now (moved_in c.complete-first.result a.state.now) c.complete-first.new.out c.complete-first.ensures.0 c.record_size.result c.record_size.ensures (moved_in c.finish_rows-rest.result c.finish_rows-rest.new.state) c.finish_rows-rest.new.out c.finish_rows-rest.ensures _ refl
