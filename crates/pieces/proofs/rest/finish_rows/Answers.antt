-- `pieces::rest::finish_rows` meets its contract: two steps, one after the other.
-- Assumes nothing.
use mathlib.Core.Path.{refl}
use native.Mathlib.Omega.{arith}
use Rattle.pieces.specs.Record.{state_in, stand_in, moved_in}
use Rattle.pieces.proofs.Combining.{both-finished, filled-fits, short-lent, same-room}
use Rattle.pieces.proofs.rest.finish_rows.Goals as goal

pub overflow_mul-room : goal.overflow_mul-room
overflow_mul-room c =
    let a = c.args in
    let t = filled-fits a.profile (state_in (stand_in a.from a.state.now)) a.part.now a.out.now (moved_in c.in_place-rows.result a.state.now) c.in_place-rows.new.out c.in_place-rows.ensures.0 c.record_size.result c.record_size.ensures in
    let r = same-room a.profile (state_in (stand_in a.from a.state.now)) a.part.now a.out.now (moved_in c.in_place-rows.result a.state.now) c.in_place-rows.new.out c.in_place-rows.ensures.0 in
    omega (arith, t, r, c.well_formed)

pub overflow_sub-room : goal.overflow_sub-room
overflow_sub-room c =
    let a = c.args in
    filled-fits a.profile (state_in (stand_in a.from a.state.now)) a.part.now a.out.now (moved_in c.in_place-rows.result a.state.now) c.in_place-rows.new.out c.in_place-rows.ensures.0 c.record_size.result c.record_size.ensures

pub finish-last-requires : goal.finish-last-requires
finish-last-requires c =
    let a = c.args in
    (c.in_place-rows.ensures.0.sits, short-lent a.profile (state_in (stand_in a.from a.state.now)) a.part.now a.out.now (moved_in c.in_place-rows.result a.state.now) c.in_place-rows.new.out c.in_place-rows.ensures.0 c.record_size.result c.record_size.ensures (state_in (stand_in c.in_place-rows.result.now a.state.now)) c.in_place-rows.ensures.1)

pub overflow_add-result : goal.overflow_add-result
overflow_add-result c =
    let a = c.args in
    let b = both-finished a.profile (state_in (stand_in a.from a.state.now)) a.part.now a.out.now (moved_in c.in_place-rows.result a.state.now) c.in_place-rows.new.out c.in_place-rows.ensures.0 c.record_size.result c.record_size.ensures _ refl (moved_in c.finish-last.result c.finish-last.new.state) c.finish-last.ensures _ refl in
    omega (arith, b.0.went.within, c.well_formed)

pub returns : goal.returns
returns c =
    let a = c.args in
    both-finished a.profile (state_in (stand_in a.from a.state.now)) a.part.now a.out.now (moved_in c.in_place-rows.result a.state.now) c.in_place-rows.new.out c.in_place-rows.ensures.0 c.record_size.result c.record_size.ensures _ refl (moved_in c.finish-last.result c.finish-last.new.state) c.finish-last.ensures _ refl
