-- `pieces::rest::taken_in` meets its contract: two steps, one after the other.
-- Assumes nothing.
use mathlib.Core.Path.{refl}
use native.Mathlib.Omega.{arith}
use mathlib.Core.List.{[]}
use Rattle.pieces.specs.Record.{state_in, stand_in, moved_in}
use Rattle.pieces.proofs.Combining.{both-headed, past-lent}
use Rattle.pieces.proofs.rest.taken_in.Goals as goal

pub slice_bounds-through_rows-count : goal.slice_bounds-through_rows-count
slice_bounds-through_rows-count c = (c.through_header-head.ensures.0 []).went.within

pub slice_bounds-through_rows-start : goal.slice_bounds-through_rows-start
slice_bounds-through_rows-start c = (c.through_header-head.ensures.0 []).went.within

pub through_rows-rest-requires : goal.through_rows-rest-requires
through_rows-rest-requires c =
    let a = c.args in
    let t = c.through_header-head in
    ((t.ensures.0 []).sits, (past-lent (state_in (stand_in t.result.now t.new.state)) a.part.now t.result.taken t.ensures.1, c.requires.1))

pub overflow_add-result : goal.overflow_add-result
overflow_add-result c =
    let a = c.args in
    let b = both-headed a.profile (state_in (stand_in a.from a.state.now)) a.part.now a.out.now (moved_in c.through_header-head.result c.through_header-head.new.state) c.through_header-head.ensures.0 (moved_in c.through_rows-rest.result c.through_rows-rest.new.state) c.through_rows-rest.new.out c.through_rows-rest.ensures _ refl in
    omega (arith, b.0.went.within, c.well_formed)

pub returns : goal.returns
returns c =
    let a = c.args in
    both-headed a.profile (state_in (stand_in a.from a.state.now)) a.part.now a.out.now (moved_in c.through_header-head.result c.through_header-head.new.state) c.through_header-head.ensures.0 (moved_in c.through_rows-rest.result c.through_rows-rest.new.state) c.through_rows-rest.new.out c.through_rows-rest.ensures _ refl
