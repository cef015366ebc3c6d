-- `pieces::rest::begin_record` meets its contract, by what is to come.
-- Assumes nothing.
use mathlib.Core.Path.{refl, ap}
use Prim.Native.Nat.{ℕ, ◌+◌}
use mathlib.Core.List.{List}
use lib.ListN.{length}
use Rattle.pieces.specs.Record.{stand_in, held_in, moved_in}
use Rattle.pieces.specs.declared.Walked.{Walked}
use Rattle.pieces.proofs.Loading.{held-long}
use Rattle.pieces.proofs.Endings.{ended-over, ended-behind, ended-full, ended-begun, begin-short}
use Rattle.pieces.proofs.rest.begin_record.Goals as goal

pub returns-then-bytes-eq0 : goal.returns-then-bytes-eq0
returns-then-bytes-eq0 c =
    let a = c.args in
    ended-over a.profile (stand_in a.from a.state.now) a.part.now a.room _ c.requires.0 c.if-bytes-eq0.true (ap (λ (x : Walked). moved_in x a.state.now) c.as_it_was.ensures)

pub returns-then-left-eq0 : goal.returns-then-left-eq0
returns-then-left-eq0 c =
    let a = c.args in
    rw c.number.ensures (ended-behind a.profile (stand_in a.from a.state.now) a.part.now a.room _ c.requires.0 c.requires.1.0 c.if-left-eq0.true c.if-bytes-eq0.false refl)

pub returns-then-room-record_size : goal.returns-then-room-record_size
returns-then-room-record_size c =
    let a = c.args in
    let f = rw c.record_size.ensures at c.if-room-record_size.true in
    ended-full a.profile (stand_in a.from a.state.now) a.part.now a.room _ c.requires.0 c.requires.1.0 c.if-left-eq0.false f (ap (λ (x : Walked). moved_in x a.state.now) c.as_it_was-then-room-record_size.ensures)

pub keep-requires : goal.keep-requires
keep-requires c =
    let a = c.args in
    let h = c.requires in
    let f = rw c.record_size.ensures at c.if-room-record_size.false in
    (begin-short a.profile (stand_in a.from a.state.now) a.part.now a.room h.0 h.1.0 c.if-left-eq0.false f h.1.1).1

pub returns : goal.returns
returns c =
    let a = c.args in
    let h = c.requires in
    let f = rw c.record_size.ensures at c.if-room-record_size.false in
    let l = c.if-left-eq0.false in
    let g = (begin-short a.profile (stand_in a.from a.state.now) a.part.now a.room h.0 h.1.0 l f h.1.1).0 in
    let w = c.keep.new.state in
    let n = c.keep.ensures.0 in
    ended-begun a.profile (stand_in a.from a.state.now) a.part.now a.room (held_in w) _ h.0 h.1.0 l f g (held-long w) c.keep.ensures.1 (ap (λ (x : List ℕ). record { now = record { stage = a.from.stage; left = a.from.left; last = a.from.last; above = a.from.above; count = a.from.count; carried = a.from.carried + length a.part.now; numbers = x; held = held_in w }; taken = length a.part.now; records = 0 }) n)
