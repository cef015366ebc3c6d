-- `pieces::calls::take` meets its contract: 1, 9, then what the part brings.
-- Assumes nothing.
use mathlib.Core.Path.{◌≡◌, sym, ap, ◌∙◌}
use mathlib.Core.Bool.{true}
use Rattle.entries.specs.Profiles.{record_size}
use Rattle.entries.specs.declared.Profile.{Profile}
use Rattle.uncut.specs.State.{standing}
use Rattle.pieces.specs.Record.{stand_in, state_in, state_of, moved_in, words_of}
use Rattle.pieces.specs.declared.Marks.{Marks}
use Rattle.pieces.specs.Fitness.{consistent}
use Rattle.pieces.proofs.Calling.{take-one, take-nine, take-stands, take-served, sits-loaded}
use Rattle.pieces.specs.Calls.{refused_as}
use Rattle.pieces.proofs.calls.take.Goals as goal
use Rattle.pieces.proofs.calls.take.Goals.{After-standing_at-stands, Else-not-consistent}

ok : (c : Else-not-consistent) → consistent c.args.state.now ≡ true
ok c = sym c.consistent.ensures ∙ c.if-not-consistent.false

pub returns-then-not-consistent : goal.returns-then-not-consistent
returns-then-not-consistent c =
    let a = c.args in
    take-one a.state.now (sym c.consistent.ensures ∙ c.if-not-consistent.true) a.part.now a.out.now _ (c.nothing.ensures ∙ ap refused_as c.number.ensures)

pub returns-then-out-record_size : goal.returns-then-out-record_size
returns-then-out-record_size c =
    let a = c.args in
    let r = c.record_size.ensures ∙ ap record_size c.profile_of-profile.ensures in
    take-nine a.state.now (ok (goal.at.returns-then-out-record_size c).Else-not-consistent) a.part.now a.out.now (rw r at c.if-out-record_size.true) _ (c.nothing-then-out-record_size.ensures ∙ ap refused_as c.number-then-out-record_size.ensures)

-- what stands, by the words
stands : (c : After-standing_at-stands) → c.standing_at-stands.result ≡ standing (state_of c.args.state.now)
stands c =
    let w = c.args.state.now in
    c.standing_at-stands.ensures w ∙ ap (λ (m : Marks). standing (state_in (stand_in m w))) c.loaded-from.ensures

pub returns-then-stands-ne0 : goal.returns-then-stands-ne0
returns-then-stands-ne0 c =
    let a = c.args in
    let r = c.record_size.ensures ∙ ap record_size c.profile_of-profile.ensures in
    take-stands a.state.now (ok (goal.at.returns-then-stands-ne0 c).Else-not-consistent) a.part.now a.out.now (rw r at c.if-out-record_size.false) _ (stands (goal.at.returns-then-stands-ne0 c).After-standing_at-stands) c.if-stands-ne0.true _ c.nothing-then-stands-ne0.ensures

pub taken_in-moved-requires : goal.taken_in-moved-requires
taken_in-moved-requires c =
    (sits-loaded c.args.state.now c.loaded-from.result c.profile_of-profile.result c.loaded-from.ensures c.profile_of-profile.ensures (ok (goal.at.taken_in-moved-requires c).Else-not-consistent), rw c.record_size.ensures at c.if-out-record_size.false)

pub store-requires : goal.store-requires
store-requires c = (c.taken_in-moved.ensures.0.sits.count, c.taken_in-moved.ensures.0.sits.carried)

pub answer-requires : goal.answer-requires
answer-requires c = c.taken_in-moved.ensures.0.sits.count

pub returns : goal.returns
returns c =
    let a = c.args in
    let p = c.profile_of-profile.ensures in
    let l = c.loaded-from.ensures in
    let t = c.taken_in-moved in
    let w = t.new.state in
    let r = c.record_size.ensures ∙ ap record_size p in
    let stored = c.store.ensures in
    take-served a.state.now (ok (goal.at.returns c).Else-not-consistent) a.part.now a.out.now (rw r at c.if-out-record_size.false) _ (stands (goal.at.returns c).After-standing_at-stands) c.if-stands-ne0.false (moved_in t.result w) t.new.out _ _ (rw (p, l) at t.ensures.0) (rw (p, l) at t.ensures.1) (stored ∙ ap (λ (x : Profile). words_of x (state_in (stand_in t.result.now w))) p) (c.answer.ensures c.profile_of-profile.result w stored)
