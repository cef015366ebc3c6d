-- `pieces::calls::end` meets its contract: 1, then what the end brings.
-- Assumes nothing.
use mathlib.Core.Path.{◌≡◌, sym, ap, ◌∙◌}
use native.Mathlib.Omega.{arith}
use mathlib.Core.Bool.{true}
use Rattle.entries.specs.declared.Profile.{Profile}
use Rattle.uncut.specs.State.{standing, at_end}
use Rattle.pieces.specs.Record.{stand_in, state_in, state_of, words_of}
use Rattle.pieces.specs.Fitness.{consistent}
use Rattle.pieces.specs.declared.Marks.{Marks}
use Rattle.pieces.proofs.Calling.{end-one, end-stands, end-said, sits-loaded}
use Rattle.pieces.specs.Calls.{refused_report}
use Rattle.pieces.proofs.calls.end.Goals as goal
use Rattle.pieces.proofs.calls.end.Goals.{After-standing_at-stands, Else-not-consistent}

ok : (c : Else-not-consistent) → consistent c.args.state.now ≡ true
ok c = sym c.consistent.ensures ∙ c.if-not-consistent.false

pub returns-then-not-consistent : goal.returns-then-not-consistent
returns-then-not-consistent c = end-one c.args.state.now (sym c.consistent.ensures ∙ c.if-not-consistent.true) _ (c.refused.ensures ∙ ap refused_report c.number.ensures)

-- what stands, by the words
stands : (c : After-standing_at-stands) → c.standing_at-stands.result ≡ standing (state_of c.args.state.now)
stands c =
    let w = c.args.state.now in
    c.standing_at-stands.ensures w ∙ ap (λ (m : Marks). standing (state_in (stand_in m w))) c.loaded-from.ensures

pub returns-then-stands-ne0 : goal.returns-then-stands-ne0
returns-then-stands-ne0 c = end-stands c.args.state.now (ok (goal.at.returns-then-stands-ne0 c).Else-not-consistent) _ (stands (goal.at.returns-then-stands-ne0 c).After-standing_at-stands) c.if-stands-ne0.true _ c.refused-then-stands-ne0.ensures

pub store-requires : goal.store-requires
store-requires c =
    let z = sits-loaded c.args.state.now c.loaded-from.result c.profile_of-profile.result c.loaded-from.ensures c.profile_of-profile.ensures (ok (goal.at.store-requires c).Else-not-consistent) in
    (omega (arith, c.ended-next.ensures.1.0, z.count), omega (arith, c.ended-next.ensures.1.1, z.carried))

pub report_at-requires : goal.report_at-requires
report_at-requires c =
    let z = sits-loaded c.args.state.now c.loaded-from.result c.profile_of-profile.result c.loaded-from.ensures c.profile_of-profile.ensures (ok (goal.at.report_at-requires c).Else-not-consistent) in
    omega (arith, c.ended-next.ensures.1.0, z.count)

pub returns : goal.returns
returns c =
    let w = c.args.state.now in
    let e = c.ended-next in
    let p = c.profile_of-profile in
    let stored = c.store.ensures in
    end-said w (ok (goal.at.returns c).Else-not-consistent) _ (stands (goal.at.returns c).After-standing_at-stands) c.if-stands-ne0.false (state_in (stand_in e.result w)) _ _ (e.ensures.0 w ∙ ap (λ (m : Marks). at_end (state_in (stand_in m w))) c.loaded-from.ensures) (c.report_at.ensures p.result w stored) (stored ∙ ap (λ (q : Profile). words_of q (state_in (stand_in e.result w))) p.ensures)
