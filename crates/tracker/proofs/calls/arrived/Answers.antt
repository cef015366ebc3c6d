-- `tracker::arrived` meets its contract: after the refusals, the word at the place and the name of the first arrival are the definition's.
-- Assumes nothing.
use mathlib.Core.Path.{◌≡◌, refl, sym, ap, ◌∙◌}
use native.Mathlib.Omega.{arith}
use Rattle.std.proofs.lemmas.Result.{err_from_is_err_and}
use Rattle.wire.specs.Refusals.{refusal_number}
use Rattle.tracker.specs.Calls.{place_of, arrived_refusal, with_named}
use Rattle.tracker.proofs.Judging.{call-refused, accepted-next, arrival-small, arrived-told, arrived-good, named-now, named-before, arrival-ignored, arrival-counts}
use Rattle.tracker.proofs.calls.arrived.Goals as goal
use Rattle.tracker.proofs.calls.arrived.Goals.{After-place_of, In_ok-place, then-tracker-eq0, else-tracker-eq0}

-- the number of what the code judged, and that it is 0 where there is a place
told : (c : After-place_of) → refusal_number c.place_of.result ≡ arrived_refusal c.args.tracker.now c.args.object c.args.time c.args.deadline
told c = arrived-told c.args.tracker.now c.args.object c.args.time c.args.deadline _ _ c.place_of.ensures.0 c.arrival_obeys.ensures

accepts : (c : In_ok-place) → 0 ≡ arrived_refusal c.args.tracker.now c.args.object c.args.time c.args.deadline
accepts c =
    let a = c.args in
    ap refusal_number (sym c.in_ok-place.was) ∙ arrived-told a.tracker.now a.object a.time a.deadline _ _ c.place_of.ensures.0 c.arrival_obeys.ensures

pub returns-in_err-place : goal.returns-in_err-place
returns-in_err-place c =
    let e = told (goal.at.returns-in_err-place c).After-place_of in
    let p = err_from_is_err_and c.from_residual.result c.from_residual.ensures.1 in
    rw (p.1, p.2) (ap refusal_number (sym c.in_err-place.was) ∙ e, call-refused _ _ _ c.in_err-place.was e)

pub returns-then-has_arrived : goal.returns-then-has_arrived
returns-then-has_arrived c =
    let a = c.args in
    let e = accepts (goal.at.returns-then-has_arrived c).In_ok-place in
    let q = c.in_ok-place.ensures.1.0 in
    (e, accepted-next (arrived_refusal a.tracker.now a.object a.time a.deadline) _ _ (sym e) (arrival-ignored a.tracker.now (place_of a.tracker.now a.object) _ (rw q at (sym c.has_arrived.ensures ∙ c.if-has_arrived.true))))

pub arrival_word-requires : goal.arrival_word-requires
arrival_word-requires c =
    let a = c.args in
    let g = arrived-good a.tracker.now a.object a.time a.deadline 0 (accepts (goal.at.arrival_word-requires c).In_ok-place) refl in
    omega (arith, (arrival-small a.object a.time a.deadline g.obeys).1)

pub returns : goal.returns
returns c =
    let a = c.args in
    let r = a.tracker.now in
    let e = accepts (goal.at.returns c).In_ok-place in
    let q = c.in_ok-place.ensures.1.0 in
    let named : c.if-tracker-eq0.tracker ≡ with_named r (place_of r a.object) = elim c.if-tracker-eq0.branch [ then-tracker-eq0 w ↦ (rw q at w.tracker-is) ∙ named-now r (place_of r a.object) w.if-tracker-eq0.true | else-tracker-eq0 w ↦ w.tracker-is ∙ named-before r (place_of r a.object) w.if-tracker-eq0.false ] in
    (e, rw q (accepted-next (arrived_refusal r a.object a.time a.deadline) _ _ (sym e) (arrival-counts r (place_of r a.object) _ _ _ (rw q at (sym c.has_arrived.ensures ∙ c.if-has_arrived.false)) named c.arrival_word.ensures)))
