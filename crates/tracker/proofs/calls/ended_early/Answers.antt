-- `tracker::ended_early` meets its contract: after the refusals, the word at the place is the definition's.
-- Assumes nothing.
use mathlib.Core.Path.{◌≡◌, refl, sym, ap, ◌∙◌}
use native.Mathlib.Omega.{arith}
use Rattle.std.proofs.lemmas.Result.{err_from_is_err_and}
use Rattle.wire.specs.Refusals.{refusal_number}
use Rattle.tracker.specs.Calls.{place_of, ended_refusal}
use Rattle.tracker.proofs.Judging.{call-refused, accepted-next, both_small, ended-told, ended-good, end-ignored, end-counts}
use Rattle.tracker.proofs.calls.ended_early.Goals as goal
use Rattle.tracker.proofs.calls.ended_early.Goals.{After-place_of, In_ok-place}

-- the number of what the code judged, and that it is 0 where there is a place
told : (c : After-place_of) → refusal_number c.place_of.result ≡ ended_refusal c.args.tracker.now c.args.object c.args.time
told c = ended-told c.args.tracker.now c.args.object c.args.time _ _ c.place_of.ensures.0 c.both_obey.ensures

accepts : (c : In_ok-place) → 0 ≡ ended_refusal c.args.tracker.now c.args.object c.args.time
accepts c =
    let a = c.args in
    ap refusal_number (sym c.in_ok-place.was) ∙ ended-told a.tracker.now a.object a.time _ _ c.place_of.ensures.0 c.both_obey.ensures

pub returns-in_err-place : goal.returns-in_err-place
returns-in_err-place c =
    let e = told (goal.at.returns-in_err-place c).After-place_of in
    let p = err_from_is_err_and c.from_residual.result c.from_residual.ensures.1 in
    rw (p.1, p.2) (ap refusal_number (sym c.in_err-place.was) ∙ e, call-refused _ _ _ c.in_err-place.was e)

pub returns-then-state-ne-NOTHING : goal.returns-then-state-ne-NOTHING
returns-then-state-ne-NOTHING c =
    let a = c.args in
    let r = a.tracker.now in
    let e = accepts (goal.at.returns-then-state-ne-NOTHING c).In_ok-place in
    let q = c.in_ok-place.ensures.1.0 in
    (e, accepted-next (ended_refusal r a.object a.time) _ _ (sym e) (end-ignored r (place_of r a.object) _ (λ n. c.if-state-ne-NOTHING.true ((rw q at c.state.ensures) ∙ n))))

pub overflow_add-tracker : goal.overflow_add-tracker
overflow_add-tracker c =
    let a = c.args in
    let g = ended-good a.tracker.now a.object a.time 0 (accepts (goal.at.overflow_add-tracker c).In_ok-place) refl in
    omega (arith, (both_small a.object a.time g.obeys).1)

pub returns : goal.returns
returns c =
    let a = c.args in
    let r = a.tracker.now in
    let e = accepts (goal.at.returns c).In_ok-place in
    let q = c.in_ok-place.ensures.1.0 in
    (e, rw q (accepted-next (ended_refusal r a.object a.time) _ _ (sym e) (end-counts r (place_of r a.object) _ (rw q at (sym c.state.ensures ∙ c.if-state-ne-NOTHING.false)))))
