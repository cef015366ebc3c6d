-- `tracker::record::none_arrived` meets its contract. The loop's invariant: the answer from here is the answer from the start.
-- Assumes nothing.
use mathlib.Core.Path.{refl, sym, ◌∙◌}
use native.Mathlib.Omega.{arith}
use Rattle.tracker.proofs.Arrivals.{none-stops, none-next, none_done}
use Rattle.tracker.proofs.record.none_arrived.Goals as goal

pub loop-place-init : goal.loop-place-init
loop-place-init c = refl

pub bounds-tracker-place : goal.bounds-tracker-place
bounds-tracker-place c = omega arith

pub returns-then-has_arrived : goal.returns-then-has_arrived
returns-then-has_arrived c =
    let l = c.loop-place in
    sym (none-stops c.args.tracker.now l.place c.loop-place-test.true (sym c.has_arrived.ensures ∙ c.if-has_arrived.true)) ∙ l.invariant

pub loop-place-preserved : goal.loop-place-preserved
loop-place-preserved c =
    let l = c.loop-place in
    let h = c.loop-place-test.true in
    none-next c.args.tracker.now l.place h (sym c.has_arrived.ensures ∙ c.if-has_arrived.false) ∙ l.invariant

pub returns : goal.returns
returns c = sym (none_done c.args.tracker.now c.loop-place.place c.loop-place-test.false) ∙ c.loop-place.invariant
