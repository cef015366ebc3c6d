-- `tracker::counting::spread_of` meets its contract. The loop's invariant: the spread from here is the spread from the start.
-- Assumes nothing.
use Prim.Native.Nat.{zero-le}
use mathlib.Core.Path.{refl, sym, ◌∙◌}
use native.Mathlib.Omega.{arith}
use Rattle.tracker.specs.Record.{word_at}
use Rattle.tracker.proofs.Walks.{spread-next, spread-done, widened_small}
use Rattle.tracker.proofs.counting.spread_of.Goals as goal

pub loop-place-init : goal.loop-place-init
loop-place-init c = (zero-le, refl)

pub bounds-tracker-place : goal.bounds-tracker-place
bounds-tracker-place c = omega arith

pub loop-place-preserved : goal.loop-place-preserved
loop-place-preserved c =
    let l = c.loop-place in
    let r = c.args.tracker.now in
    (widened_small l.spread _ (word_at r l.place) l.place l.invariant.0 c.widened-spread.ensures, spread-next r l.place l.spread _ c.loop-place-test.true c.widened-spread.ensures ∙ l.invariant.1)

pub returns : goal.returns
returns c =
    let l = c.loop-place in
    (sym (spread-done c.args.tracker.now l.place l.spread c.loop-place-test.false) ∙ l.invariant.1, omega arith)
