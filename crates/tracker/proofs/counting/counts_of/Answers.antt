-- `tracker::counting::counts_of` meets its contract. The loop's invariant: the counts from here are the counts from the start.
-- Assumes nothing.
use Prim.Native.Nat.{zero-le}
use mathlib.Core.Path.{refl, sym, ◌∙◌}
use native.Mathlib.Omega.{arith}
use Rattle.tracker.specs.Status.{code_of}
use Rattle.tracker.proofs.Walks.{counts-next, counts-done, counted-within}
use Rattle.tracker.proofs.counting.counts_of.Goals as goal

pub loop-place-init : goal.loop-place-init
loop-place-init c = (record { received = zero-le; late = zero-le; missing = zero-le; partial = zero-le }, refl)

pub bounds-tracker-place : goal.bounds-tracker-place
bounds-tracker-place c = omega arith

pub counted-counts-requires : goal.counted-counts-requires
counted-counts-requires c =
    let w = c.loop-place.invariant.0 in
    (omega (arith, w.received), (omega (arith, w.late), (omega (arith, w.missing), omega (arith, w.partial))))

pub loop-place-preserved : goal.loop-place-preserved
loop-place-preserved c =
    let l = c.loop-place in
    let r = c.args.tracker.now in (
      counted-within l.counts _ (code_of c.status.result) l.place l.invariant.0 c.counted-counts.ensures,
      counts-next r l.place _ l.counts _ (code_of c.status.result) c.loop-place-test.true c.counted-counts.ensures c.status.ensures ∙ l.invariant.1,
    )

pub returns : goal.returns
returns c =
    let l = c.loop-place in
    sym (counts-done c.args.tracker.now l.place _ l.counts c.loop-place-test.false) ∙ l.invariant.1
