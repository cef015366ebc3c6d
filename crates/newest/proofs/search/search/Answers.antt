-- `newest::search` meets its contract. The loop's invariant: searching on from here gives the answer of the whole search.
-- Assumes nothing.
use mathlib.Core.Path.{refl, sym, ◌∙◌}
use native.Mathlib.Omega.{arith}
use Rattle.newest.proofs.Searching.{stop-broken, stop-order, stop-found, more-record, none_left}
use Rattle.newest.proofs.search.search.Goals as goal

pub loop-index-init : goal.loop-index-init
loop-index-init c = refl

pub returns-in_default : goal.returns-in_default
returns-in_default c =
    let a = c.args in
    let l = c.loop-index in
    stop-broken a.profile a.records.now l.index l.top l.next _ _ (omega (arith, c.loop-index-test.true)) c.entry_at.ensures l.invariant _ c.in_default.is

pub returns-then-not-below : goal.returns-then-not-below
returns-then-not-below c =
    let a = c.args in
    let l = c.loop-index in
    stop-order a.profile a.records.now l.index l.top l.next _ _ (omega (arith, c.loop-index-test.true)) c.entry_at.ensures l.invariant
    _ c.in-Ok.is (sym c.below.ensures ∙ c.if-not-below.true)

pub returns-then-is_lost : goal.returns-then-is_lost
returns-then-is_lost c =
    let a = c.args in
    let l = c.loop-index in
    stop-found a.profile a.records.now l.index l.top l.next _ _ (omega (arith, c.loop-index-test.true)) c.entry_at.ensures l.invariant
    _ c.in-Ok.is (sym c.below.ensures ∙ c.if-not-below.false) (sym c.is_lost.ensures ∙ c.if-is_lost.true)

pub loop-index-preserved : goal.loop-index-preserved
loop-index-preserved c =
    let a = c.args in
    let l = c.loop-index in
    more-record a.profile a.records.now l.index l.top l.next _ _ (omega (arith, c.loop-index-test.true)) c.entry_at.ensures l.invariant
    _ c.in-Ok.is (sym c.below.ensures ∙ c.if-not-below.false) (sym c.is_lost.ensures ∙ c.if-is_lost.false)

pub returns : goal.returns
returns c =
    let a = c.args in
    let l = c.loop-index in
    none_left a.profile a.records.now l.index l.top l.next c.loop-index-test.false ∙ l.invariant
