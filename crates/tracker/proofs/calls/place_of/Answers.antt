-- `tracker::calls::place_of` meets its contract: its tests are the refusals in their order.
-- Assumes nothing.
use Prim.Native.Nat.{◌-◌}
use mathlib.Core.Path.{refl, sym, ◌∙◌}
use borrow.Author.Tests.{le-leb, lt-leb, lt-ltb, le-ltb}
use Rattle.tracker.specs.Known.{most_objects}
use Rattle.tracker.specs.Record.{first_of}
use Rattle.tracker.specs.Calls.{object_refusal}
use Rattle.tracker.proofs.calls.place_of.Goals as goal

pub returns-then-not-consistent : goal.returns-then-not-consistent
unfolding object_refusal
returns-then-not-consistent c = (rw (sym c.consistent.ensures ∙ c.if-not-consistent.true), tt)

pub returns-then-not-obey : goal.returns-then-not-obey
unfolding object_refusal
returns-then-not-obey c = (rw (sym c.consistent.ensures ∙ c.if-not-consistent.false, c.if-not-obey.true), tt)

pub returns-then-object-first : goal.returns-then-object-first
unfolding object_refusal
returns-then-object-first c =
    let a = c.args in
    (rw (sym c.consistent.ensures ∙ c.if-not-consistent.false, c.if-not-obey.false, lt-leb (first_of a.tracker.now) a.object c.if-object-first.true), tt)

pub returns-then-place : goal.returns-then-place
unfolding object_refusal
returns-then-place c =
    let a = c.args in
    (rw (sym c.consistent.ensures ∙ c.if-not-consistent.false, c.if-not-obey.false, le-leb (first_of a.tracker.now) a.object c.if-object-first.false, lt-ltb (a.object - first_of a.tracker.now) most_objects c.if-place.true), (refl, c.if-place.true))

pub returns : goal.returns
unfolding object_refusal
returns c =
    let a = c.args in
    (rw (sym c.consistent.ensures ∙ c.if-not-consistent.false, c.if-not-obey.false, le-leb (first_of a.tracker.now) a.object c.if-object-first.false, le-ltb (a.object - first_of a.tracker.now) most_objects c.if-place.false), tt)
