-- `tracker::records::put_entries` meets its contract. The loop's invariant: the entries to come, laid over the buffer as it is, give the whole.
-- Assumes nothing.
use native.Mathlib.Nat.{le_refl}
use mathlib.Core.Path.{◌≡◌, sym, ap, ◌∙◌}
use native.Mathlib.Omega.{arith}
use Rattle.tracker.specs.Record.{word_at, known}
use Rattle.entries.specs.Entries.{status_number}
use Rattle.tracker.specs.Status.{no_status, code_of}
use Rattle.tracker.specs.Counting.{statuses_by}
use Rattle.tracker.proofs.Fates.{age-since}
use Rattle.tracker.proofs.Storing.{status-known, laying-starts, lay-none, room-here, lay-one, rest-done}
use Rattle.tracker.proofs.records.put_entries.Goals as goal
use Rattle.tracker.proofs.records.put_entries.Goals.{in-Some, in_default}

pub loop-place-init : goal.loop-place-init
loop-place-init c =
    let a = c.args in
    laying-starts (statuses_by a.end a.tracker.now) (known a.tracker.now) a.time a.buf.now c.requires.1

pub bounds-tracker-place : goal.bounds-tracker-place
bounds-tracker-place c = omega arith

pub overflow_add-first : goal.overflow_add-first
overflow_add-first c = omega (arith, c.requires.0, c.loop-place-test.true)

-- room for the record, where the object has a status
pub put_entry-requires : goal.put_entry-requires
put_entry-requires c =
    let l = c.loop-place in
    let a = c.args in
    let r = a.tracker.now in
    let x = c.in-Some.status in
    let e : status_number x ≡ statuses_by a.end r l.place = ap code_of (sym c.in-Some.is) ∙ c.status.ensures in
    let m = room-here (statuses_by a.end r) (known r) a.time l.place c.loop-place-test.true e l.invariant (status-known x) (c.age-age.ensures.0 ∙ age-since (word_at r l.place) _ a.time _ e (status-known x)) in
    (omega (arith, m), c.age-age.ensures.1)

pub overflow_add-at : goal.overflow_add-at
overflow_add-at c =
    let l = c.loop-place in
    let a = c.args in
    let r = a.tracker.now in
    let x = c.in-Some.status in
    let e : status_number x ≡ statuses_by a.end r l.place = ap code_of (sym c.in-Some.is) ∙ c.status.ensures in
    let m = room-here (statuses_by a.end r) (known r) a.time l.place c.loop-place-test.true e l.invariant (status-known x) (c.age-age.ensures.0 ∙ age-since (word_at r l.place) _ a.time _ e (status-known x)) in
    omega (arith, m, l.invariant.same, c.well_formed)

pub loop-place-preserved : goal.loop-place-preserved
loop-place-preserved c =
    let l = c.loop-place in
    let a = c.args in
    let r = a.tracker.now in
    let h = c.loop-place-test.true in
    let st = statuses_by a.end r in
    elim c.match-status.branch [
      | in-Some w ↦
          let x = w.in-Some.status in
          let e : status_number x ≡ st l.place = ap code_of (sym w.in-Some.is) ∙ c.status.ensures in
          lay-one st (known r) a.time l.place h e l.invariant (status-known x) (w.age-age.ensures.0 ∙ age-since (word_at r l.place) _ a.time _ e (status-known x)) (w.buf-is ∙ w.put_entry.ensures) w.at-is
      | in_default w ↦
          let e : no_status ≡ st l.place = ap code_of (sym w.in_default.is) ∙ c.status.ensures in
          lay-none st (known r) a.time l.place h e l.invariant (le_refl no_status) w.buf-is w.at-is
    ]

pub shape_of-buf : goal.shape_of-buf
shape_of-buf c = c.loop-place.invariant.same

pub returns : goal.returns
returns c =
    let l = c.loop-place in
    let a = c.args in
    sym (rest-done (statuses_by a.end a.tracker.now) (known a.tracker.now) a.time l.place l.buf l.at c.loop-place-test.false) ∙ l.invariant.gives
