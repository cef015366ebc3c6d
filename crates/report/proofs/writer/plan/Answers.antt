-- `report::plan` meets its contract: each branch is one judgement of the definition, in the paper's order.
-- Assumes nothing.
use mathlib.Core.Path.{refl, sym, ◌∙◌}
use native.Mathlib.Omega.{arith}
use Rattle.std.proofs.lemmas.Result.{err_from_is_err_and}
use Rattle.wire.proofs.Writing.{length-bytes}
use Rattle.entries.specs.Profiles.{record_size}
use Rattle.report.proofs.Planning.{plan-refused, plan-fault, plan-above, plan-broken, plan-room, plan-done-by, plan-fits}
use Rattle.report.proofs.writer.plan.Goals as goal

pub returns-in_err-head : goal.returns-in_err-head
returns-in_err-head c =
    let a = c.args in
    let p = err_from_is_err_and c.from_residual.result c.from_residual.ensures.1 in
    rw (p.1, p.2) (plan-refused a.profile a.numbers.now a.entries.now a.maximum a.room (sym c.in_err-head.was ∙ c.length_of.ensures))

pub returns-in_err-first_fault : goal.returns-in_err-first_fault
returns-in_err-first_fault c =
    let a = c.args in
    let b = length-bytes a.numbers.now _ (sym c.in_ok-head.was ∙ c.length_of.ensures) in
    let p = err_from_is_err_and c.from_residual-in_err-first_fault.result c.from_residual-in_err-first_fault.ensures.1 in
    rw (p.1, p.2) (plan-fault a.profile a.numbers.now a.entries.now a.maximum a.room b.0 (sym c.in_err-first_fault.was ∙ c.first_fault.ensures))

pub returns-then-maximum : goal.returns-then-maximum
returns-then-maximum c =
    let a = c.args in
    let b = length-bytes a.numbers.now _ (sym c.in_ok-head.was ∙ c.length_of.ensures) in
    let z = sym c.first_fault.ensures ∙ c.in_ok-first_fault.was in
    plan-above a.profile a.numbers.now a.entries.now a.maximum a.room b.0 z c.if-maximum.true

pub returns-in_err-entries_fault : goal.returns-in_err-entries_fault
returns-in_err-entries_fault c =
    let a = c.args in
    let b = length-bytes a.numbers.now _ (sym c.in_ok-head.was ∙ c.length_of.ensures) in
    let z = sym c.first_fault.ensures ∙ c.in_ok-first_fault.was in
    let p = err_from_is_err_and c.from_residual-in_err-entries_fault.result c.from_residual-in_err-entries_fault.ensures.1 in
    rw (p.1, p.2) (plan-broken a.profile a.numbers.now a.entries.now a.maximum a.room b.0 z c.if-maximum.false (sym c.in_err-entries_fault.was ∙ c.entries_fault.ensures))

pub returns-then-room-head : goal.returns-then-room-head
returns-then-room-head c =
    let a = c.args in
    let b = length-bytes a.numbers.now _ (sym c.in_ok-head.was ∙ c.length_of.ensures) in
    let z = sym c.first_fault.ensures ∙ c.in_ok-first_fault.was in
    let y = sym c.entries_fault.ensures ∙ c.in_ok-entries_fault.was in
    plan-room a.profile a.numbers.now a.entries.now a.maximum a.room b.0 z c.if-maximum.false y (omega (arith, b.1, c.if-room-head.true))

pub overflow_add-result : goal.overflow_add-result
overflow_add-result c =
    let p = c.args.profile in
    let f = plan-fits p (record_size p) refl _ _ _ _ _ _ c.if-room-head.false c.fitting-kept.ensures c.width.ensures in
    omega (arith, f, c.ranges.room)

pub overflow_mul-result : goal.overflow_mul-result
overflow_mul-result c =
    let f = plan-fits c.args.profile c.record_size.result c.record_size.ensures _ _ _ _ _ _ c.if-room-head.false c.fitting-kept.ensures c.width.ensures in
    omega (arith, f, c.ranges.room)

pub overflow_add-result-2 : goal.overflow_add-result-2
overflow_add-result-2 c =
    let f = plan-fits c.args.profile c.record_size.result c.record_size.ensures _ _ _ _ _ _ c.if-room-head.false c.fitting-kept.ensures c.width.ensures in
    omega (arith, f, c.ranges.room)

pub returns : goal.returns
returns c =
    let a = c.args in
    let b = length-bytes a.numbers.now _ (sym c.in_ok-head.was ∙ c.length_of.ensures) in
    let z = sym c.first_fault.ensures ∙ c.in_ok-first_fault.was in
    let y = sym c.entries_fault.ensures ∙ c.in_ok-entries_fault.was in
    let r = c.records_in-given in
    let s = c.record_size in
    plan-done-by a.profile a.numbers.now a.entries.now a.maximum a.room b.0 z c.if-maximum.false y r.result s.result r.ensures s.ensures _ _ _ b.1 c.if-room-head.false c.fitting-kept.ensures c.width.ensures
