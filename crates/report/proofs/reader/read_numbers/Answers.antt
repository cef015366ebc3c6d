-- `report::read_numbers` meets its contract. The loop's invariant: reading on from here, after the numbers so far, gives the whole reading.
-- Assumes nothing.
use mathlib.Core.Path.{◌≡◌, refl, sym, subst, ◌∙◌}
use Prim.Native.Nat.{ℕ, ◌≤◌, ◌<◌, zero-le}
use native.Mathlib.Omega.{arith}
use lib.ListN.{take, length-set}
use lib.Seq.{length-take-le}
use Rattle.std.proofs.lemmas.Result.{err_from_is_err_and}
use Rattle.wire.specs.declared.Refusal.TheVariants.{Ends}
use Rattle.wire.proofs.Accepted.{accepted-within}
use Rattle.report.specs.Header.{wanted_of}
use Rattle.report.specs.Limits.{most_numbers}
use Rattle.report.specs.Reader.{Whole, read_numbers}
use Rattle.report.proofs.Whole.{whole-now, ends_now, refused-now, more-now, full-now, found-whole, found-stopped}
use Rattle.report.proofs.reader.read_numbers.Goals as goal

pub loop-count-init : goal.loop-count-init
loop-count-init c = (omega arith, (refl, (zero-le, refl)))

pub slice_bounds-numbers-end : goal.slice_bounds-numbers-end
slice_bounds-numbers-end c = omega (arith, c.loop-count.invariant)

pub slice_bounds-wanted-end : goal.slice_bounds-wanted-end
slice_bounds-wanted-end c = sym (length-take-le _ _ (omega (arith, c.loop-count.invariant)))

pub returns-then-whole-count : goal.returns-then-whole-count
returns-then-whole-count c =
    let l = c.loop-count in
    let p = c.args.profile in
    let s = c.args.s.now in
    let w : wanted_of p (take l.count l.numbers) ≤ l.count = rw c.wanted-whole.ensures at c.if-whole-count.true in
    (found-whole (record { next = l.at; count = l.count; numbers = l.numbers }) ∙ whole-now p s l.numbers l.at l.count (read_numbers p s) c.loop-count-test.true l.invariant.1.0 l.invariant.1.1.1 w, (l.invariant.1.1.0, l.invariant.0))

pub returns-in_default : goal.returns-in_default
returns-in_default c =
    let l = c.loop-count in
    let p = c.args.profile in
    let s = c.args.s.now in
    let w : l.count < wanted_of p (take l.count l.numbers) = rw c.wanted-whole.ensures at c.if-whole-count.false in
    let e = sym c.read_number.ensures ∙ c.in_default.is in
    (found-stopped Ends ∙ ends_now p s l.numbers l.at l.count (read_numbers p s) c.loop-count-test.true l.invariant.1.0 l.invariant.1.1.1 w e, tt)

pub slice_bounds-numbers-end-in-loop-count : goal.slice_bounds-numbers-end-in-loop-count
slice_bounds-numbers-end-in-loop-count c = omega (arith, c.loop-count.invariant)

pub slice_bounds-judge_field-end : goal.slice_bounds-judge_field-end
slice_bounds-judge_field-end c = sym (length-take-le _ _ (omega (arith, c.loop-count.invariant)))

pub returns-in_err-judge_field : goal.returns-in_err-judge_field
returns-in_err-judge_field c =
    let l = c.loop-count in
    let p = c.args.profile in
    let s = c.args.s.now in
    let w : l.count < wanted_of p (take l.count l.numbers) = rw c.wanted-whole.ensures at c.if-whole-count.false in
    let e = sym c.read_number.ensures ∙ c.in-Ok.is in
    let q = err_from_is_err_and c.from_residual.result c.from_residual.ensures.1 in
    rw (q.1, q.2) (found-stopped _ ∙ refused-now p s l.numbers l.at l.count (read_numbers p s) c.loop-count-test.true l.invariant.1.0 l.invariant.1.1.1 _ _ c.judge_field.result _ w e c.judge_field.ensures c.in_err-judge_field.was, tt)

pub offset_bounds-numbers-count : goal.offset_bounds-numbers-count
offset_bounds-numbers-count c = omega (arith, c.loop-count-test.true)

pub bounds-numbers-count : goal.bounds-numbers-count
bounds-numbers-count c = c.loop-count-test.true

pub loop-count-smaller : goal.loop-count-smaller
loop-count-smaller c = omega (arith, c.loop-count-test.true)

pub loop-count-preserved : goal.loop-count-preserved
loop-count-preserved c =
    let l = c.loop-count in
    let p = c.args.profile in
    let s = c.args.s.now in
    let o = c.shared_slice_known-1.given in
    let h = c.loop-count-test.true in
    let w : l.count < wanted_of p (take l.count l.numbers) = rw c.wanted-whole.ensures at c.if-whole-count.false in
    let e = sym c.read_number.ensures ∙ c.in-Ok.is in
    (omega (arith, h), (simp length-set l.invariant.1.0, (accepted-within s l.at _ _ (λ i. (o i).fits) e, more-now p s l.numbers l.at l.count (read_numbers p s) h l.invariant.1.0 l.invariant.1.1.1 _ _ c.judge_field.result _ w e c.judge_field.ensures c.in_ok-judge_field.was)))

pub returns : goal.returns
returns c =
    let l = c.loop-count in
    let p = c.args.profile in
    let s = c.args.s.now in
    let e : l.count ≡ most_numbers = omega (arith, c.loop-count-test.false, l.invariant.0) in
    let whole = full-now p s l.numbers l.at l.count (read_numbers p s) c.loop-count-test.false l.invariant.1.1.1 in
    (found-whole (record { next = l.at; count = most_numbers; numbers = l.numbers }) ∙ subst (λ (n : ℕ). Whole (take n l.numbers) l.at ≡ read_numbers p s) e whole, (l.invariant.1.1.0, omega arith))
