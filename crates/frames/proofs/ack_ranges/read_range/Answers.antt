-- `frames::ack_ranges::read_range` meets its contract: one step of the definition for each field and each test.
-- Assumes nothing.
use mathlib.Core.Path.{sym, ◌∙◌}
use native.Mathlib.Omega.{arith}
use Rattle.wire.proofs.Accepted.{accepted-small}
use Rattle.frames.proofs.Ranges.{some}
use Rattle.frames.proofs.Steps.{length_cut, length-low, last, gap-cut, gap-low, more}
use Rattle.frames.proofs.ack_ranges.read_range.Goals as goal

pub returns-in_default : goal.returns-in_default
returns-in_default c =
    length_cut _ _ _ _ c.read_number.ensures c.in_default.is

pub returns-then-largest-len : goal.returns-then-largest-len
returns-then-largest-len c =
    length-low _ _ _ _ c.read_number.ensures c.in-Ok.is (omega (arith, c.if-largest-len.true))

pub returns-then-left-eq0 : goal.returns-then-left-eq0
returns-then-left-eq0 c =
    last _ _ _ _ c.read_number.ensures c.in-Ok.is c.if-left-eq0.true c.if-largest-len.false

pub returns-in_default-read_number : goal.returns-in_default-read_number
returns-in_default-read_number c =
    gap-cut _ _ _ _ c.read_number.ensures c.in-Ok.is c.read_number-2.ensures (some c.if-left-eq0.false) c.if-largest-len.false c.in_default-read_number.is

pub overflow_add-gap : goal.overflow_add-gap
overflow_add-gap c =
    let n = c.in-Ok.field-0.next in
    omega (arith, accepted-small _ n _ _ (λ i. (c.type_inv.s i).fits) (sym c.read_number-2.ensures ∙ c.in-Ok-read_number.is))

pub returns-then-smallest-gap : goal.returns-then-smallest-gap
returns-then-smallest-gap c =
    gap-low _ _ _ _ c.read_number.ensures c.in-Ok.is c.read_number-2.ensures (some c.if-left-eq0.false) c.if-largest-len.false c.in-Ok-read_number.is (omega (arith, c.if-smallest-gap.true))

pub returns : goal.returns
returns c =
    more _ _ _ _ c.read_number.ensures c.in-Ok.is c.read_number-2.ensures (some c.if-left-eq0.false) c.if-largest-len.false c.in-Ok-read_number.is (omega (arith, c.if-smallest-gap.false))
