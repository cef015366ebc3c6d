-- `wire::numbers::read_form` meets its contract: the field is read, and what stands above the form's numbers is the code.
-- Assumes nothing.
use native.Mathlib.Omega.{arith}
use Rattle.wire.proofs.Lengths.{len-le, room-le, room_of_lem}
use Rattle.wire.proofs.Reading.{form-ends, form-value}
use Rattle.wire.proofs.numbers.read_form.Goals as goal

pub read_fixed-requires : goal.read_fixed-requires
read_fixed-requires c = omega (arith, len-le _ c.requires)

pub returns-in_default : goal.returns-in_default
returns-in_default c = form-ends _ _ _ _ c.form_at-f.ensures.0 c.read_fixed.ensures c.in_default.is

pub overflow_add-result : goal.overflow_add-result
overflow_add-result c = omega (arith, room_of_lem _ _ c.form_at-f.ensures.1, room-le _ c.requires)

pub returns : goal.returns
returns c = form-value _ _ _ _ c.form_at-f.ensures.0 c.read_fixed.ensures _ c.form_at-f.ensures.1 c.in-Ok.is
