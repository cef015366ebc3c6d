-- `events::read_event` meets its contract: its two fields end where the record is short, and otherwise are what the definition says.
-- Assumes nothing.
use native.Mathlib.Omega.{arith}
use Rattle.events.proofs.Reading.{field-ends, field_is, short, whole}
use Rattle.events.proofs.calls.read_event.Goals as goal

pub returns-in_default : goal.returns-in_default
returns-in_default c = short _ (omega (arith, (field-ends 8 _ 8 c.read_fixed8.ensures c.in_default.is).0))

pub returns-in_default-read_fixed8 : goal.returns-in_default-read_fixed8
returns-in_default-read_fixed8 c = short _ (omega (arith, (field-ends 8 _ 16 c.read_fixed8-2.ensures c.in_default-read_fixed8.is).0))

pub bounds-s-0 : goal.bounds-s-0
bounds-s-0 c = omega (arith, (field_is 8 _ 16 c.read_fixed8-2.ensures c.in-Ok-read_fixed8.is).0)

pub bounds-s-1 : goal.bounds-s-1
bounds-s-1 c = omega (arith, (field_is 8 _ 16 c.read_fixed8-2.ensures c.in-Ok-read_fixed8.is).0)

pub returns : goal.returns
returns c =
    let number = field_is 8 _ 8 c.read_fixed8.ensures c.in-Ok.is in
    let time = field_is 8 _ 16 c.read_fixed8-2.ensures c.in-Ok-read_fixed8.is in
    whole _ time.0 number.1 time.1
