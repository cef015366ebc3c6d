-- `frames::frequency_frame::read_behind` meets its contract: the type is another one, or there is one step of the definition for each field.
-- Assumes nothing.
use mathlib.Core.Path.{refl}
use Rattle.wire.proofs.Reading.{stop, next, yes, no}
use Rattle.frames.proofs.Types.{only, another}
use Rattle.frames.proofs.frequency_frame.read_behind.Goals as goal

pub returns-then-kind-ne-ACK_FREQUENCY : goal.returns-then-kind-ne-ACK_FREQUENCY
returns-then-kind-ne-ACK_FREQUENCY c = no _ _ (another c.if-kind-ne-ACK_FREQUENCY.true) refl

pub returns-in_default : goal.returns-in_default
returns-in_default c =
    yes _ _ (only c.if-kind-ne-ACK_FREQUENCY.false)
    (stop _ _ c.in_default.is c.read_number.ensures)

pub returns-in_default-read_number : goal.returns-in_default-read_number
returns-in_default-read_number c =
    yes _ _ (only c.if-kind-ne-ACK_FREQUENCY.false)
    (next _ _ c.in-Ok.is c.read_number.ensures
    (stop _ _ c.in_default-read_number.is c.read_number-2.ensures))

pub returns-in_default-read_number-2 : goal.returns-in_default-read_number-2
returns-in_default-read_number-2 c =
    yes _ _ (only c.if-kind-ne-ACK_FREQUENCY.false)
    (next _ _ c.in-Ok.is c.read_number.ensures
    (next _ _ c.in-Ok-read_number.is c.read_number-2.ensures
    (stop _ _ c.in_default-read_number-2.is c.read_number-3.ensures)))

pub returns-in_default-read_number-3 : goal.returns-in_default-read_number-3
returns-in_default-read_number-3 c =
    yes _ _ (only c.if-kind-ne-ACK_FREQUENCY.false)
    (next _ _ c.in-Ok.is c.read_number.ensures
    (next _ _ c.in-Ok-read_number.is c.read_number-2.ensures
    (next _ _ c.in-Ok-read_number-2.is c.read_number-3.ensures
    (stop _ _ c.in_default-read_number-3.is c.read_number-4.ensures))))

pub returns : goal.returns
returns c =
    yes _ _ (only c.if-kind-ne-ACK_FREQUENCY.false)
    (next _ _ c.in-Ok.is c.read_number.ensures
    (next _ _ c.in-Ok-read_number.is c.read_number-2.ensures
    (next _ _ c.in-Ok-read_number-2.is c.read_number-3.ensures
    (next _ _ c.in-Ok-read_number-3.is c.read_number-4.ensures refl))))
