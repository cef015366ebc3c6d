-- `frames::ack_header::read_header_at` meets its contract: the type is another one, or there is one step of the definition for each field.
-- Assumes nothing.
use mathlib.Core.Path.{refl, sym, ◌∙◌}
use Rattle.wire.proofs.Reading.{stop, next, yes, no}
use Rattle.frames.proofs.ack_header.read_header_at.Goals as goal

pub returns-then-not-is_ack : goal.returns-then-not-is_ack
returns-then-not-is_ack c = no _ _ (sym c.is_ack.ensures ∙ c.if-not-is_ack.true) refl

pub returns-in_default : goal.returns-in_default
returns-in_default c =
    yes _ _ (sym c.is_ack.ensures ∙ c.if-not-is_ack.false)
    (stop _ _ c.in_default.is c.read_number.ensures)

pub returns-in_default-read_number : goal.returns-in_default-read_number
returns-in_default-read_number c =
    yes _ _ (sym c.is_ack.ensures ∙ c.if-not-is_ack.false)
    (next _ _ c.in-Ok.is c.read_number.ensures
    (stop _ _ c.in_default-read_number.is c.read_number-2.ensures))

pub returns-in_default-read_number-2 : goal.returns-in_default-read_number-2
returns-in_default-read_number-2 c =
    yes _ _ (sym c.is_ack.ensures ∙ c.if-not-is_ack.false)
    (next _ _ c.in-Ok.is c.read_number.ensures
    (next _ _ c.in-Ok-read_number.is c.read_number-2.ensures
    (stop _ _ c.in_default-read_number-2.is c.read_number-3.ensures)))

pub returns : goal.returns
returns c =
    yes _ _ (sym c.is_ack.ensures ∙ c.if-not-is_ack.false)
    (next _ _ c.in-Ok.is c.read_number.ensures
    (next _ _ c.in-Ok-read_number.is c.read_number-2.ensures
    (next _ _ c.in-Ok-read_number-2.is c.read_number-3.ensures refl)))
