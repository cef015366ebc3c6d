-- `frames::immediate_frame::read_immediate` meets its contract: the type's fault is handed on, or the type is another one, or right.
-- Assumes nothing.
use mathlib.Core.Path.{refl, ◌∙◌}
use mathlib.Core.List.{[], ◌∷◌}
use Rattle.std.proofs.lemmas.Result.{err_from_is_err_and}
use Rattle.wire.proofs.Reading.{yes, no}
use Rattle.frames.specs.Types.{immediate_type}
use Rattle.frames.proofs.Types.{only, another, type_in}
use Rattle.frames.proofs.immediate_frame.read_immediate.Goals as goal

pub returns-in_err-kind : goal.returns-in_err-kind
returns-in_err-kind c =
    let p = err_from_is_err_and c.from_residual.result c.from_residual.ensures.1 in
    rw (p.1, p.2) (type_in (immediate_type ∷ []) _ _ c.read_type.ensures c.in_err-kind.was)

pub returns-then-kind-ne-IMMEDIATE_ACK : goal.returns-then-kind-ne-IMMEDIATE_ACK
returns-then-kind-ne-IMMEDIATE_ACK c =
    no _ _ (another c.if-kind-ne-IMMEDIATE_ACK.true) refl ∙ type_in (immediate_type ∷ []) _ _ c.read_type.ensures c.in_ok-kind.was

pub returns : goal.returns
returns c = yes _ _ (only c.if-kind-ne-IMMEDIATE_ACK.false) refl ∙ type_in (immediate_type ∷ []) _ _ c.read_type.ensures c.in_ok-kind.was
