-- `frames::frequency_frame::read_frequency` meets its contract: the type's fault is handed on, or what stands behind the type is read by it.
-- Assumes nothing.
use mathlib.Core.Path.{◌∙◌}
use mathlib.Core.List.{[], ◌∷◌}
use Rattle.std.proofs.lemmas.Result.{err_from_is_err_and}
use Rattle.frames.specs.Types.{frequency_type}
use Rattle.frames.proofs.Types.{type_in}
use Rattle.frames.proofs.frequency_frame.read_frequency.Goals as goal

pub returns-in_err-kind : goal.returns-in_err-kind
returns-in_err-kind c =
    let p = err_from_is_err_and c.from_residual.result c.from_residual.ensures.1 in
    rw (p.1, p.2) (type_in (frequency_type ∷ []) _ _ c.read_type.ensures c.in_err-kind.was)

pub returns : goal.returns
returns c = c.read_behind.ensures ∙ type_in (frequency_type ∷ []) _ _ c.read_type.ensures c.in_ok-kind.was
