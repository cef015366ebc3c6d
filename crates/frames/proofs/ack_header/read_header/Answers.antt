-- `frames::ack_header::read_header` meets its contract: the type's fault is handed on, or what stands behind the type is read by it.
-- Assumes nothing.
use mathlib.Core.Path.{◌∙◌}
use Rattle.std.proofs.lemmas.Result.{err_from_is_err_and}
use Rattle.frames.specs.Types.{ack_types}
use Rattle.frames.proofs.Types.{type_in}
use Rattle.frames.proofs.ack_header.read_header.Goals as goal

pub returns-in_err-kind : goal.returns-in_err-kind
returns-in_err-kind c =
    let p = err_from_is_err_and c.from_residual.result c.from_residual.ensures.1 in
    rw (p.1, p.2) (type_in ack_types _ _ c.read_type.ensures c.in_err-kind.was)

pub returns : goal.returns
returns c = c.read_header_at.ensures ∙ type_in ack_types _ _ c.read_type.ensures c.in_ok-kind.was
