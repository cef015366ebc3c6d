-- `frames::ack_frame::check_ack` meets its contract: the fault of the numbers before the ranges is handed on.
-- Assumes nothing.
use Rattle.std.proofs.lemmas.Result.{err_from_is_err_and}
use Rattle.frames.proofs.Check.{checked-by}
use Rattle.frames.proofs.ack_frame.check_ack.Goals as goal

pub returns-in_err-header : goal.returns-in_err-header
returns-in_err-header c =
    let p = err_from_is_err_and c.from_residual.result c.from_residual.ensures.1 in
    rw (p.1, p.2) (checked-by _ c.read_header.ensures c.in_err-header.was)
