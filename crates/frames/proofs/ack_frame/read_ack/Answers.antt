-- `frames::ack_frame::read_ack` meets its contract: its answer is what the numbers before the ranges lead to.
-- Assumes nothing.
use mathlib.Core.Path.{sym, ◌∙◌}
use Rattle.std.proofs.lemmas.Result.{err_from_is_err_and}
use Rattle.frames.proofs.Answers.{both, both_so}
use Rattle.frames.proofs.Check.{read-by-header}
use Rattle.frames.proofs.ack_frame.read_ack.Goals as goal

pub returns-in_err-header : goal.returns-in_err-header
returns-in_err-header c =
    let p = err_from_is_err_and c.from_residual.result c.from_residual.ensures.1 in
    rw (p.1, p.2) (both (read-by-header _ (sym c.in_err-header.was ∙ c.read_header.ensures) _))

pub returns : goal.returns
returns c = both_so c.read_behind.ensures (read-by-header _ (sym c.in_ok-header.was ∙ c.read_header.ensures) _)
