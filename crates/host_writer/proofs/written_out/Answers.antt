-- `host_writer::written_out` meets its contract: an answer gets its values, and a refusal its number.
-- Assumes nothing.
use Rattle.host_writer.specs.Writer.{written_out}
use Rattle.host_writer.proofs.written_out.Goals as goal

pub returns-in-Ok : goal.returns-in-Ok
unfolding written_out
returns-in-Ok c = rw c.in-Ok.is

pub returns-in-Err : goal.returns-in-Err
unfolding written_out
returns-in-Err c = rw (c.number.ensures, c.in-Err.is)
