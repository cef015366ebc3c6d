-- `call_log::put_frame` meets its contract.
-- Assumes nothing.
use native.Mathlib.Omega.{arith}
use Rattle.seen.proofs.Tests.{failed, held}
use Rattle.call_log.specs.Line.{frame_text, frame_form}
use Rattle.call_log.proofs.Laws.{laid_then, laid_none}
use Rattle.call_log.proofs.line.put_frame.Goals as goal

pub returns-then-not-is_write : goal.returns-then-not-is_write
unfolding frame_text frame_form
returns-then-not-is_write c =
    let a = c.args in
    rw (failed c.is_write.ensures c.if-not-is_write.true) (laid_none a.buf.now a.at (omega (arith, c.requires)), omega arith)

pub returns : goal.returns
unfolding frame_text frame_form
returns c =
    rw (held c.is_write.ensures c.if-not-is_write.false) (laid_then c.put_text-first.ensures.0 (laid_then c.put_hex-next.ensures.0 c.put_text.ensures.0), omega (arith, c.put_text-first.ensures.1, c.put_hex-next.ensures.1, c.put_text.ensures.1))
