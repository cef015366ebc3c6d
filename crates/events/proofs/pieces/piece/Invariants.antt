-- `events::piece` meets its contract. The loop's invariant: what is left to play, after what was played, is the whole.
-- Assumes nothing.
use Rattle.events.proofs.Playing.{Playing}
use Rattle.events.proofs.pieces.piece.Given as goal

abbrev pub invariant-loop-i : goal.invariant-loop-i
invariant-loop-i l = Playing l.s l.initial.current l.index l.count l.initial.buf l.buf l.current l.at l.i
