-- `sent::hearing::lost_anew` meets its contract. The loop's invariant: the words up to here are made.
-- Assumes nothing.
use Rattle.sent.proofs.Words.{Made, NewLost}
use Rattle.sent.proofs.hearing.lost_anew.Given as goal

abbrev pub invariant-loop-i : goal.invariant-loop-i
invariant-loop-i l = Made (NewLost l.losses l.frame l.due) l.words l.i
