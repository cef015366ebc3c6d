-- `sent::hearing::acked_anew` meets its contract. The loop's invariant: the words up to here are made.
-- Assumes nothing.
use Rattle.sent.proofs.Words.{Made, NewAcked}
use Rattle.sent.proofs.hearing.acked_anew.Given as goal

abbrev pub invariant-loop-i : goal.invariant-loop-i
invariant-loop-i l = Made (NewAcked l.losses l.frame) l.words l.i
