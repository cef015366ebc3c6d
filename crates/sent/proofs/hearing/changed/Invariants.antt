-- `sent::hearing::changed` meets its contract. The loop's invariant: the words up to here are made.
-- Assumes nothing.
use Rattle.sent.proofs.Words.{Changing}
use Rattle.sent.proofs.hearing.changed.Given as goal

abbrev pub invariant-loop-i : goal.invariant-loop-i
invariant-loop-i l = Changing l.losses l.frame l.due l.words l.i
