-- The loop's invariant: the program stands where the definitions stand after the same reads. The measure is the number of turns that are
-- left.
use Rattle.week.proofs.Turning.{Reached}
use Rattle.week.proofs.read_week.Given as goal

abbrev pub invariant-loop-turns : goal.invariant-loop-turns
invariant-loop-turns g l = Reached l.place l.input l.turns

abbrev pub decreases-loop-turns : goal.decreases-loop-turns
decreases-loop-turns g l = l.turns
