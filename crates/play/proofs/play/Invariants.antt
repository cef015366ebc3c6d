-- The loop's invariant: less than a record is kept. The measure is the number of turns that are left.
use Rattle.std.proofs.Common.{◌<◌}
use Rattle.play.proofs.play.Given as goal

abbrev pub invariant-loop-turns : goal.invariant-loop-turns
invariant-loop-turns g l = l.place.kept < 24

abbrev pub decreases-loop-turns : goal.decreases-loop-turns
decreases-loop-turns g l = l.turns
