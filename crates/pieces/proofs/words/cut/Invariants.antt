-- `pieces::words::cut` meets its contract. The loop's invariant: so many words hold a byte.
-- Assumes nothing.
use Prim.Native.Nat.{◌+◌, ◌-◌, ◌%◌, ◌≤◌}
use lib.ListN.{get_or}
use Rattle.pieces.specs.Record.{Laid}
use Rattle.pieces.proofs.words.cut.Given as goal

abbrev pub invariant-loop-i : goal.invariant-loop-i
invariant-loop-i l = (l.i ≤ l.carried) × Laid (λ j. get_or l.initial.state j 0 % 256) l.initial.state 32 (32 + l.i) l.state

abbrev pub decreases-loop-i : goal.decreases-loop-i
decreases-loop-i l = l.carried - l.i
