-- `pieces::words::keep` meets its contract. The loop's invariant: so many bytes were laid behind those that are carried.
-- Assumes nothing.
use Prim.Native.Nat.{◌+◌, ◌-◌, ◌≤◌}
use lib.ListN.{length, get_or}
use Rattle.pieces.specs.Record.{Laid}
use Rattle.pieces.proofs.words.keep.Given as goal

abbrev pub invariant-loop-i : goal.invariant-loop-i
invariant-loop-i l = (l.i ≤ length l.more) × Laid (λ j. get_or l.more (j - (32 + l.carried)) 0) l.initial.state (32 + l.carried) (32 + l.carried + l.i) l.state

abbrev pub decreases-loop-i : goal.decreases-loop-i
decreases-loop-i l = length l.more - l.i
