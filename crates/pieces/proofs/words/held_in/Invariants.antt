-- `pieces::words::held_in` meets its contract. The loop's invariant: what was passed is what stands there.
-- Assumes nothing.
use mathlib.Core.Path.{◌≡◌}
use Prim.Native.Nat.{◌-◌, ◌≤◌}
use lib.ListN.{length, take}
use Rattle.pieces.specs.Record.{held_in}
use Rattle.pieces.proofs.words.held_in.Given as goal

abbrev pub invariant-loop-i : goal.invariant-loop-i
invariant-loop-i l = (l.i ≤ l.carried) × ((length l.held ≡ 24) × (take l.i l.held ≡ take l.i (held_in l.state)))

abbrev pub decreases-loop-i : goal.decreases-loop-i
decreases-loop-i l = l.carried - l.i
