-- `run_within` meets its contract. The invariant: the run below n is the places passed over and the run below `left`.
-- The measure is `left`. Assumes nothing.
use mathlib.Core.Path.{◌≡◌}
use Prim.Native.Nat.{◌+◌, ◌-◌, ◌≤◌}
use Rattle.window.specs.Window.{lent_value, run_below}
use Rattle.window.proofs.run_within.Given as goal

abbrev pub invariant-loop-left : goal.invariant-loop-left
invariant-loop-left l = (l.left ≤ l.n) × (run_below l.marked l.n (lent_value l.words) ≡ l.n - l.left + run_below l.marked l.left (lent_value l.words))

abbrev pub decreases-loop-left : goal.decreases-loop-left
decreases-loop-left l = l.left
