-- `ack::edges::edge_below` meets its contract. The invariant: from some place on the way down, of which `rest` has the other marks, the run ends where it does from the start.
-- Assumes nothing.
use Prim.Native.Nat.{ℕ, ◌-◌, ◌≤◌}
use mathlib.Core.Path.{◌≡◌}
use Rattle.window.specs.Window.{lent_value, run_below}
use Rattle.ack.specs.Walk.{Others}
use Rattle.ack.proofs.edges.edge_below.Given as goal

abbrev pub invariant-loop-rest : goal.invariant-loop-rest
invariant-loop-rest l =
    (p : ℕ) × Others l.marked (lent_value l.words) p l.i l.rest × (p ≤ l.place) × (l.place - run_below l.marked l.place (lent_value l.words) ≡ p - run_below l.marked p (lent_value l.words))

abbrev pub decreases-loop-rest : goal.decreases-loop-rest
decreases-loop-rest l = l.i
