-- `ack::edges::first_run` meets its contract. The invariant: the run below the last place is the whole words passed over and the run below word i.
-- Assumes nothing.
use Prim.Native.Nat.{◌+◌, ◌-◌, ◌*◌}
use mathlib.Core.Path.{◌≡◌}
use mathlib.Core.Bool.{true}
use Rattle.window.specs.Window.{lent_value, run_below}
use Rattle.ack.proofs.edges.first_run.Given as goal

abbrev pub invariant-loop-i : goal.invariant-loop-i
invariant-loop-i l = run_below true 1024 (lent_value l.words) ≡ 1024 - 64 * l.i + run_below true (64 * l.i) (lent_value l.words)
