-- `totals::Standing::piece` meets its contract. The loop's invariant: the work left gives the whole.
-- Assumes nothing.
use Prim.Native.Nat.{ℕ, ◌-◌}
use mathlib.Core.List.{List}
use lib.ListN.{length}
use Rattle.totals.specs.declared.Standing.{Standing}
use Rattle.totals.specs.Adding.{over, Held}
use Rattle.totals.proofs.Stepping.{Going}
use Rattle.totals.proofs.Standing.piece.Given as goal

abbrev standing : List ℕ → List ℕ → ℕ → Standing
standing sums full skip = record { totals = over sums full; skip = skip }

abbrev pub invariant-loop-at : goal.invariant-loop-at
invariant-loop-at l = Going (standing l.initial.sums l.initial.full l.initial.skip) l.s (standing l.sums l.full l.skip) l.at × Held (over l.sums l.full)

abbrev pub decreases-loop-at : goal.decreases-loop-at
decreases-loop-at l = length l.s - l.at
