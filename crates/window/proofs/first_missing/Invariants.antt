-- `first_missing` meets its contract. The invariant: what is looked for from `from` on is what is looked for from `at` on.
-- The measure is what is left of the places. Assumes nothing.
use mathlib.Core.Path.{◌≡◌}
use Prim.Native.Nat.{◌-◌}
use Rattle.window.specs.Words.{number_of}
use Rattle.window.specs.Window.{first_clear}
use Rattle.window.proofs.first_missing.Given as goal

abbrev pub invariant-loop-at : goal.invariant-loop-at
invariant-loop-at l = first_clear (l.to - l.from) l.from (number_of l.words) ≡ first_clear (l.to - l.at) l.at (number_of l.words)

abbrev pub decreases-loop-at : goal.decreases-loop-at
decreases-loop-at l = l.to - l.at
