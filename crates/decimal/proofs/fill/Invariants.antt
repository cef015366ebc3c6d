-- `decimal::fill` meets its contract.
-- Assumes nothing.
use Prim.Native.Nat.{◌≤◌}
use mathlib.Core.Path.{◌≡◌}
use mathlib.Core.List.{[]}
use lib.ListN.{length, drop}
use Rattle.decimal.specs.Decimal.{last_digits}
use Rattle.decimal.proofs.fill.Given as goal

abbrev pub invariant-loop-i : goal.invariant-loop-i
invariant-loop-i l =
    (l.i ≤ length l.buf) × (length l.buf ≡ length l.initial.buf) × (last_digits l.i l.rest (drop l.i l.buf) ≡ last_digits (length l.initial.buf) l.n [])

abbrev pub decreases-loop-i : goal.decreases-loop-i
decreases-loop-i l = l.i
