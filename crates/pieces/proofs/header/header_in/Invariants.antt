-- `pieces::header::header_in` meets its contract. The loop's invariant: so many metrics were laid, and the places behind them are 0.
-- Assumes nothing.
use Prim.Native.Nat.{◌-◌, ◌≤◌}
use Rattle.pieces.proofs.Showing.{kind_at, value_at, Shown}
use Rattle.pieces.proofs.header.header_in.Given as goal

abbrev pub invariant-loop-i : goal.invariant-loop-i
invariant-loop-i l = (l.i ≤ l.shown) × (Shown (kind_at l.places) l.i l.kinds × Shown (value_at l.places) l.i l.values)

abbrev pub decreases-loop-i : goal.decreases-loop-i
decreases-loop-i l = l.shown - l.i
