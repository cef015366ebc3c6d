-- `words_down` meets its contract. The invariant: the words below `i` have moved, and the others are 0.
-- Assumes nothing.
use Prim.Native.Nat.{◌≤◌}
use Rattle.window.proofs.Shift.{Moving}
use Rattle.window.proofs.words_down.Given as goal

abbrev pub invariant-loop-i : goal.invariant-loop-i
invariant-loop-i l = (l.q ≤ l.i) × Moving l.own l.next l.q l.i
