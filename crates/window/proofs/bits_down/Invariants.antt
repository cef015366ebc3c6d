-- `bits_down` meets its contract. The invariant: the words below `i` are those of the shifted number.
-- Assumes nothing.
use mathlib.Core.Path.{◌≡◌}
use Prim.Native.Nat.{ℕ, ◌/◌, ◌^◌, ◌<◌}
use lib.ListN.{length, get_or}
use Rattle.window.specs.Words.{number_of}
use Rattle.window.proofs.Shift.{word_at}
use Rattle.window.proofs.bits_down.Given as goal

abbrev pub invariant-loop-i : goal.invariant-loop-i
invariant-loop-i l = (length l.words ≡ 16) × ((k : ℕ) → k < l.i → get_or l.words k 0 ≡ word_at (number_of l.own / 2 ^ l.s) k)
