-- `pieces::fitness::is_whole` meets its contract: its test is the definition's.
-- Assumes nothing.
use Prim.Native.Nat.{ℕ}
use mathlib.Core.Path.{ap}
use lib.Dec.{eqb}
use lib.ListN.{length}
use Rattle.pieces.proofs.fitness.is_whole.Goals as goal

pub returns : goal.returns
returns c = let a = c.args in ap (λ (x : ℕ). eqb (length a.numbers.now) x) c.wanted.ensures
