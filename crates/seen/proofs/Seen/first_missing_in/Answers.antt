-- `seen::Seen::first_missing_in` meets its contract: where the larger of `from` and the floor is not below the smaller of `to` and L's end, nothing is sought.
-- Assumes nothing.
use Prim.Native.Nat.{max}
use mathlib.Core.Path.{ap, ◌∙◌}
use native.Mathlib.Omega.{arith}
use Rattle.seen.specs.Received.{over}
use Rattle.seen.proofs.Missing.{none-sought}
use Rattle.seen.proofs.Seen.first_missing_in.Goals as goal

pub returns-then-high-low : goal.returns-then-high-low
returns-then-high-low c =
    let a = c.args in
    none-sought (over a.words.now a.self) a.from a.to (omega (arith, c.larger_of-low.ensures ∙ ap (max a.from) c.floor.ensures))
