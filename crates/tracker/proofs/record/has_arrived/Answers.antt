-- `tracker::record::has_arrived` meets its contract: the two top bits of a word are all that stands above its time.
-- Assumes nothing.
use Prim.Native.Nat.{◌+◌, ◌/◌, ◌%◌}
use mathlib.Core.Path.{◌≡◌}
use native.Mathlib.Omega.{arith}
use Rattle.wire.specs.Numbers.{limit}
use Rattle.tracker.proofs.record.has_arrived.Goals as goal

pub returns : goal.returns
returns c = let e : c.args.word / (limit + 1) % 4 ≡ c.args.word / (limit + 1) = omega (arith, c.ranges.word) in rw e
