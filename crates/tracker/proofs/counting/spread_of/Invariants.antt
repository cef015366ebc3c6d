-- `tracker::counting::spread_of` meets its contract. The loop's invariant: the spread from here is the spread from the start.
-- Assumes nothing.
use Prim.Native.Nat.{◌-◌, ◌≤◌}
use mathlib.Core.Path.{◌≡◌}
use Rattle.wire.specs.Numbers.{limit}
use Rattle.tracker.specs.Known.{most_objects}
use Rattle.tracker.specs.Counting.{no_arrival, spread_from}
use Rattle.tracker.proofs.counting.spread_of.Given as goal

abbrev pub invariant-loop-place : goal.invariant-loop-place
invariant-loop-place l =
    (l.spread.latest ≤ limit) × (spread_from l.tracker (most_objects - l.place) l.place l.spread ≡ spread_from l.tracker most_objects 0 no_arrival)
