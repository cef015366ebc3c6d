-- `tracker::record::none_arrived` meets its contract. The loop's invariant: the answer from here is the answer from the start.
-- Assumes nothing.
use Prim.Native.Nat.{◌-◌}
use mathlib.Core.Path.{◌≡◌}
use Rattle.tracker.specs.Known.{most_objects}
use Rattle.tracker.specs.Record.{none_arrived}
use Rattle.tracker.proofs.record.none_arrived.Given as goal

abbrev pub invariant-loop-place : goal.invariant-loop-place
invariant-loop-place l = (none_arrived (most_objects - l.place) l.place l.tracker ≡ none_arrived most_objects 0 l.tracker)
