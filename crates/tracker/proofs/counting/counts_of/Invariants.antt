-- `tracker::counting::counts_of` meets its contract. The loop's invariant: the counts from here are the counts from the start.
-- Assumes nothing.
use Prim.Native.Nat.{◌-◌}
use mathlib.Core.Path.{◌≡◌}
use Rattle.tracker.specs.Known.{most_objects}
use Rattle.tracker.specs.Counting.{no_counts, counts_from}
use Rattle.tracker.proofs.Walks.{Within}
use Rattle.tracker.proofs.counting.counts_of.Given as goal

abbrev pub invariant-loop-place : goal.invariant-loop-place
invariant-loop-place l =
    Within l.counts l.place × (counts_from l.end l.tracker (most_objects - l.place) l.place l.counts ≡ counts_from l.end l.tracker most_objects 0 no_counts)
