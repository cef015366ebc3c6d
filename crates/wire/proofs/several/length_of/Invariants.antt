-- `wire::several::length_of` meets its contract. The loop's invariant: what is counted and the numbers to come make the whole.
-- Assumes nothing.
use Prim.Native.Nat.{◌+◌, ◌*◌, ◌≤◌}
use mathlib.Core.Path.{◌≡◌}
use lib.ListN.{length, drop}
use Rattle.wire.specs.Numbers.{encode_all, all_small}
use Rattle.wire.proofs.several.length_of.Given as goal

abbrev pub invariant-loop-value : goal.invariant-loop-value
invariant-loop-value l =
    (l.total ≤ 8 * l.value-index) × (all_small (drop l.value-index l.values) ≡ all_small l.values)
    × (l.total + length (encode_all (drop l.value-index l.values)) ≡ length (encode_all l.values))
