-- `wire::several::store_numbers` meets its contract. The loop's invariant: the numbers to come, laid over the buffer as it is, give the whole.
-- Assumes nothing.
use Prim.Native.Nat.{◌+◌, ◌≤◌}
use mathlib.Core.Path.{◌≡◌}
use mathlib.Core.Bool.{true}
use lib.ListN.{length, drop}
use Rattle.wire.specs.Bytes.{splice}
use Rattle.wire.specs.Numbers.{encode_all, all_small}
use Rattle.wire.proofs.several.store_numbers.Given as goal

abbrev pub invariant-loop-value : goal.invariant-loop-value
invariant-loop-value l =
    (length l.buf ≡ length l.initial.buf) × (l.place + length (encode_all (drop l.value-index l.values)) ≤ length l.buf)
    × (all_small (drop l.value-index l.values) ≡ true) × (splice l.buf l.place (encode_all (drop l.value-index l.values)) ≡ splice l.initial.buf l.at (encode_all l.values))
