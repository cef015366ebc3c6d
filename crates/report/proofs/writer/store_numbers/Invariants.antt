-- `report::store_numbers` meets its contract. The loop's invariant: the numbers to come, laid over the buffer as it is, give the whole.
-- Assumes nothing.
use Prim.Native.Nat.{◌+◌, ◌≤◌}
use mathlib.Core.Path.{◌≡◌}
use mathlib.Core.Bool.{true}
use lib.ListN.{length, drop}
use Rattle.wire.specs.Bytes.{splice}
use Rattle.wire.specs.Numbers.{encode_all, all_small}
use Rattle.report.proofs.writer.store_numbers.Given as goal

abbrev pub invariant-loop-v : goal.invariant-loop-v
invariant-loop-v l =
    (l.v-index ≤ length l.numbers) × (length l.buf ≡ length l.initial.buf) × (l.place + length (encode_all (drop l.v-index l.numbers)) ≤ length l.buf)
    × (all_small (drop l.v-index l.numbers) ≡ true) × (splice l.buf l.place (encode_all (drop l.v-index l.numbers)) ≡ splice l.initial.buf 0 (encode_all l.numbers))
