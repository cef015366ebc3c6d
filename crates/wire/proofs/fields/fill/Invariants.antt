-- `wire::fields::fill` meets its contract. The loop's invariant: the bytes still to write, before those written, are the whole.
-- Assumes nothing.
use mathlib.Core.Path.{◌≡◌}
use mathlib.Core.List.{[]}
use lib.ListN.{length, drop}
use Rattle.wire.specs.Bytes.{digits}
use Rattle.wire.proofs.fields.fill.Given as goal

abbrev pub invariant-loop-i : goal.invariant-loop-i
invariant-loop-i l =
    digits l.i l.rest (drop l.i l.buf) ≡ digits (length l.initial.buf) l.v []
