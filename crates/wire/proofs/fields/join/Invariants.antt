-- `wire::fields::join` meets its contract. The loop's invariant: what is read, followed by the bytes to come, is the whole number.
-- Assumes nothing.
use mathlib.Core.Path.{◌≡◌}
use lib.ListN.{drop}
use Rattle.wire.specs.Bytes.{be}
use Rattle.wire.proofs.fields.join.Given as goal

abbrev pub invariant-loop-byte : goal.invariant-loop-byte
invariant-loop-byte l = be l.n (drop l.byte-index l.s) ≡ be 0 l.s
