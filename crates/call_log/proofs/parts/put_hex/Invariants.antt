-- `call_log::put_hex` meets its contract.
-- Assumes nothing.
use Prim.Native.Nat.{◌+◌, ◌≤◌}
use mathlib.Core.Path.{◌≡◌}
use Prim.Native.Nat.{◌*◌}
use lib.ListN.{length, drop}
use Rattle.wire.specs.Bytes.{splice}
use Rattle.texts.specs.Hex.{hex_text}
use Rattle.call_log.proofs.parts.put_hex.Given as goal

abbrev pub invariant-loop-i : goal.invariant-loop-i
invariant-loop-i l = (l.i ≤ length l.bytes) × (l.to ≡ l.at + 2 * l.i) × (splice l.buf l.to (hex_text (drop l.i l.bytes)) ≡ splice l.initial.buf l.at (hex_text l.bytes)) × (length l.buf ≡ length l.initial.buf)
