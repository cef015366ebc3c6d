-- `wire::fields::join` meets its contract: what is read so far fits a word, since the whole number does.
-- Assumes nothing.
use Prim.Native.Nat.{ℕ, ◌+◌, ◌*◌, ◌^◌, ◌≤◌, ◌<◌}
use mathlib.Core.Path.{◌≡◌}
use mathlib.Core.List.{List}
use native.Mathlib.Omega.{arith}
use native.Mathlib.Numerals.{add-one}
use lib.ListN.{length, drop, get_or}
use mir.Syntax.{w8}
use mir.Val.{Fits}
use lib.Seq.{drop-cons}
use Rattle.wire.specs.Bytes.{be}
use Rattle.wire.proofs.Bytes.{grows, join-lt}
use Rattle.wire.proofs.fields.join.Goals as goal

small : (s : List ℕ) (n i : ℕ) → ((j : ℕ) → Fits w8 (get_or s j 0)) → length s ≤ 8 → i < length s → be n (drop i s) ≡ be 0 s → n * 256 + get_or s i 0 < 2 ^ 64
small s n i bytes l h e =
    let t : be n (drop i s) ≡ be (n * 256 + get_or s i 0) (drop (i + 1) s) = rw (add-one, drop-cons s i 0) in
    omega (arith, grows (drop (i + 1) s) (n * 256 + get_or s i 0), join-lt s bytes l)

pub overflow_mul-n : goal.overflow_mul-n
overflow_mul-n c = omega (arith, small _ _ _ c.type_inv.s c.requires c.loop-byte-test.true c.loop-byte.invariant)

pub overflow_add-n : goal.overflow_add-n
overflow_add-n c = omega (arith, small _ _ _ c.type_inv.s c.requires c.loop-byte-test.true c.loop-byte.invariant)
