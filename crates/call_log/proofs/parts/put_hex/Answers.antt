-- `call_log::put_hex` meets its contract.
-- Assumes nothing.
use Prim.Native.Nat.{◌+◌}
use mathlib.Core.Path.{◌≡◌, refl, sym, ◌∙◌}
use native.Mathlib.Omega.{arith}
use mathlib.Core.List.{[]}
use lib.ListN.{length, set, drop_of_length-le, length-set}
use Rattle.wire.specs.Bytes.{splice}
use Rattle.wire.proofs.Bytes.{splice-none}
use Rattle.texts.specs.Hex.{hex_text}
use Rattle.texts.proofs.Hex.{length-hex}
use Rattle.call_log.proofs.Laws.{hex-turn}
use Rattle.call_log.proofs.parts.put_hex.Goals as goal

pub loop-i-init : goal.loop-i-init
loop-i-init c = (omega arith, omega arith, refl, refl)

pub hex_digit-requires : goal.hex_digit-requires
hex_digit-requires c = omega (arith, c.type_inv.bytes c.loop-i.i)

pub bounds-buf-to : goal.bounds-buf-to
bounds-buf-to c = omega (arith, c.loop-i.invariant.1, c.loop-i.invariant.3, c.requires, c.loop-i-test.true)

pub bounds-buf-next : goal.bounds-buf-next
bounds-buf-next c = rw length-set (omega (arith, c.loop-i.invariant.1, c.loop-i.invariant.3, c.requires, c.loop-i-test.true))

pub loop-i-preserved : goal.loop-i-preserved
loop-i-preserved c =
    let a = c.args in
    let i = c.loop-i.invariant in
    let t = c.loop-i-test.true in
    let s : length (set (set c.loop-i.buf c.loop-i.to c.hex_digit.result) (c.loop-i.to + 1) c.hex_digit-in-loop-i.result) ≡ length c.loop-i.buf = simp length-set in
    (omega arith, omega arith, hex-turn c.loop-i.buf a.bytes.now _ c.loop-i.i c.loop-i.to c.hex_digit.result c.hex_digit-in-loop-i.result t (omega (arith, i.1, i.3, c.requires, t)) c.hex_digit.ensures c.hex_digit-in-loop-i.ensures i.2, s ∙ i.3)

pub shape_of-buf : goal.shape_of-buf
shape_of-buf c = c.loop-i.invariant.3

pub returns : goal.returns
returns c =
    let a = c.args in
    let e = drop_of_length-le a.bytes.now {i = c.loop-i.i} c.loop-i-test.false in
    let n = length-hex a.bytes.now in
    let z : splice c.loop-i.buf c.loop-i.to [] ≡ splice a.buf.now a.at (hex_text a.bytes.now) = rw e at c.loop-i.invariant.2 in
    (record { place = omega (arith, n); fits = omega (arith, c.requires); buffer = sym (splice-none c.loop-i.buf c.loop-i.to) ∙ z }, omega arith)
