-- `wire::numbers::put_form` meets its contract: the number that goes into the field is the form of the code.
-- Assumes nothing.
use mathlib.Core.Path.{ap, ◌∙◌}
use native.Mathlib.Omega.{arith}
use Rattle.wire.specs.Fields.{placed, written}
use Rattle.wire.proofs.Lengths.{room-le, room_of_lem}
use Rattle.wire.proofs.Writing.{form-fits, form-made}
use Rattle.wire.proofs.numbers.put_form.Goals as goal

pub overflow_add-n : goal.overflow_add-n
overflow_add-n c =
    let k = c.args.code in
    omega (arith, room_of_lem k _ c.form_at-f.ensures.1, room-le k c.requires.0)

pub overflow_add-n-2 : goal.overflow_add-n-2
overflow_add-n-2 c =
    let p = c.requires in
    omega (arith, form-fits _ _ _ p.0 p.1 c.form_at-f.ensures.1)

pub returns : goal.returns
returns c =
    let f = c.form_at-f.ensures in
    let a = c.args in
    let m = form-made a.code a.v _ _ f.0 f.1 in
    let e = c.put_fixed.ensures in
    (e.0 ∙ ap (placed a.buf.now a.at) m, e.1 ∙ ap (written a.buf.now a.at) m)
