-- `totals::put_lines` meets its contract. The loop's invariant: the lines left, behind those written, are the whole.
-- Assumes nothing.
use mathlib.Core.Path.{sym, ◌∙◌}
use native.Mathlib.Omega.{arith}
use Rattle.page.proofs.Printing.{begun, passed, written_on, ended-used, ended-bytes, ended-room}
use Rattle.page.proofs.put_lines.Goals as goal
use Rattle.page.proofs.put_lines.Goals.{then-is_shown, else-is_shown}

pub loop-place-init : goal.loop-place-init
loop-place-init c = begun _ _

pub put_line-at-requires : goal.put_line-at-requires
put_line-at-requires c =
    let p = c.loop-place.invariant in
    (omega arith, omega (arith, p.room, p.long, c.requires))

pub loop-place-preserved : goal.loop-place-preserved
loop-place-preserved c =
    let p = c.loop-place.invariant in
    let h = c.loop-place-test.true in
    let e = c.is_shown.ensures in
    elim c.if-is_shown.branch [
      | then-is_shown w ↦
          let f = w.put_line-at.ensures in
          rw (w.buf-is, w.at-is) (written_on _ _ p h (sym e ∙ w.if-is_shown.true) (omega (arith, p.room, p.long, c.requires)) w.put_line-at.auto.buf f.2 f.0 f.1)
      | else-is_shown w ↦ rw (w.buf-is, w.at-is) (passed _ _ p h (sym e ∙ w.if-is_shown.false))
    ]

pub shape_of-buf : goal.shape_of-buf
shape_of-buf c = c.loop-place.invariant.long

pub returns : goal.returns
returns c =
    let p = c.loop-place.invariant in
    let h = c.loop-place-test.false in
    (ended-used _ _ p h, ended-bytes _ _ p h, ended-room _ _ p h)
