-- `ack::walk::put_head` meets its contract: three numbers one after the other.
-- Assumes nothing.
use native.Mathlib.Omega.{arith}
use Rattle.ack.proofs.Fitting.{narrow}
use Rattle.ack.proofs.Short.{one_width}
use Rattle.ack.proofs.Framing.{head-length, head-put}
use Rattle.ack.proofs.walk.put_head.Goals as goal

pub put_short-at-requires : goal.put_short-at-requires
put_short-at-requires c =
    let a = c.args in
    (omega (arith, c.requires.0), omega (arith, c.requires.3, one_width a.kind c.requires.0, head-length a.kind a.largest a.delay c.requires.0 c.requires.1 c.requires.2))

pub overflow_add-next : goal.overflow_add-next
overflow_add-next c =
    omega (arith, narrow _ c.width.ensures, c.put_short-at.ensures.0, one_width c.args.kind c.requires.0)

pub overflow_add-result : goal.overflow_add-result
overflow_add-result c =
    omega (arith, narrow _ c.width-2.ensures, narrow _ c.width.ensures, c.put_short-at.ensures.0, one_width c.args.kind c.requires.0)

pub returns : goal.returns
returns c =
    let a = c.args in
    head-put a.kind a.largest a.delay c.requires.0 c.requires.1 c.requires.2 a.buf.now c.requires.3
    c.put_short-at.ensures.0 c.put_short-at.ensures.1 c.put_short-at.auto.buf c.put_number.ensures.1 c.put_number.auto.buf c.width.ensures c.put_number-2.ensures.1 c.width-2.ensures
