-- `events::put_line` meets its contract: the room is judged by the three lengths, and the columns follow each other.
-- Assumes nothing.
use native.Mathlib.Omega.{arith}
use Rattle.events.proofs.Laid.{line-no, line-yes}
use Rattle.events.proofs.lines.put_line.Goals as goal

pub returns-then-buf-at : goal.returns-then-buf-at
returns-then-buf-at c =
    let a = c.args in
    line-no a.index a.res a.cause a.buf.now a.at (omega arith)

pub returns-then-buf-at-2 : goal.returns-then-buf-at-2
returns-then-buf-at-2 c =
    let a = c.args in
    line-no a.index a.res a.cause a.buf.now a.at (omega arith)

pub returns : goal.returns
returns c =
    let a = c.args in
    let e = c.places-third.ensures.0 in
    let f = c.places-second.ensures.0 in
    let g = c.places-first.ensures.0 in
    line-yes a.index a.res a.cause a.buf.now _ _ _ a.at c.put_column-after.result c.put_column-last.result c.put_column-next.result (omega arith) (omega (arith, c.put_column-after.ensures.0)) (omega (arith, c.put_column-last.ensures.0)) (omega (arith, c.put_column-next.ensures.0)) c.put_column-after.auto.buf c.put_column-after.ensures.1 c.put_column-last.ensures.1 c.put_column-next.ensures.1
