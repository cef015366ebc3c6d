-- `call_log::logged` meets its contract.
-- Assumes nothing.
use native.Mathlib.Omega.{arith}
use lib.ListN.{length-take}
use Rattle.call_log.proofs.Room.{without-one, without-frame, without-text, with-text}
use Rattle.call_log.proofs.noting.logged.Goals as goal

pub returns-then-is_one : goal.returns-then-is_one
returns-then-is_one c =
    let a = c.args in
    without-one a.receiver a.time a.call a.frame.now a.line.now c.step-noted.result c.is_one.result c.step-noted.ensures.0 c.is_one.ensures c.if-is_one.true _ c.without_line.ensures

pub returns-then-frame-length : goal.returns-then-frame-length
returns-then-frame-length c =
    let a = c.args in
    without-frame a.receiver a.time a.call a.frame.now a.line.now c.step-noted.result c.is_one.result c.step-noted.ensures.0 c.is_one.ensures c.if-is_one.false c.if-frame-length.true _ c.without_line-then-frame-length.ensures

pub slice_bounds-fit_line-end : goal.slice_bounds-fit_line-end
slice_bounds-fit_line-end c = rw length-take (omega arith)

pub fit_line-end-requires : goal.fit_line-end-requires
fit_line-end-requires c = rw length-take (omega arith)

pub returns-then-end-eq0 : goal.returns-then-end-eq0
returns-then-end-eq0 c =
    let a = c.args in
    without-text a.receiver a.time a.call a.frame.now a.line.now c.step-noted.result c.is_one.result c.step-noted.ensures.0 c.is_one.ensures c.if-is_one.false c.if-frame-length.false _ c.step-noted.ensures.1 _ c.now_of-values.ensures _ _ c.fit_line-end.ensures c.if-end-eq0.true _ c.without_line-then-end-eq0.ensures

pub slice_bounds-put_text-end : goal.slice_bounds-put_text-end
slice_bounds-put_text-end c = rw length-take (omega arith)

pub put_text-requires : goal.put_text-requires
put_text-requires c = rw length-take (omega arith)

pub returns : goal.returns
returns c =
    let a = c.args in
    with-text a.receiver a.time a.call a.frame.now a.line.now c.step-noted.result c.is_one.result c.step-noted.ensures.0 c.is_one.ensures c.if-is_one.false c.if-frame-length.false _ c.step-noted.ensures.1 _ c.now_of-values.ensures _ _ c.fit_line-end.ensures c.if-end-eq0.false _ c.put_text.ensures.0.buffer
