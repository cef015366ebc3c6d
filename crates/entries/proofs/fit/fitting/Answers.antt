-- `entries::fitting` meets its contract: as many records as the room holds without their count, or one fewer.
-- Assumes nothing.
use Rattle.std.proofs.Common.{arith, rules}
use Rattle.entries.proofs.Largest.{above-none, k-held, fits-none, fits_all, fits-one-fewer}
use Rattle.entries.proofs.fit.fitting.Goals as goal

pub returns-then-k-eq0 : goal.returns-then-k-eq0
returns-then-k-eq0 c =
    let a = c.args in
    let n = c.min in
    let q = c.records_in in
    let k = c.min-k in
    fits-none a.profile a.given a.most a.room n.result q.result k.result n.ensures q.ensures k.ensures c.if-k-eq0.true

pub overflow_mul-record_size : goal.overflow_mul-record_size
overflow_mul-record_size c =
    let a = c.args in
    let n = c.min in
    let q = c.records_in in
    let k = c.min-k in
    let h = k-held a.profile a.given a.most a.room n.result q.result k.result n.ensures q.ensures k.ensures c.record_size.result c.record_size.ensures in
    search rules

pub overflow_sub-room : goal.overflow_sub-room
overflow_sub-room c =
    let a = c.args in
    let n = c.min in
    let q = c.records_in in
    let k = c.min-k in
    k-held a.profile a.given a.most a.room n.result q.result k.result n.ensures q.ensures k.ensures c.record_size.result c.record_size.ensures

pub returns-then-width-room : goal.returns-then-width-room
returns-then-width-room c =
    let a = c.args in
    let n = c.min in
    let q = c.records_in in
    let k = c.min-k in
    let z = c.record_size in
    let w = c.width.ensures in
    fits_all a.profile a.given a.most a.room n.result q.result k.result n.ensures q.ensures k.ensures z.result z.ensures (above-none _ c.if-k-eq0.false) (omega (arith, w))

pub returns : goal.returns
returns c =
    let a = c.args in
    let n = c.min in
    let q = c.records_in in
    let k = c.min-k in
    let z = c.record_size in
    let w = c.width.ensures in
    fits-one-fewer a.profile a.given a.most a.room n.result q.result k.result n.ensures q.ensures k.ensures z.result z.ensures (above-none _ c.if-k-eq0.false) (omega (arith, w))
