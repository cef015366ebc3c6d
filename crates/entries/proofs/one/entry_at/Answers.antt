-- `entries::entry_at` meets its contract: the part that is handed on is the record of that index.
-- Assumes nothing.
use Rattle.std.proofs.Common.{◌∙◌, rules}
use Rattle.entries.proofs.Fields.{part-is, part-there, ends_at}
use Rattle.entries.proofs.one.entry_at.Goals as goal

pub returns-then-records_in-index : goal.returns-then-records_in-index
returns-then-records_in-index c =
    let a = c.args in
    let n = c.records_in in
    ends_at a.profile a.entries.now a.index n.result n.ensures c.if-records_in-index.true

pub overflow_mul-at : goal.overflow_mul-at
overflow_mul-at c =
    let a = c.args in
    let n = c.records_in in
    let z = c.record_size-size in
    let t = part-there a.profile a.entries.now a.index n.result n.ensures z.result z.ensures c.if-records_in-index.false in
    search rules

pub overflow_add-end : goal.overflow_add-end
overflow_add-end c =
    let a = c.args in
    let n = c.records_in in
    let z = c.record_size-size in
    let t = part-there a.profile a.entries.now a.index n.result n.ensures z.result z.ensures c.if-records_in-index.false in
    search rules

pub slice_bounds-entry_of-end : goal.slice_bounds-entry_of-end
slice_bounds-entry_of-end c =
    let a = c.args in
    let n = c.records_in in
    let z = c.record_size-size in
    let t = part-there a.profile a.entries.now a.index n.result n.ensures z.result z.ensures c.if-records_in-index.false in
    t

pub returns : goal.returns
returns c =
    let a = c.args in
    let z = c.record_size-size in
    c.entry_of.ensures ∙ part-is a.profile a.entries.now a.index z.result z.ensures
