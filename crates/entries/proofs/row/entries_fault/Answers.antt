-- `entries::entries_fault` meets its contract: each branch is one test of the definition.
-- Assumes nothing.
use Rattle.std.proofs.Common.{Bool, Result, Ok, Err, sym, ap, ◌∙◌, rules}
use Rattle.wire.specs.Bytes.{pick}
use Rattle.wire.specs.declared.Refusal.{Refusal}
use Rattle.wire.specs.declared.Refusal.TheVariants.{BrokenEntry}
use Rattle.entries.proofs.Records.{no_more, fault-ragged, fault-many, fault-records}
use Rattle.entries.proofs.row.entries_fault.Goals as goal

pub overflow_mul-n : goal.overflow_mul-n
overflow_mul-n c =
    let a = c.args in
    let n = c.records_in-n in
    let z = c.record_size in
    let l = no_more a.profile a.entries.now n.result n.ensures z.result z.ensures in
    search rules

pub returns-then-n-record_size : goal.returns-then-n-record_size
returns-then-n-record_size c =
    let a = c.args in
    let n = c.records_in-n in
    let z = c.record_size in
    fault-ragged a.profile a.entries.now n.result n.ensures z.result z.ensures c.if-n-record_size.true

pub returns-then-n-gt-MOST_GIVEN : goal.returns-then-n-gt-MOST_GIVEN
returns-then-n-gt-MOST_GIVEN c =
    let a = c.args in
    let n = c.records_in-n in
    let z = c.record_size in
    fault-many a.profile a.entries.now n.result n.ensures z.result z.ensures c.if-n-record_size.false c.if-n-gt-MOST_GIVEN.true

pub returns-then-not-entries_good : goal.returns-then-not-entries_good
returns-then-not-entries_good c =
    let a = c.args in
    let n = c.records_in-n in
    let z = c.record_size in
    let g = c.entries_good in
    ap (λ (b : Bool). pick {A = Result Unit Refusal} b (Ok tt) (Err BrokenEntry)) (sym c.if-not-entries_good.true) ∙ fault-records a.profile a.entries.now n.result n.ensures z.result z.ensures c.if-n-record_size.false c.if-n-gt-MOST_GIVEN.false g.result g.ensures

pub returns : goal.returns
returns c =
    let a = c.args in
    let n = c.records_in-n in
    let z = c.record_size in
    let g = c.entries_good in
    ap (λ (b : Bool). pick {A = Result Unit Refusal} b (Ok tt) (Err BrokenEntry)) (sym c.if-not-entries_good.false) ∙ fault-records a.profile a.entries.now n.result n.ensures z.result z.ensures c.if-n-record_size.false c.if-n-gt-MOST_GIVEN.false g.result g.ensures
