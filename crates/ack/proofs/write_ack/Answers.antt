-- `ack::write_ack` meets its contract: the refusals in the definition's order, and then the frame of what is reported.
-- Assumes nothing.
use Rattle.seen.proofs.Tests.{failed, held}
use Rattle.ack.proofs.Written.{some_end, refused_one, refused-five, refused-eight, passed_on}
use Rattle.ack.proofs.write_ack.Goals as goal

pub returns-then-not-consistent : goal.returns-then-not-consistent
returns-then-not-consistent c =
    let a = c.args in
    refused_one a.seen a.time a.tail a.buf.now (failed c.consistent.ensures c.if-not-consistent.true)

pub returns-then-not-is_small : goal.returns-then-not-is_small
returns-then-not-is_small c =
    let a = c.args in
    refused-five a.seen a.time a.tail a.buf.now (held c.consistent.ensures c.if-not-consistent.false) (rw (failed c.is_small.ensures c.if-not-is_small.true))

pub returns-then-not-counts_obey : goal.returns-then-not-counts_obey
returns-then-not-counts_obey c =
    let a = c.args in
    refused-five a.seen a.time a.tail a.buf.now (held c.consistent.ensures c.if-not-consistent.false)
    (rw (held c.is_small.ensures c.if-not-is_small.false, failed c.counts_obey.ensures c.if-not-counts_obey.true))

pub returns-then-seen-eq0 : goal.returns-then-seen-eq0
returns-then-seen-eq0 c =
    let a = c.args in
    refused-eight a.seen a.time a.tail a.buf.now (held c.consistent.ensures c.if-not-consistent.false) (held c.is_small.ensures c.if-not-is_small.false) (held c.counts_obey.ensures c.if-not-counts_obey.false) c.if-seen-eq0.true

pub write_marks-requires : goal.write_marks-requires
write_marks-requires c =
    (held c.consistent.ensures c.if-not-consistent.false, some_end c.if-seen-eq0.false, held c.is_small.ensures c.if-not-is_small.false, held c.counts_obey.ensures c.if-not-counts_obey.false)

pub returns : goal.returns
returns c =
    let a = c.args in
    passed_on a.seen a.time a.tail a.buf.now (held c.consistent.ensures c.if-not-consistent.false) (held c.is_small.ensures c.if-not-is_small.false) (held c.counts_obey.ensures c.if-not-counts_obey.false) c.if-seen-eq0.false c.write_marks.ensures
