-- `receiver::Receiver::write` meets its contract: the rest of the record is tested, and what `write_ack` answers decides.
-- Assumes nothing.
use mathlib.Core.Path.{◌∙◌}
use Rattle.seen.proofs.Tests.{failed, held}
use Rattle.receiver.proofs.Written.{refused-first, wrote-refusal, wrote-frame}
use Rattle.receiver.proofs.Receiver.write.Goals as goal

pub returns-then-not-rest_consistent : goal.returns-then-not-rest_consistent
returns-then-not-rest_consistent c =
    let a = c.args in
    let w = refused-first a.self a.time a.kind a.buf.now (failed c.rest_consistent.ensures c.if-not-rest_consistent.true) in
    (c.refused.ensures ∙ w.0, w.1)

pub returns-in-Err : goal.returns-in-Err
returns-in-Err c =
    let a = c.args in
    let w = wrote-refusal a.self a.time a.kind a.buf.now (held c.rest_consistent.ensures c.if-not-rest_consistent.false) (rw c.said-tail.ensures at c.write_ack.ensures.0) (rw c.said-tail.ensures at c.write_ack.ensures.1) c.in-Err.is in
    (c.refused-in-Err.ensures ∙ w.0, w.1)

pub returns-in-Ok : goal.returns-in-Ok
returns-in-Ok c =
    let a = c.args in
    wrote-frame a.self a.time a.kind a.buf.now (held c.rest_consistent.ensures c.if-not-rest_consistent.false) (rw c.said-tail.ensures at c.write_ack.ensures.0) (rw c.said-tail.ensures at c.write_ack.ensures.1) c.after_write.ensures c.in-Ok.is
