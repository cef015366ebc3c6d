-- `call_log::step` meets its contract.
-- Assumes nothing.
use mathlib.Core.Path.{◌≡◌, ap, ◌∙◌}
use native.Mathlib.Omega.{arith}
use lib.ListN.{length, take, length-take}
use Rattle.seen.proofs.Tests.{failed, held}
use Rattle.receiver.specs.declared.Answer.{Answer}
use Rattle.receiver.specs.declared.Heard.{Heard}
use Rattle.call_log.specs.Calls.{heard_of, noting, noting_opening, step, frame_of}
use Rattle.call_log.specs.Logged.{made}
use Rattle.call_log.proofs.Answers.{no-frame, write-made}
use Rattle.call_log.proofs.calls.step.Goals as goal

pub returns-then-not-is_small : goal.returns-then-not-is_small
unfolding step frame_of noting noting_opening
returns-then-not-is_small c =
    let a = c.args in
    rw (c.in-Open.is, failed c.is_small.ensures c.if-not-is_small.true) (no-frame c.untimely_opening.result _ a.frame.now c.untimely_opening.ensures)

pub returns-then-not-is_small-2 : goal.returns-then-not-is_small-2
unfolding step frame_of noting noting_opening
returns-then-not-is_small-2 c =
    let a = c.args in
    rw (c.in-Threshold.is, failed c.is_small-in-Threshold.ensures c.if-not-is_small-2.true) (no-frame c.untimely.result _ a.frame.now c.untimely.ensures)

pub returns-then-not-is_small-3 : goal.returns-then-not-is_small-3
unfolding step frame_of noting noting_opening
returns-then-not-is_small-3 c =
    let a = c.args in
    rw (c.in-Immediate.is, failed c.is_small-in-Immediate.ensures c.if-not-is_small-3.true) (no-frame c.untimely-then-not-is_small-3.result _ a.frame.now c.untimely-then-not-is_small-3.ensures)

pub returns-then-not-is_small-4 : goal.returns-then-not-is_small-4
unfolding step frame_of noting noting_opening
returns-then-not-is_small-4 c =
    let a = c.args in
    rw (c.in-Confirm.is, failed c.is_small-in-Confirm.ensures c.if-not-is_small-4.true) (no-frame c.untimely-then-not-is_small-4.result _ a.frame.now c.untimely-then-not-is_small-4.ensures)

pub slice_bounds-write-end-in-Write : goal.slice_bounds-write-end-in-Write
slice_bounds-write-end-in-Write c = rw length-take (omega (arith, c.acting-end.ensures.1, c.requires))

pub returns-else-not-is_small : goal.returns-else-not-is_small
unfolding step frame_of noting noting_opening
returns-else-not-is_small c =
    let a = c.args in
    rw (c.in-Open.is, held c.is_small.ensures c.if-not-is_small.false) (no-frame c.plain.result _ a.frame.now (c.plain.ensures ∙ ap (λ (x : Answer). made (heard_of x) 0) c.«open».ensures))

pub returns-in-Packet : goal.returns-in-Packet
unfolding step frame_of
returns-in-Packet c =
    let a = c.args in
    rw c.in-Packet.is (no-frame c.plain-in-Packet.result _ a.frame.now (c.plain-in-Packet.ensures ∙ ap (λ (x : Answer). made (heard_of x) 0) c.packet.ensures))

pub returns-in-Timer : goal.returns-in-Timer
unfolding step frame_of
returns-in-Timer c =
    let a = c.args in
    rw c.in-Timer.is (no-frame c.plain-in-Timer.result _ a.frame.now (c.plain-in-Timer.ensures ∙ ap (λ (x : Answer). made (heard_of x) 0) c.timer.ensures))

pub returns-else-not-is_small-2 : goal.returns-else-not-is_small-2
unfolding step frame_of noting noting_opening
returns-else-not-is_small-2 c =
    let a = c.args in
    rw (c.in-Threshold.is, held c.is_small-in-Threshold.ensures c.if-not-is_small-2.false) (no-frame c.heard.result _ a.frame.now (c.heard.ensures ∙ ap (λ (x : Heard). made x 0) c.threshold.ensures))

pub returns-else-not-is_small-3 : goal.returns-else-not-is_small-3
unfolding step frame_of noting noting_opening
returns-else-not-is_small-3 c =
    let a = c.args in
    rw (c.in-Immediate.is, held c.is_small-in-Immediate.ensures c.if-not-is_small-3.false) (no-frame c.plain-in-Immediate.result _ a.frame.now (c.plain-in-Immediate.ensures ∙ ap (λ (x : Answer). made (heard_of x) 0) c.immediate.ensures))

pub returns-else-not-is_small-4 : goal.returns-else-not-is_small-4
unfolding step frame_of noting noting_opening
returns-else-not-is_small-4 c =
    let a = c.args in
    rw (c.in-Confirm.is, held c.is_small-in-Confirm.ensures c.if-not-is_small-4.false) (no-frame c.plain-in-Confirm.result _ a.frame.now (c.plain-in-Confirm.ensures ∙ ap (λ (x : Answer). made (heard_of x) 0) c.confirm.ensures))

pub returns-in-Write : goal.returns-in-Write
returns-in-Write c =
    let a = c.args in
    let xs = take c.acting-end.result a.frame.now in
    let l : length xs ≡ c.acting-end.result = rw length-take (omega (arith, c.acting-end.ensures.1, c.requires)) in
    let z = write-made _ a.receiver a.time _ c.write-wrote.result xs _ _ c.answered.result c.write-wrote.ensures.0 c.write-wrote.ensures.1 (l ∙ c.acting-end.ensures.0) c.answered.ensures in
    rw c.in-Write.is (z.0, z.1, omega (arith, z.2, l, c.acting-end.ensures.1))
