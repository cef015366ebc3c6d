-- `receiver::Receiver::check_packet` meets its contract: its tests are the refusals, in their order.
-- Assumes nothing.
use mathlib.Core.Path.{◌≡◌, ◌∙◌}
use mathlib.Core.Bool.{true}
use Rattle.receiver.specs.Record.{consistent}
use Rattle.receiver.specs.Packet.{record_over, packet_refusal}
use Rattle.seen.proofs.Tests.{failed, held}
use Rattle.receiver.proofs.Written.{rest-fails, numbers-fail, marks-decide}
use Rattle.receiver.proofs.Receiver.check_packet.Goals as goal
use Rattle.receiver.proofs.Receiver.check_packet.Goals.{Else-not-marks_fit}

pub returns-then-not-rest_consistent : goal.returns-then-not-rest_consistent
unfolding packet_refusal
returns-then-not-rest_consistent c = rw (rest-fails (record_over c.args.words.now c.args.self) (failed c.rest_consistent.ensures c.if-not-rest_consistent.true))

pub returns-then-not-numbers_obey : goal.returns-then-not-numbers_obey
unfolding packet_refusal
returns-then-not-numbers_obey c =
    rw (numbers-fail (record_over c.args.words.now c.args.self) (held c.rest_consistent.ensures c.if-not-rest_consistent.false) (failed c.numbers_obey.ensures c.if-not-numbers_obey.true))

pub returns-then-not-marks_fit : goal.returns-then-not-marks_fit
unfolding packet_refusal
returns-then-not-marks_fit c =
    rw (marks-decide (record_over c.args.words.now c.args.self) (held c.rest_consistent.ensures c.if-not-rest_consistent.false) (held c.numbers_obey.ensures c.if-not-numbers_obey.false) ∙ failed c.marks_fit.ensures c.if-not-marks_fit.true)

-- the tests of the record were passed
all_held : (c : Else-not-marks_fit) → consistent (record_over c.args.words.now c.args.self) ≡ true
all_held c =
    marks-decide (record_over c.args.words.now c.args.self) (held c.rest_consistent.ensures c.if-not-rest_consistent.false) (held c.numbers_obey.ensures c.if-not-numbers_obey.false) ∙ held c.marks_fit.ensures c.if-not-marks_fit.false

pub returns-then-not-is_small : goal.returns-then-not-is_small
unfolding packet_refusal
returns-then-not-is_small c = rw (all_held (goal.at.returns-then-not-is_small c).Else-not-marks_fit, failed c.is_small.ensures c.if-not-is_small.true)

pub returns-then-not-is_small-2 : goal.returns-then-not-is_small-2
unfolding packet_refusal
returns-then-not-is_small-2 c = rw (all_held (goal.at.returns-then-not-is_small-2 c).Else-not-marks_fit, held c.is_small.ensures c.if-not-is_small.false, failed c.is_small-2.ensures c.if-not-is_small-2.true)

pub returns : goal.returns
unfolding packet_refusal
returns c =
    rw (all_held (goal.at.returns c).Else-not-marks_fit, held c.is_small.ensures c.if-not-is_small.false, held c.is_small-2.ensures c.if-not-is_small-2.false) c.check_in.ensures.1
