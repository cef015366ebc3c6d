-- `frames::ack_frame::read_one` meets its contract: one law for each answer.
-- Assumes nothing.
use Rattle.frames.proofs.Answers.{both}
use Rattle.frames.proofs.One.{one-cut, one-low, one-no-room, one-accepted}
use Rattle.frames.proofs.ack_frame.read_one.Goals as goal

pub returns-in_default : goal.returns-in_default
returns-in_default c = both (one-cut _ _ _ _ _ c.read_number.ensures c.in_default.is)

pub returns-then-largest-len : goal.returns-then-largest-len
returns-then-largest-len c =
    both (one-low _ _ _ _ _ c.read_number.ensures c.in-Ok.is c.if-largest-len.true)

pub returns-then-ranges-lt2 : goal.returns-then-ranges-lt2
returns-then-ranges-lt2 c =
    both (one-no-room _ _ _ _ _ c.read_number.ensures c.in-Ok.is c.if-largest-len.false c.if-ranges-lt2.true)

pub returns : goal.returns
returns c =
    both (one-accepted _ _ _ _ _ c.read_number.ensures c.in-Ok.is c.if-largest-len.false c.if-ranges-lt2.false)
