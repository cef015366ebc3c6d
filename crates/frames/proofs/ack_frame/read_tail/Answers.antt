-- `frames::ack_frame::read_tail` meets its contract: nothing is read, or one law for each count.
-- Assumes nothing.
use Rattle.frames.proofs.Answers.{tail_none, tail-cut, tail-cut-2, tail-cut-3, tail-whole}
use Rattle.frames.proofs.ack_frame.read_tail.Goals as goal

pub returns-then-not-counted : goal.returns-then-not-counted
returns-then-not-counted c = tail_none _ _ c.if-not-counted.true

pub returns-in_default : goal.returns-in_default
returns-in_default c =
    tail-cut _ _ c.if-not-counted.false c.read_number.ensures c.in_default.is

pub returns-in_default-read_number : goal.returns-in_default-read_number
returns-in_default-read_number c =
    tail-cut-2 _ _ c.if-not-counted.false c.read_number.ensures c.in-Ok.is c.read_number-2.ensures c.in_default-read_number.is

pub returns-in_default-read_number-2 : goal.returns-in_default-read_number-2
returns-in_default-read_number-2 c =
    tail-cut-3 _ _ c.if-not-counted.false c.read_number.ensures c.in-Ok.is c.read_number-2.ensures c.in-Ok-read_number.is
    c.read_number-3.ensures c.in_default-read_number-2.is

pub returns : goal.returns
returns c =
    tail-whole _ _ c.if-not-counted.false c.read_number.ensures c.in-Ok.is c.read_number-2.ensures c.in-Ok-read_number.is
    c.read_number-3.ensures c.in-Ok-read_number-2.is
