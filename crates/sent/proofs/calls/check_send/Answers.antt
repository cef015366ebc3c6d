-- `sent::calls::check_send` meets its contract: a test at a time.
-- Assumes nothing.
use Rattle.sent.proofs.Sends.{one, five, early, held_back, room}
use Rattle.sent.proofs.calls.check_send.Goals as goal

pub returns-then-not-consistent : goal.returns-then-not-consistent
returns-then-not-consistent c = one _ c.consistent.ensures c.if-not-consistent.true

pub returns-then-next-gt-LARGEST : goal.returns-then-next-gt-LARGEST
returns-then-next-gt-LARGEST c =
    five _ c.consistent.ensures c.if-not-consistent.false c.if-next-gt-LARGEST.true

pub returns-then-next-lt-HELD : goal.returns-then-next-lt-HELD
returns-then-next-lt-HELD c =
    early _ c.consistent.ensures c.if-not-consistent.false c.if-next-gt-LARGEST.false c.if-next-lt-HELD.true

pub returns-then-bit-eq0 : goal.returns-then-bit-eq0
returns-then-bit-eq0 c =
    held_back _ c.consistent.ensures c.if-not-consistent.false c.if-next-gt-LARGEST.false c.if-next-lt-HELD.false c.if-bit-eq0.true

pub returns : goal.returns
returns c =
    room _ c.consistent.ensures c.if-not-consistent.false c.if-next-gt-LARGEST.false c.if-next-lt-HELD.false c.if-bit-eq0.false
