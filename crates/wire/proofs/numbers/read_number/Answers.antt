-- `wire::numbers::read_number` meets its contract: a byte up to the largest value of code 0 is the number, and longer ones are read by their code.
-- Assumes nothing.
use Rattle.wire.proofs.Reading.{number-ends, number_short}
use Rattle.wire.proofs.numbers.read_number.Goals as goal

pub returns-then-s-at : goal.returns-then-s-at
returns-then-s-at c = number-ends _ _ c.if-s-at.true

pub returns-then-first-short : goal.returns-then-first-short
returns-then-first-short c =
    number_short _ _ _ _ _ c.if-s-at.false c.form_at-short.ensures.1 c.form_at-short.ensures.0 c.from-first.ensures c.if-first-short.true
