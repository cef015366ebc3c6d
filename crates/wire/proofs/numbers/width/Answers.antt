-- `wire::numbers::width` meets its contract: no form holds a number above the limit.
-- Assumes nothing.
use mathlib.Core.Path.{sym}
use Rattle.wire.proofs.Lengths.{width-large}
use Rattle.wire.proofs.numbers.width.Goals as goal

pub returns-in-Err : goal.returns-in-Err
returns-in-Err c = sym (width-large _ c.in-Err.ensures.1)
