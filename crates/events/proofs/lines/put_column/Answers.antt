-- `events::put_column` meets its contract: the digits that `fill` left go back in their place, and the byte that ends them follows.
-- Assumes nothing.
use native.Mathlib.Omega.{arith}
use borrow.Author.Rules.{rules}
use Rattle.events.proofs.Laid.{column-laid}
use Rattle.events.proofs.lines.put_column.Goals as goal

pub returns : goal.returns
returns c =
    let a = c.args in
    (search rules, column-laid a.buf.now _ a.at a.digits a.n a.ends c.requires.0 (omega arith) c.fill.ensures)
