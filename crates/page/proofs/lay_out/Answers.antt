-- `page::lay_out` meets its contract: the page that the tests lead to is the one that the definition says.
-- Assumes nothing.
use native.Mathlib.Omega.{arith}
use Rattle.page.proofs.Printing.{printed-skipping, printed-left, printed-whole}
use Rattle.page.proofs.lay_out.Goals as goal

pub returns-then-skip-ne0 : goal.returns-then-skip-ne0
returns-then-skip-ne0 c =
    let a = c.args in
    let e = c.put_early.ensures in
    rw (printed-skipping a.standing a.left c.if-skip-ne0.true) (e.0, e.1, omega (arith, e.0))

pub returns-then-left-ne0 : goal.returns-then-left-ne0
returns-then-left-ne0 c =
    let a = c.args in
    let e = c.put_early-then-left-ne0.ensures in
    rw (printed-left a.standing a.left c.if-left-ne0.true) (e.0, e.1, omega (arith, e.0))

pub returns : goal.returns
returns c =
    let a = c.args in
    rw (printed-whole a.standing a.left (omega arith) (omega arith)) c.put_lines.ensures
