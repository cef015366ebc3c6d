-- `totals::one_if` meets its contract: each branch is the test of the definition.
-- Assumes nothing.
use borrow.Author.Tests.{eq-eqb, ne_eqb}
use Rattle.totals.proofs.adding.one_if.Goals as goal

pub returns-then-status-wanted : goal.returns-then-status-wanted
returns-then-status-wanted c = let a = c.args in rw (eq-eqb a.status a.wanted c.if-status-wanted.true)

pub returns-else-status-wanted : goal.returns-else-status-wanted
returns-else-status-wanted c = let a = c.args in rw (ne_eqb a.status a.wanted c.if-status-wanted.false)
