-- `newest::below` meets its contract: each branch is one test of the definition.
-- Assumes nothing.
use borrow.Author.Tests.{eq-eqb, ne_eqb}
use Rattle.newest.proofs.search.below.Goals as goal

pub returns-then-top-group : goal.returns-then-top-group
returns-then-top-group c = let a = c.args in rw (eq-eqb a.top a.group c.if-top-group.true)

pub returns-else-top-group : goal.returns-else-top-group
returns-else-top-group c = let a = c.args in rw (ne_eqb a.top a.group c.if-top-group.false)
