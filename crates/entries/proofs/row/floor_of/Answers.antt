-- `entries::floor_of` meets its contract: each branch is the test of the definition.
-- Assumes nothing.
use Rattle.std.proofs.Common.{eq-eqb, ne_eqb}
use Rattle.entries.proofs.row.floor_of.Goals as goal

pub returns-then-group-last : goal.returns-then-group-last
returns-then-group-last c = let a = c.args in rw (eq-eqb a.group a.last c.if-group-last.true)

pub returns-else-group-last : goal.returns-else-group-last
returns-else-group-last c = let a = c.args in rw (ne_eqb a.group a.last c.if-group-last.false)
