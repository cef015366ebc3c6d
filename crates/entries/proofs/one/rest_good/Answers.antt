-- `entries::rest_good` meets its contract: each branch is one test of the definition, and the oldest age stands for that of the age.
-- Assumes nothing.
use Rattle.std.proofs.Common.{eq-eqb, ne_eqb, le-leb}
use borrow.Author.Tests.{lt-leb}
use Rattle.entries.proofs.Steps.{oldest-age}
use Rattle.entries.proofs.one.rest_good.Goals as goal

pub returns-then-zeros-ne0 : goal.returns-then-zeros-ne0
returns-then-zeros-ne0 c = rw (ne_eqb c.args.zeros 0 c.if-zeros-ne0.true)

pub returns-then-status-gt3 : goal.returns-then-status-gt3
returns-then-status-gt3 c = let a = c.args in rw (eq-eqb a.zeros 0 c.if-zeros-ne0.false, lt-leb a.status 3 c.if-status-gt3.true)

pub returns : goal.returns
returns c =
    let a = c.args in
    rw (eq-eqb a.zeros 0 c.if-zeros-ne0.false, le-leb a.status 3 c.if-status-gt3.false) (oldest-age a.status a.age c.if-status-gt3.false c.requires)
