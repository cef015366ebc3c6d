-- `entries::judge_entry` meets its contract: each branch is one test of the definition.
-- Assumes nothing.
use Rattle.std.proofs.Common.{arith, eq-eqb, ne_eqb, le-leb}
use borrow.Author.Tests.{lt-leb}
use Rattle.wire.specs.Numbers.{limit}
use Rattle.entries.specs.Entries.{entry_from}
use Rattle.entries.proofs.one.judge_entry.Goals as goal

pub returns-then-group-gt-LARGEST : goal.returns-then-group-gt-LARGEST
unfolding entry_from
returns-then-group-gt-LARGEST c = let a = c.args in rw (lt-leb a.group limit c.if-group-gt-LARGEST.true)

pub returns-then-object-gt-LARGEST : goal.returns-then-object-gt-LARGEST
unfolding entry_from
returns-then-object-gt-LARGEST c = let a = c.args in rw (le-leb a.group limit c.if-group-gt-LARGEST.false, lt-leb a.parts.object limit c.if-object-gt-LARGEST.true)

pub returns-then-zeros-ne0 : goal.returns-then-zeros-ne0
unfolding entry_from
returns-then-zeros-ne0 c = let a = c.args in rw (le-leb a.group limit c.if-group-gt-LARGEST.false, le-leb a.parts.object limit c.if-object-gt-LARGEST.false, ne_eqb a.parts.zeros 0 c.if-zeros-ne0.true)

pub returns-in-0 : goal.returns-in-0
unfolding entry_from
returns-in-0 c =
    let a = c.args in
    rw (le-leb a.group limit c.if-group-gt-LARGEST.false, le-leb a.parts.object limit c.if-object-gt-LARGEST.false, eq-eqb a.parts.zeros 0 c.if-zeros-ne0.false, c.in-0.is) c.made.ensures

pub returns-in-1 : goal.returns-in-1
unfolding entry_from
returns-in-1 c =
    let a = c.args in
    rw (le-leb a.group limit c.if-group-gt-LARGEST.false, le-leb a.parts.object limit c.if-object-gt-LARGEST.false, eq-eqb a.parts.zeros 0 c.if-zeros-ne0.false, c.in-1.is) c.made-in-1.ensures

pub returns-then-age-eq0 : goal.returns-then-age-eq0
unfolding entry_from
returns-then-age-eq0 c =
    let a = c.args in
    rw (le-leb a.group limit c.if-group-gt-LARGEST.false, le-leb a.parts.object limit c.if-object-gt-LARGEST.false, eq-eqb a.parts.zeros 0 c.if-zeros-ne0.false, c.in-2.is, eq-eqb a.parts.age 0 c.if-age-eq0.true) c.made-then-age-eq0.ensures

pub returns-else-age-eq0 : goal.returns-else-age-eq0
unfolding entry_from
returns-else-age-eq0 c =
    let a = c.args in
    rw (le-leb a.group limit c.if-group-gt-LARGEST.false, le-leb a.parts.object limit c.if-object-gt-LARGEST.false, eq-eqb a.parts.zeros 0 c.if-zeros-ne0.false, c.in-2.is, ne_eqb a.parts.age 0 c.if-age-eq0.false)

pub returns-in-3 : goal.returns-in-3
unfolding entry_from
returns-in-3 c =
    let a = c.args in
    rw (le-leb a.group limit c.if-group-gt-LARGEST.false, le-leb a.parts.object limit c.if-object-gt-LARGEST.false, eq-eqb a.parts.zeros 0 c.if-zeros-ne0.false, c.in-3.is) c.made-in-3.ensures

pub returns-in_default : goal.returns-in_default
unfolding entry_from
returns-in_default c =
    let a = c.args in
    rw (le-leb a.group limit c.if-group-gt-LARGEST.false, le-leb a.parts.object limit c.if-object-gt-LARGEST.false, eq-eqb a.parts.zeros 0 c.if-zeros-ne0.false, ne_eqb a.parts.status 0 (omega arith), ne_eqb a.parts.status 1 (omega arith), ne_eqb a.parts.status 2 (omega arith), ne_eqb a.parts.status 3 (omega arith))
