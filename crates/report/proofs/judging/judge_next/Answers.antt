-- `report::judge_next` meets its contract: each branch is one test of the definition.
-- Assumes nothing.
use Prim.Native.Nat.{◌%◌}
use borrow.Author.Tests.{le-leb, lt-leb, lt-ltb, le-ltb, eq-eqb, ne_eqb}
use lib.ListN.{length}
use Rattle.report.specs.Header.{judge}
use Rattle.report.proofs.judging.judge_next.Goals as goal

pub returns-then-adds_up : goal.returns-then-adds_up
unfolding judge
returns-then-adds_up c =
    let a = c.args in
    let ns = a.numbers.now in
    rw (eq-eqb (length ns) 5 c.if-n-eq-AT_LOST.true, ← c.adds_up.ensures, c.if-adds_up.true)

pub returns-then-n-eq-AT_LOST : goal.returns-then-n-eq-AT_LOST
unfolding judge
returns-then-n-eq-AT_LOST c =
    let a = c.args in
    let ns = a.numbers.now in
    rw (eq-eqb (length ns) 5 c.if-n-eq-AT_LOST.true, ← c.adds_up.ensures, c.if-adds_up.false)

pub returns-then-v-most_metrics : goal.returns-then-v-most_metrics
unfolding judge
returns-then-v-most_metrics c =
    let a = c.args in
    let ns = a.numbers.now in
    rw (ne_eqb (length ns) 5 c.if-n-eq-AT_LOST.false, eq-eqb (length ns) 7 c.if-n-eq-AT_METRICS.true, ← c.most_metrics.ensures.0, le-leb a.v c.most_metrics.result c.if-v-most_metrics.true)

pub returns-then-n-eq-AT_METRICS : goal.returns-then-n-eq-AT_METRICS
unfolding judge
returns-then-n-eq-AT_METRICS c =
    let a = c.args in
    let ns = a.numbers.now in
    rw (ne_eqb (length ns) 5 c.if-n-eq-AT_LOST.false, eq-eqb (length ns) 7 c.if-n-eq-AT_METRICS.true, ← c.most_metrics.ensures.0, lt-leb a.v c.most_metrics.result c.if-v-most_metrics.false)

pub returns-then-n-lt-FIXED : goal.returns-then-n-lt-FIXED
unfolding judge
returns-then-n-lt-FIXED c =
    let a = c.args in
    let ns = a.numbers.now in
    rw (ne_eqb (length ns) 5 c.if-n-eq-AT_LOST.false, ne_eqb (length ns) 7 c.if-n-eq-AT_METRICS.false, lt-ltb (length ns) 8 c.if-n-lt-FIXED.true)

pub returns-then-n-eq1 : goal.returns-then-n-eq1
unfolding judge
returns-then-n-eq1 c =
    let a = c.args in
    let ns = a.numbers.now in
    rw (ne_eqb (length ns) 5 c.if-n-eq-AT_LOST.false, ne_eqb (length ns) 7 c.if-n-eq-AT_METRICS.false, le-ltb (length ns) 8 c.if-n-lt-FIXED.false, eq-eqb (length ns % 2) 1 c.if-n-eq1.true)

pub returns : goal.returns
unfolding judge
returns c =
    let a = c.args in
    let ns = a.numbers.now in
    rw (ne_eqb (length ns) 5 c.if-n-eq-AT_LOST.false, ne_eqb (length ns) 7 c.if-n-eq-AT_METRICS.false, le-ltb (length ns) 8 c.if-n-lt-FIXED.false, ne_eqb (length ns % 2) 1 c.if-n-eq1.false) c.judge_later.ensures
