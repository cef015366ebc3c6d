-- `report::judge_later` meets its contract: each branch is one test of the definition.
-- Assumes nothing.
use Prim.Native.Nat.{◌-◌, ◌/◌}
use borrow.Author.Tests.{le-leb, lt-leb, lt-ltb, le-ltb, eq-eqb, ne_eqb}
use lib.ListN.{length, get_or}
use Rattle.report.specs.Header.{judge_later}
use Rattle.report.proofs.judging.judge_later.Goals as goal

pub returns-then-v : goal.returns-then-v
unfolding judge_later
returns-then-v c =
    let a = c.args in
    let ns = a.numbers.now in
    rw (eq-eqb ((length ns - 8) / 2) (get_or ns 7 0) c.if-metric-metrics.true, le-leb a.v 200 c.if-v.true)

pub returns-then-metric-metrics : goal.returns-then-metric-metrics
unfolding judge_later
returns-then-metric-metrics c =
    let a = c.args in
    let ns = a.numbers.now in
    rw (eq-eqb ((length ns - 8) / 2) (get_or ns 7 0) c.if-metric-metrics.true, lt-leb a.v 200 c.if-v.false)

pub returns-then-not-type_allowed : goal.returns-then-not-type_allowed
unfolding judge_later
returns-then-not-type_allowed c =
    let a = c.args in
    let ns = a.numbers.now in
    rw (ne_eqb ((length ns - 8) / 2) (get_or ns 7 0) c.if-metric-metrics.false, ← c.type_allowed.ensures, c.if-not-type_allowed.true)

pub returns-then-n-eq-FIXED : goal.returns-then-n-eq-FIXED
unfolding judge_later
returns-then-n-eq-FIXED c =
    let a = c.args in
    let ns = a.numbers.now in
    rw (ne_eqb ((length ns - 8) / 2) (get_or ns 7 0) c.if-metric-metrics.false, ← c.type_allowed.ensures, c.if-not-type_allowed.false, eq-eqb (length ns) 8 c.if-n-eq-FIXED.true)

pub returns-then-numbers-n : goal.returns-then-numbers-n
unfolding judge_later
returns-then-numbers-n c =
    let a = c.args in
    let ns = a.numbers.now in
    rw (ne_eqb ((length ns - 8) / 2) (get_or ns 7 0) c.if-metric-metrics.false, ← c.type_allowed.ensures, c.if-not-type_allowed.false, ne_eqb (length ns) 8 c.if-n-eq-FIXED.false, lt-ltb (get_or ns (length ns - 2) 0) a.v c.if-numbers-n.true)

pub returns-else-numbers-n : goal.returns-else-numbers-n
unfolding judge_later
returns-else-numbers-n c =
    let a = c.args in
    let ns = a.numbers.now in
    rw (ne_eqb ((length ns - 8) / 2) (get_or ns 7 0) c.if-metric-metrics.false, ← c.type_allowed.ensures, c.if-not-type_allowed.false, ne_eqb (length ns) 8 c.if-n-eq-FIXED.false, le-ltb (get_or ns (length ns - 2) 0) a.v c.if-numbers-n.false)
