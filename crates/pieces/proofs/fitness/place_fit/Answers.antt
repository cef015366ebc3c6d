-- `pieces::fitness::place_fit` meets its contract: its tests are the definition's.
-- Assumes nothing.
use Rattle.pieces.proofs.Parts.{place-first-no, place-first, place-group, place_none, place-last}
use Rattle.pieces.proofs.fitness.place_fit.Goals as goal

pub returns-then-last-ne0 : goal.returns-then-last-ne0
returns-then-last-ne0 c =
    let a = c.args in
    place-first-no a.profile a.count a.left a.last a.above c.if-left-count.true c.if-last-ne0.true

pub returns-then-left-count : goal.returns-then-left-count
returns-then-left-count c =
    let a = c.args in
    place-first a.profile a.count a.left a.last a.above c.if-left-count.true c.if-last-ne0.false

pub returns-then-largest_group-last : goal.returns-then-largest_group-last
returns-then-largest_group-last c =
    let a = c.args in
    place-group a.profile a.count a.left a.last a.above c.if-left-count.false (rw c.largest_group.ensures at c.if-largest_group-last.true)

pub returns-then-above-eq0 : goal.returns-then-above-eq0
returns-then-above-eq0 c =
    let a = c.args in
    place_none a.profile a.count a.left a.last a.above c.if-left-count.false (rw c.largest_group.ensures at c.if-largest_group-last.false) c.if-above-eq0.true

pub returns : goal.returns
returns c =
    let a = c.args in
    place-last a.profile a.count a.left a.last a.above c.if-left-count.false (rw c.largest_group.ensures at c.if-largest_group-last.false) c.if-above-eq0.false
