-- `totals::is_shown` meets its contract: each branch is one test of the definition.
-- Assumes nothing.
use borrow.Author.Tests.{eq-eqb, ne_eqb, le-leb, lt-leb}
use Rattle.page.specs.Page.{is_shown}
use Rattle.page.proofs.is_shown.Goals as goal

pub returns-then-place-eq0 : goal.returns-then-place-eq0
unfolding is_shown
returns-then-place-eq0 c = rw (eq-eqb c.args.place 0 c.if-place-eq0.true)

pub returns-then-place-ge-AT_TOTAL : goal.returns-then-place-ge-AT_TOTAL
unfolding is_shown
returns-then-place-ge-AT_TOTAL c = let p = c.args.place in rw (ne_eqb p 0 c.if-place-eq0.false, le-leb 21 p c.if-place-ge-AT_TOTAL.true)

pub returns : goal.returns
unfolding is_shown
returns c = let p = c.args.place in rw (ne_eqb p 0 c.if-place-eq0.false, lt-leb 21 p c.if-place-ge-AT_TOTAL.false)
