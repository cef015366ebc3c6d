-- `tracker::record::first_named` meets its contract: its tests are the definition's.
-- Assumes nothing.
use borrow.Author.Tests.{eq-eqb, ne_eqb, le-leb, lt-leb}
use Rattle.tracker.specs.Known.{most_objects}
use Rattle.tracker.specs.Record.{named_of, first_named}
use Rattle.tracker.proofs.record.first_named.Goals as goal

pub returns-then-named-eq0 : goal.returns-then-named-eq0
unfolding first_named
returns-then-named-eq0 c = rw (eq-eqb (named_of c.args.tracker.now) 0 c.if-named-eq0.true) c.none_arrived.ensures

pub returns-then-named : goal.returns-then-named
unfolding first_named
returns-then-named c =
    let n = named_of c.args.tracker.now in
    rw (ne_eqb n 0 c.if-named-eq0.false, lt-leb n most_objects c.if-named.true)

pub returns : goal.returns
unfolding first_named
returns c =
    let n = named_of c.args.tracker.now in
    rw (ne_eqb n 0 c.if-named-eq0.false, le-leb n most_objects c.if-named.false) c.has_arrived.ensures
