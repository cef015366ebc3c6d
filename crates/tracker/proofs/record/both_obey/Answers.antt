-- `tracker::record::both_obey` meets its contract: its tests are the definition's.
-- Assumes nothing.
use borrow.Author.Tests.{lt-leb, le-leb}
use Rattle.wire.specs.Numbers.{limit}
use Rattle.tracker.proofs.record.both_obey.Goals as goal

pub returns-then-m-gt-LARGEST : goal.returns-then-m-gt-LARGEST
returns-then-m-gt-LARGEST c = rw (lt-leb c.args.m limit c.if-m-gt-LARGEST.true)

pub returns : goal.returns
returns c = rw (le-leb c.args.m limit c.if-m-gt-LARGEST.false)
