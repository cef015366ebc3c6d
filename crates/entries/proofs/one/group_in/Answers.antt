-- `entries::group_in` meets its contract: a field of no bytes is 0, and ends where it begins.
-- Assumes nothing.
use Rattle.std.proofs.Common.{length, zero-le, le-leb}
use Rattle.wire.specs.Fields.{read_fixed}
use Rattle.entries.proofs.one.group_in.Goals as goal

pub returns-in-One : goal.returns-in-One
unfolding read_fixed
returns-in-One c = rw (c.in-One.is, le-leb 0 (length c.args.bytes.now) zero-le)

pub returns-in-Two : goal.returns-in-Two
returns-in-Two c = rw c.in-Two.is c.read_fixed8.ensures
