-- `entries::record_size` meets its contract: each arm is the size of its profile.
-- Assumes nothing.
use Rattle.entries.proofs.record_size.Goals as goal

pub returns-in-One : goal.returns-in-One
returns-in-One c = rw c.in-One.is

pub returns-in-Two : goal.returns-in-Two
returns-in-Two c = rw c.in-Two.is
