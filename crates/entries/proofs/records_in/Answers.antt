-- `entries::records_in` meets its contract: each arm divides by the size of its profile.
-- Assumes nothing.
use Rattle.entries.proofs.records_in.Goals as goal

pub returns-in-One : goal.returns-in-One
returns-in-One c = rw c.in-One.is

pub returns-in-Two : goal.returns-in-Two
returns-in-Two c = rw c.in-Two.is
