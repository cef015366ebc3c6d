-- `ack::put_counts` meets its contract: nothing is put, or the three counts, for which there is room.
-- Assumes nothing.
use Rattle.ack.proofs.Counts.{none-put, three-done, three-put}
use Rattle.ack.proofs.put_counts.Goals as goal

pub unwrap-requires : goal.unwrap-requires
unwrap-requires c =
    rw (three-done c.in-Some.is c.requires.0 c.args.buf.now c.args.at c.requires.1 c.put_numbers.ensures.0)

pub returns-in-None : goal.returns-in-None
returns-in-None c = none-put c.in-None.is _ _

pub returns-in-Some : goal.returns-in-Some
returns-in-Some c =
    three-put c.in-Some.is c.requires.0 c.args.buf.now c.args.at c.requires.1 c.put_numbers.ensures.0 c.unwrap.ensures c.put_numbers.ensures.1
