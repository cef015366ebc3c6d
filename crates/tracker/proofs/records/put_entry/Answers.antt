-- `tracker::records::put_entry` meets its contract: three fields written one after the other are the record.
-- Assumes nothing.
use Rattle.entries.specs.Entries.{status_number}
use Rattle.tracker.proofs.Storing.{status-known, entry-stored}
use Rattle.tracker.proofs.records.put_entry.Goals as goal

pub returns : goal.returns
returns c =
    let a = c.args in
    entry-stored a.buf.now a.at a.object (status_number a.status) a.age c.requires.0 (status-known a.status) c.put_fixed8.ensures.1 (rw c.number.ensures at c.put_fixed4.ensures.1) c.put_fixed4-2.ensures.1
