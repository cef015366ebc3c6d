-- `tracker::records::put_entries` meets its contract. The loop's invariant: the entries to come, laid over the buffer as it is, give the whole.
-- Assumes nothing.
use lib.ListN.{length}
use Rattle.wire.specs.Bytes.{splice}
use Rattle.tracker.specs.Record.{known}
use Rattle.tracker.specs.Counting.{statuses_by}
use Rattle.tracker.proofs.Storing.{rest, Laying}
use Rattle.tracker.proofs.records.put_entries.Given as goal

abbrev pub invariant-loop-place : goal.invariant-loop-place
invariant-loop-place l =
    Laying (statuses_by l.end l.tracker) (known l.tracker) l.time l.place l.at (length l.initial.buf) l.buf (splice l.initial.buf 0 (rest (statuses_by l.end l.tracker) (known l.tracker) l.time 0))
