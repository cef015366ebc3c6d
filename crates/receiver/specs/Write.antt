-- "Write": refusals 1, 5, 8, 9, the ACK frame of what was received, and the record after it.
use Rattle.std.specs.Prelude.{ℕ, zero, suc, List, length}
use Rattle.wire.specs.Bytes.{pick}
use Rattle.seen.specs.declared.Micros.{Micros}
use Rattle.ack.specs.Ack.{refusal_after1, ack_frame, laid}
use Rattle.receiver.specs.declared.Receiver.{Receiver}
use Rattle.receiver.specs.declared.Wrote.{Wrote}
use Rattle.ecn.specs.declared.Kind.{Kind}
use Rattle.ecn.specs.Totals.{tail_of}
use Rattle.receiver.specs.Record.{consistent}

-- ---- xs is the lent buffer, its length the room

-- 1, then 5, 8, 9
unfoldable pub write_refusal : Receiver → Micros → Kind → ℕ → ℕ
write_refusal r time kind room = pick (consistent r) (refusal_after1 r.seen time (tail_of kind r.totals) room) 1

-- "After it A = L, U is absent, N and cause are 0"
unfoldable pub after_write : Receiver → Receiver
after_write r =
    record {
      seen = r.seen;
      pending = record { count = 0; end = 0; first = r.pending.first };
      agreed = r.agreed;
      limits = r.limits;
      acknowledged = r.seen.end;
      highest = r.highest;
      ce = r.ce;
      cause = 0;
      totals = r.totals;
    }

-- the frame that the call emits
abbrev pub emitted : Receiver → Micros → Kind → ℕ → List ℕ
emitted r time kind room = ack_frame r.seen time (tail_of kind r.totals) room

-- "A refusal returns its number and the record as it came in"
abbrev pub answered : ℕ → Receiver → List ℕ → Wrote
answered zero r bytes = record { result = 0; length = length bytes; next = after_write r }
answered (suc refusal) r bytes = record { result = suc refusal; length = 0; next = r }

-- the answer
unfoldable pub write_answer : Receiver → Micros → Kind → List ℕ → Wrote
write_answer r time kind xs = answered (write_refusal r time kind (length xs)) r (emitted r time kind (length xs))

-- the lent buffer after it
unfoldable pub write_bytes : Receiver → Micros → Kind → List ℕ → List ℕ
write_bytes r time kind xs = laid (write_refusal r time kind (length xs)) xs (emitted r time kind (length xs))
