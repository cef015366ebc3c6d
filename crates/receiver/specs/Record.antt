-- "The receiver record": the two delays and their rule, and what consistent means.
-- What may be absent is kept as an end, one past the number, and 0 for none.
use Rattle.std.specs.Prelude.{ℕ, ◌*◌, Bool, not, ◌&&◌, leb, ltb, eqb}
use Rattle.wire.specs.Bytes.{pick}
use Rattle.seen.specs.Numbers.{small, small_end}
use Rattle.seen.specs.Received.{seen_consistent}
use Rattle.receiver.specs.declared.Millis.{Millis}
use Rattle.seen.specs.declared.Micros.{Micros}
use Rattle.receiver.specs.declared.Pending.{Pending}
use Rattle.receiver.specs.declared.Agreed.{Agreed}
use Rattle.receiver.specs.declared.Limits.{Limits}
use Rattle.receiver.specs.declared.Receiver.{Receiver}
use Rattle.ecn.specs.Totals.{totals_consistent}

-- ---- the two delays, "in different units; each has its own type here"

abbrev pub micros_of : Millis → Micros
micros_of m = record { 0 = m.0 * 1000 }

-- "the maximum is below 16,384 ms, and the minimum is not above it"
unfoldable pub limits_rule : Limits → Bool
limits_rule l = ltb l.maximum.0 16384 && leb l.minimum.0 (micros_of l.maximum).0

-- "A requested delay must be below 16,384,000 microseconds and not below the minimum"
unfoldable pub delay_rule : Limits → Micros → Bool
delay_rule l delay = ltb delay.0 16384000 && leb l.minimum.0 delay.0

-- ---- "Consistent means"

-- "N is at most 2^62"; U is "absent or at most L" and "absent exactly when N is 0"
unfoldable pub pending_consistent : Pending → ℕ → Bool
pending_consistent p end = small_end p.count && (small p.first.0 && (leb p.end end && pick (eqb p.count 0) (eqb p.end 0) (not (eqb p.end 0))))

-- the values in force obey 5 and, the delay, its rule
unfoldable pub agreed_consistent : Agreed → Limits → Bool
agreed_consistent a l = small a.threshold && (small a.reordering && (small_end a.sequence && delay_rule l a.delay))

-- each part by its own rule, the totals too (02, No. 2): "the delay rule holds; the cause is 0 to 5; A, H and U are each absent or at most L"; "if nothing was received, [..] the cause [is] 0"
abbrev pub rest_consistent : Receiver → Bool
rest_consistent r =
    pending_consistent r.pending r.seen.end
    && (limits_rule r.limits
    && (agreed_consistent r.agreed r.limits
    && (totals_consistent r.totals
    && (leb r.acknowledged r.seen.end
    && (leb r.highest r.seen.end
    && pick (eqb r.seen.end 0) (eqb r.cause 0) (leb r.cause 5))))))

-- what was received, and the rest of the record
unfoldable pub consistent : Receiver → Bool
consistent r = seen_consistent r.seen && rest_consistent r
