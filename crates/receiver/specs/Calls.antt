-- Opening, timer, threshold frame and IMMEDIATE_ACK.
use Rattle.std.specs.Prelude.{ℕ, ◌+◌, ◌-◌, Bool, ◌&&◌, leb, ltb, eqb}
use Rattle.wire.specs.Bytes.{pick}
use Rattle.window.specs.Window.{window_of}
use Rattle.receiver.specs.declared.Millis.{Millis}
use Rattle.seen.specs.declared.Micros.{Micros}
use Rattle.receiver.specs.declared.Receiver.{Receiver}
use Rattle.receiver.specs.declared.Answer.{Answer}
use Rattle.receiver.specs.declared.Verdict.{Verdict}
use Rattle.receiver.specs.declared.Verdict.TheVariants.{Accepted, Stale, Refused}
use Rattle.receiver.specs.declared.Heard.{Heard}
use Rattle.seen.specs.Numbers.{small}
use Rattle.receiver.specs.Record.{micros_of, limits_rule, delay_rule, consistent}
use Rattle.receiver.specs.Packet.{standing, handed_back}

-- ---- "Opening takes [T, R], its own maximum delay in milliseconds and its own minimum delay in microseconds"

-- "The delay in force starts as the maximum in microseconds"
unfoldable pub opened : ℕ → ℕ → Millis → Micros → Receiver
opened threshold reordering maximum minimum =
    record {
      seen = record { window = window_of 0; end = 0; arrived = record { 0 = 0 }; confirmed = 0 };
      pending = record { count = 0; end = 0; first = record { 0 = 0 } };
      agreed = record { threshold = threshold; reordering = reordering; delay = micros_of maximum; sequence = 0 };
      limits = record { maximum = maximum; minimum = minimum };
      acknowledged = 0;
      highest = 0;
      ce = 0;
      cause = 0;
      totals = record { ect0 = 0; ect1 = 0; ce = 0; unmarked = 0 };
    }

-- "The usual opening is 1, 1, 25 ms with minimum 1,000"
abbrev pub usual : Receiver
usual = opened 1 1 (record { 0 = 25 }) (record { 0 = 1000 })

-- "5, then 4"
unfoldable pub open_refusal : ℕ → ℕ → Millis → Micros → ℕ
open_refusal threshold reordering maximum minimum =
    pick (small threshold && (small reordering && (small maximum.0 && small minimum.0)))
    (pick (limits_rule (record { maximum = maximum; minimum = minimum })) 0 4)
    5

-- "a refused opening (5, then 4) hands back that record beside its number"
unfoldable pub open_call : ℕ → ℕ → Millis → Micros → Answer
open_call threshold reordering maximum minimum =
    handed_back (open_refusal threshold reordering maximum minimum) usual (opened threshold reordering maximum minimum)

-- ---- the cause alone changes

abbrev pub with_cause : Receiver → ℕ → Receiver
with_cause r cause =
    record {
      seen = r.seen;
      pending = r.pending;
      agreed = r.agreed;
      limits = r.limits;
      acknowledged = r.acknowledged;
      highest = r.highest;
      ce = r.ce;
      cause = cause;
      totals = r.totals;
    }

-- "IMMEDIATE_ACK sets cause 1 if none stands; before the first packet it is refused with 8"
unfoldable pub immediate_refusal : Receiver → ℕ
immediate_refusal r = pick (consistent r) (pick (eqb r.seen.end 0) 8 0) 1

abbrev pub immediate_after : Receiver → Receiver
immediate_after r = with_cause r (standing r.cause 1)

unfoldable pub immediate_call : Receiver → Answer
immediate_call r = handed_back (immediate_refusal r) r (immediate_after r)

-- "Timer (time) sets cause 5 if none stands, N > 0 and the time since the first unacknowledged arrival is at least the delay in force"; "A clock that went back counts as no time passed"
unfoldable pub timer_due : Receiver → Micros → Bool
timer_due r time = ltb 0 r.pending.count && leb r.agreed.delay.0 (time.0 - r.pending.first.0)

unfoldable pub timer_refusal : Receiver → Micros → ℕ
timer_refusal r time = pick (consistent r) (pick (small time.0) 0 5) 1

abbrev pub timer_after : Receiver → Micros → Receiver
timer_after r time = with_cause r (standing r.cause (pick (timer_due r time) 5 0))

unfoldable pub timer_call : Receiver → Micros → Answer
timer_call r time = handed_back (timer_refusal r time) r (timer_after r time)

-- ---- "Threshold frame"

-- "Otherwise T, R, delay and sequence change, and no cause is set by that alone"
unfoldable pub agreed_after : Receiver → ℕ → ℕ → Micros → ℕ → Receiver
agreed_after r sequence threshold delay reordering =
    record {
      seen = r.seen;
      pending = r.pending;
      agreed = record { threshold = threshold; reordering = reordering; delay = delay; sequence = sequence + 1 };
      limits = r.limits;
      acknowledged = r.acknowledged;
      highest = r.highest;
      ce = r.ce;
      cause = r.cause;
      totals = r.totals;
    }

-- 1, 5, 4; then "stale if its sequence is not above the largest processed (the first never is)"
unfoldable pub threshold_verdict : Receiver → ℕ → ℕ → Micros → ℕ → Verdict
threshold_verdict r sequence threshold delay reordering =
    pick (consistent r)
    (pick (small sequence && (small threshold && (small delay.0 && small reordering)))
    (pick (delay_rule r.limits delay) (pick (ltb sequence r.agreed.sequence) Stale Accepted) (Refused 4))
    (Refused 5))
    (Refused 1)

abbrev pub heard : Verdict → Receiver → Receiver → Heard
heard Accepted old new = record { verdict = Accepted; next = new }
heard Stale old new = record { verdict = Stale; next = old }
heard (Refused refusal) old new = record { verdict = Refused refusal; next = old }

unfoldable pub threshold_call : Receiver → ℕ → ℕ → Micros → ℕ → Heard
threshold_call r sequence threshold delay reordering =
    heard (threshold_verdict r sequence threshold delay reordering) r (agreed_after r sequence threshold delay reordering)
