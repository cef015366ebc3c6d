-- "Consistent means", clause by clause: what refusal 1 asks of a record, and nothing else.
use Rattle.std.specs.Prelude.{ℕ, ◌+◌, ◌-◌, ◌*◌, ◌≤◌, ◌<◌, ◌≡◌, true, false, ◌↔◌}
use Rattle.wire.specs.Numbers.{limit}
use Rattle.window.specs.Window.{places, value_of, is_set}
use Rattle.receiver.specs.declared.Receiver.{Receiver}
use Rattle.receiver.specs.Record.{consistent}

pub record Consistent (r : Receiver) : Type 0 where
  -- "every number and time obeys 5": of an end, the number before it
  pub largest : r.seen.end ≤ limit + 1
  pub arrived : r.seen.arrived.0 ≤ limit
  pub first : r.pending.first.0 ≤ limit
  pub threshold : r.agreed.threshold ≤ limit
  pub reordering : r.agreed.reordering ≤ limit
  pub sequence : r.agreed.sequence ≤ limit + 1
  -- "N is at most 2^62"
  pub count : r.pending.count ≤ limit + 1
  -- "the delay rule holds", of the own limits and of the delay in force
  pub maximum : r.limits.maximum.0 < 16384
  pub minimum : r.limits.minimum.0 ≤ r.limits.maximum.0 * 1000
  pub delay : r.agreed.delay.0 < 16384000
  pub least : r.limits.minimum.0 ≤ r.agreed.delay.0
  -- "the cause is 0 to 5"
  pub cause : r.cause ≤ 5
  -- "A, H and U are each absent or at most L"
  pub acknowledged : r.acknowledged ≤ r.seen.end
  pub highest : r.highest ≤ r.seen.end
  pub unacknowledged : r.pending.end ≤ r.seen.end
  -- "U is absent exactly when N is 0"
  pub absent : (r.pending.end ≡ 0) ↔ (r.pending.count ≡ 0)
  -- "L's own place is marked and none below number 0"; "if nothing was received, no place is marked"
  pub own : 0 < r.seen.end → is_set (value_of r.seen.window) (places - 1) ≡ true
  pub below : (place : ℕ) → place < places - r.seen.end → is_set (value_of r.seen.window) place ≡ false
  -- "the floor is at most L, and 0 while nothing was received" (02, No. 12)
  pub floor : r.seen.confirmed ≤ r.seen.end - 1
  -- "1 also for a total above that", 2^62 - 1 (02, No. 2)
  pub totals : (r.totals.ect0 ≤ limit) × (r.totals.ect1 ≤ limit) × (r.totals.ce ≤ limit) × (r.totals.unmarked ≤ limit)
  -- "if nothing was received, [..] A, H and U are absent and N and the cause are 0": the others follow from the clauses above
  pub nothing : r.seen.end ≡ 0 → r.cause ≡ 0

-- the test that the calls make is this list, for made-up records too
abbrev pub ConsistentExactly : Type 0
ConsistentExactly = (r : Receiver) → (consistent r ≡ true) ↔ Consistent r
