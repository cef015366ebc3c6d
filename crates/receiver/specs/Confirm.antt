-- Forgetting what the sender has confirmed (02, No. 12): refusals 1, 5, 8, then 19, and the record whose floor has risen.
use Rattle.std.specs.Prelude.{ℕ, Bool, leb, eqb}
use Rattle.wire.specs.Bytes.{pick}
use Rattle.seen.specs.Numbers.{small}
use Rattle.seen.specs.Received.{confirmed_after}
use Rattle.receiver.specs.declared.Receiver.{Receiver}
use Rattle.receiver.specs.declared.Answer.{Answer}
use Rattle.receiver.specs.Record.{consistent}
use Rattle.receiver.specs.Packet.{handed_back}

-- "k is above A or A is absent": with A kept as an end the two are one test
abbrev pub not_acknowledged : Receiver → ℕ → Bool
not_acknowledged r k = leb r.acknowledged k

-- "1, 5, 8 for this call too, then 19"
unfoldable pub confirm_refusal : Receiver → ℕ → ℕ
confirm_refusal r k = pick (consistent r) (pick (small k) (pick (eqb r.seen.end 0) 8 (pick (not_acknowledged r k) 19 0)) 5) 1

-- "The record gets a floor that rises"; nothing else changes
abbrev pub confirm_after : Receiver → ℕ → Receiver
confirm_after r k =
    record {
      seen = confirmed_after r.seen k;
      pending = r.pending;
      agreed = r.agreed;
      limits = r.limits;
      acknowledged = r.acknowledged;
      highest = r.highest;
      ce = r.ce;
      cause = r.cause;
      totals = r.totals;
    }

unfoldable pub confirm_call : Receiver → ℕ → Answer
confirm_call r k = handed_back (confirm_refusal r k) r (confirm_after r k)
