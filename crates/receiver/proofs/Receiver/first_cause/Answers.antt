-- `receiver::Receiver::first_cause` meets its contract: the lines are tried in the paper's order.
-- Assumes nothing.
use Prim.Native.Nat.{ℕ}
use mathlib.Core.Path.{◌≡◌, sym, ap₂}
use mathlib.Core.Bool.{Bool, true, false}
use borrow.Author.Tests.{lt-ltb, le-ltb}
use lib.Dec.{ltb}
use Rattle.wire.specs.Bytes.{pick}
use Rattle.seen.specs.declared.Seen.{Seen}
use Rattle.receiver.specs.declared.Pending.{Pending}
use Rattle.receiver.specs.declared.Receiver.{Receiver}
use Rattle.receiver.specs.Packet.{order, congestion, first_cause}
use Rattle.seen.proofs.Tests.{told, denied}
use Rattle.receiver.proofs.Receiver.first_cause.Goals as goal

-- the order line, where the count has not been passed
by_order : (r : Receiver) (n : ℕ) (ce : Bool) (s : Seen) (p : Pending) → ltb r.agreed.threshold p.count ≡ false
    → order s r.agreed.reordering n r.highest r.acknowledged p.end ≡ true → 3 ≡ first_cause r n ce s p
unfolding first_cause
by_order r n ce s p i j = ap₂ (λ (x y : Bool). pick x 2 (pick y 3 (pick (congestion r ce) 4 0))) (sym i) (sym j)

pub returns-then-agreed-pending : goal.returns-then-agreed-pending
unfolding first_cause
returns-then-agreed-pending c = rw (lt-ltb _ _ c.if-agreed-pending.true)

pub returns-then-order : goal.returns-then-order
returns-then-order c = by_order _ _ _ _ _ (le-ltb _ _ c.if-agreed-pending.false) (told c.order.ensures c.if-order.true)

pub returns-then-congestion : goal.returns-then-congestion
unfolding first_cause
returns-then-congestion c = rw (le-ltb _ _ c.if-agreed-pending.false, denied c.order.ensures c.if-order.false, told c.congestion.ensures c.if-congestion.true)

pub returns : goal.returns
unfolding first_cause
returns c = rw (le-ltb _ _ c.if-agreed-pending.false, denied c.order.ensures c.if-order.false, denied c.congestion.ensures c.if-congestion.false)
