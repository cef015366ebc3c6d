-- `receiver::causes::order` meets its contract: the arm taken is the rule that the threshold gives.
-- Assumes nothing.
use mathlib.Core.Path.{◌∙◌}
use native.Mathlib.Omega.{arith}
use Rattle.seen.specs.Received.{over}
use Rattle.receiver.specs.Packet.{order}
use Rattle.receiver.proofs.Missing.{order-low, order-high}
use Rattle.receiver.proofs.causes.order.Goals as goal

pub returns-in-0 : goal.returns-in-0
unfolding order
returns-in-0 c = rw c.in-0.is

pub returns-in-1 : goal.returns-in-1
unfolding order
returns-in-1 c = rw c.in-1.is c.out_of_order.ensures

pub returns-in-2-to-1023 : goal.returns-in-2-to-1023
returns-in-2-to-1023 c =
    let a = c.args in
    c.gap_reached.ensures ∙ order-low (over a.words.now a.seen) a.reordering a.number a.highest a.acknowledged a.end (omega arith) (omega arith)

pub returns-in_default : goal.returns-in_default
returns-in_default c =
    let a = c.args in
    c.gap_reached-in_default.ensures ∙ order-high (over a.words.now a.seen) a.reordering a.number a.highest a.acknowledged a.end (omega arith)
