-- `events::Event::call` meets its contract: the arm taken is the call that the kind names.
-- Assumes nothing.
use native.Mathlib.Omega.{arith}
use borrow.Author.Tests.{ne_eqb}
use Rattle.events.specs.Events.{ecn_mark, event_call}
use Rattle.events.proofs.Event.call.Goals as goal

pub returns-in-1 : goal.returns-in-1
unfolding event_call ecn_mark
returns-in-1 c =
    rw c.in-1.is (rw (c.is_eliciting.ensures, c.ecn_mark.ensures) at c.packet.ensures)

pub returns-in-2 : goal.returns-in-2
unfolding event_call
returns-in-2 c = rw c.in-2.is c.timer.ensures

pub returns-in-3 : goal.returns-in-3
unfolding event_call
returns-in-3 c = rw c.in-3.is c.write.ensures

pub returns-in-4 : goal.returns-in-4
unfolding event_call
returns-in-4 c = rw c.in-4.is c.immediate.ensures

pub returns-in_default : goal.returns-in_default
unfolding event_call
returns-in_default c =
    let k = c.args.self.kind in
    rw (ne_eqb k 1 (omega arith), ne_eqb k 2 (omega arith), ne_eqb k 3 (omega arith), ne_eqb k 4 (omega arith))
