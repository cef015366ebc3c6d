-- `events::answer` meets its contract: a short record gives its refusal, and any other is the call of its event.
-- Assumes nothing.
use Rattle.events.specs.Events.{record_call}
use Rattle.events.proofs.calls.answer.Goals as goal

pub returns-in-Ok : goal.returns-in-Ok
unfolding record_call
returns-in-Ok c = rw (← c.read_event.ensures, c.in-Ok.is) c.call.ensures

pub returns-in-Err : goal.returns-in-Err
unfolding record_call
returns-in-Err c = rw (← c.read_event.ensures, c.in-Err.is, c.number.ensures)
