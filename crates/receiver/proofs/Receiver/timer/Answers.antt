-- `receiver::Receiver::timer` meets its contract: the refusal, and the record with the cause that then stands.
-- Assumes nothing.
use Rattle.wire.specs.Bytes.{pick}
use Rattle.receiver.specs.Calls.{timer_call, timer_due}
use Rattle.receiver.proofs.Standing.{looked}
use Rattle.receiver.proofs.Receiver.timer.Goals as goal

pub returns : goal.returns
unfolding timer_call
returns c =
    let s = c.args in
    rw (c.timer_cause-cause.ensures, c.is_ok.ensures.value, c.refusal_number-result.ensures, ← c.check_timer-checked.ensures)
    (looked c.check_timer-checked.result s.self (pick (timer_due s.self s.time) 5 0))
