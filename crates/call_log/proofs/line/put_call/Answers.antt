-- `call_log::put_call` meets its contract.
-- Assumes nothing.
use native.Mathlib.Omega.{arith}
use Rattle.texts.specs.Forms.{bytes}
use Rattle.decimal.specs.Decimal.{decimal}
use Rattle.call_log.proofs.Laws.{laid_on}
use Rattle.call_log.specs.Line.{call_text, call_form, call_values}
use Rattle.call_log.proofs.line.put_call.Goals as goal

pub returns-in-Open : goal.returns-in-Open
unfolding call_text call_form call_values
returns-in-Open c =
    rw c.in-Open.is (c.put_four.ensures.0, omega (arith, c.put_four.ensures.1))

pub returns-in-Packet : goal.returns-in-Packet
unfolding call_text call_form call_values
returns-in-Packet c =
    rw c.in-Packet.is (c.put_packet.ensures.0, omega (arith, c.put_packet.ensures.1))

pub returns-in-Timer : goal.returns-in-Timer
unfolding call_text call_form call_values
returns-in-Timer c =
    rw c.in-Timer.is (c.put_text.ensures.0, omega (arith, c.put_text.ensures.1))

pub returns-in-Threshold : goal.returns-in-Threshold
unfolding call_text call_form call_values
returns-in-Threshold c =
    rw c.in-Threshold.is (c.put_four-in-Threshold.ensures.0, omega (arith, c.put_four-in-Threshold.ensures.1))

pub returns-in-Immediate : goal.returns-in-Immediate
unfolding call_text call_form call_values
returns-in-Immediate c =
    rw c.in-Immediate.is (c.put_text-in-Immediate.ensures.0, omega (arith, c.put_text-in-Immediate.ensures.1))

pub returns-in-Confirm : goal.returns-in-Confirm
unfolding call_text call_form call_values
returns-in-Confirm c =
    rw c.in-Confirm.is (laid_on (bytes ",\"call\":\"confirm\",\"largest\":") (decimal c.in-Confirm.largest) c.put_field.ensures.0, omega (arith, c.put_field.ensures.1))

pub returns-in-Write : goal.returns-in-Write
unfolding call_text call_form call_values
returns-in-Write c =
    rw c.in-Write.is (c.put_write.ensures.0, omega (arith, c.put_write.ensures.1))
