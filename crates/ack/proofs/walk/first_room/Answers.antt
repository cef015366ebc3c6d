-- `ack::walk::first_room` meets its contract. Assumes nothing.
use native.Mathlib.Omega.{arith}
use Rattle.ack.proofs.Fitting.{narrow}
use Rattle.ack.proofs.walk.first_room.Goals as goal

pub overflow_add-result : goal.overflow_add-result
overflow_add-result c = omega (arith, narrow _ c.width.ensures)

pub overflow_add-result-2 : goal.overflow_add-result-2
overflow_add-result-2 c = omega (arith, narrow _ c.width.ensures, narrow _ c.width-2.ensures)

pub overflow_add-result-3 : goal.overflow_add-result-3
overflow_add-result-3 c = omega (arith, narrow _ c.width.ensures, narrow _ c.width-2.ensures, narrow _ c.width-3.ensures)
