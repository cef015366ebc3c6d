-- `ack::room_before` meets its contract: the counts take as many bytes as their widths say.
-- Assumes nothing.
use native.Mathlib.Omega.{arith}
use Rattle.ack.proofs.Fitting.{narrow}
use Rattle.ack.proofs.Counts.{none-takes, three-take}
use Rattle.ack.proofs.room_before.Goals as goal

pub overflow_add-bytes : goal.overflow_add-bytes
overflow_add-bytes c =
    let x = narrow _ c.width.ensures in
    let y = narrow _ c.width-in-Some.ensures in
    omega arith

pub overflow_add-bytes-in-Some : goal.overflow_add-bytes-in-Some
overflow_add-bytes-in-Some c =
    let x = narrow _ c.width.ensures in
    let y = narrow _ c.width-in-Some.ensures in
    let z = narrow _ c.width-in-Some-2.ensures in
    omega arith

pub returns-in-None : goal.returns-in-None
returns-in-None c = none-takes c.in-None.is _

pub returns-in-Some : goal.returns-in-Some
returns-in-Some c =
    omega (arith, three-take c.in-Some.is c.requires c.width.ensures c.width-in-Some.ensures c.width-in-Some-2.ensures, c.saturating_sub.ensures)
