-- `week::turn` meets its contract: the read changes nothing of what was left, and it has room.
use Rattle.std.proofs.Common.{◌-◌, ◌≡◌, ◌++◌, arith, length, length-append, drop, length-drop}
use Rattle.week.specs.Turn.{answer_of}
use Rattle.week.proofs.Turning.{Moved, moved-in, part-long, turned_by}
use Rattle.week.proofs.turn.Goals as goal

pub returns : goal.returns
returns g c =
    let xs = c.args.input.now in
    let l = c.args.place.left in
    let us = c.read.new.buf ++ drop (length xs - l) (drop l xs) in
    let n : length us ≡ length xs - l = omega (arith, c.read.auto.buf, part-long l xs, length-drop (length xs - l) (drop l xs), length-drop l xs, length-append c.read.new.buf (drop (length xs - l) (drop l xs))) in
    let m : Moved (length us) (answer_of c.ok-came.result) = moved-in c.read.result c.ok-came.result c.read.new.buf (length us) c.ok-came.ensures.value c.read.ensures.bound (omega (arith, c.read.auto.buf, n)) in
    turned_by c.args.place xs us (omega arith) n m c.took.ensures
