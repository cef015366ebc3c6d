-- `sent::hearing::hear_ranges` meets its contract: the marks say what the request says of each number, and the lists and the record follow.
-- Assumes nothing.
use native.Mathlib.Omega.{arith}
use Rattle.sent.specs.Heard.{ranges_of}
use Rattle.sent.proofs.Hears.{Facts, short-acked, short-lost, written}
use Rattle.sent.proofs.hearing.hear_ranges.Goals as goal
use Rattle.sent.proofs.hearing.hear_ranges.Goals.{After-lost_anew-new_lost}

-- what the words say when all of them are made
facts : (c : After-lost_anew-new_lost) → Facts c.args.losses.now c.frame_marks-frame.result c.due_marks-due.result c.acked_anew-new_acked.result c.lost_anew-new_lost.result (ranges_of c.args.s.now c.args.checked.now).pairs c.floor_of-floor.result c.larger-end.result
facts c = record {
  oldest = c.floor_of-floor.ensures;
  most = omega (arith, c.larger-end.ensures, c.requires.0, c.requires.1);
  of-frame = c.frame_marks-frame.ensures;
  of-rule = c.due_marks-due.ensures;
  new-acked = c.acked_anew-new_acked.ensures;
  new-lost = c.lost_anew-new_lost.ensures;
}

pub returns-then-acked-acked_count : goal.returns-then-acked-acked_count
returns-then-acked-acked_count c =
    let s = c.args in
    short-acked s.losses.now _ _ _ _ _ s.acked.now s.lost.now c.floor_of-floor.result c.larger-end.result s.checked.now.used (facts (goal.at.returns-then-acked-acked_count c).After-lost_anew-new_lost) (omega (arith, c.larger-end.ensures)) c.count_marks-acked_count.result c.count_marks-acked_count.ensures c.from.ensures c.if-acked-acked_count.true

pub returns-then-lost-lost_count : goal.returns-then-lost-lost_count
returns-then-lost-lost_count c =
    let s = c.args in
    short-lost s.losses.now _ _ _ _ _ s.acked.now s.lost.now c.floor_of-floor.result c.larger-end.result s.checked.now.used (facts (goal.at.returns-then-lost-lost_count c).After-lost_anew-new_lost) (omega (arith, c.larger-end.ensures)) c.count_marks-acked_count.result c.count_marks-acked_count.ensures c.if-acked-acked_count.false c.count_marks-lost_count.result c.count_marks-lost_count.ensures c.from-then-lost-lost_count.ensures c.if-lost-lost_count.true

pub returns : goal.returns
returns c =
    let s = c.args in
    written s.losses.now _ _ _ _ _ s.acked.now s.lost.now c.floor_of-floor.result c.larger-end.result s.checked.now.used (facts (goal.at.returns c).After-lost_anew-new_lost) (omega (arith, c.larger-end.ensures)) c.count_marks-acked_count.result c.count_marks-acked_count.ensures c.if-acked-acked_count.false c.count_marks-lost_count.result c.count_marks-lost_count.ensures c.changed.result c.list_marks.new.list c.list_marks-2.new.list c.if-lost-lost_count.false c.changed.ensures c.list_marks.ensures c.list_marks-2.ensures
