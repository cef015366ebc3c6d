-- `sent::record::marks_agree` meets its contract: the words are judged against two masks, and these stand for the numbers.
-- Assumes nothing.
use Prim.Native.Nat.{ℕ}
use mathlib.Core.Path.{subst, ◌∙◌}
use native.Mathlib.Omega.{arith}
use Rattle.sent.specs.Record.{DueMarks, end_of, floor_of}
use Rattle.sent.proofs.Agree.{by-numbers, outside-is}
use Rattle.sent.proofs.record.marks_agree.Goals as goal

pub returns : goal.returns
returns c =
    let r = c.args.losses.now in
    let due = subst (λ (x : ℕ). DueMarks c.due_marks-due.result x (end_of r)) c.floor_of-floor.ensures c.due_marks-due.ensures in
    c.words_agree.ensures
    ∙ by-numbers r c.due_marks-due.result c.add_range.new.words (floor_of r) (λ n h l. due.marks (omega (arith, c.requires)) n h l) (outside-is c.add_range.new.words _ c.add_range.ensures)
