-- Only one: two results that meet the contract of a public function of marks, as its source states it, are equal, and so are the lists that they leave.
-- Assumes nothing.
use mathlib.Core.Path.{refl, sym, ◌∙◌}
use Rattle.wire.proofs.Only.{OneAnswer, OneBuffer}
use Rattle.marks.proofs.add_range.Reads as add-range
use Rattle.marks.proofs.add_range.Kinds as add-range-kinds
use Rattle.marks.proofs.larger.Reads as larger
use Rattle.marks.proofs.larger.Kinds as larger-kinds
use Rattle.marks.proofs.next_marked.Reads as next-marked
use Rattle.marks.proofs.next_marked.Kinds as next-marked-kinds
use Rattle.marks.proofs.count_marks.Reads as count-marks
use Rattle.marks.proofs.count_marks.Kinds as count-marks-kinds
use Rattle.marks.proofs.list_marks.Reads as list-marks
use Rattle.marks.proofs.list_marks.Kinds as list-marks-kinds

pub larger-one : OneAnswer 0 larger-kinds.ps larger-kinds.r larger.Post
larger-one κs given x y s t p q = p ∙ sym q

pub next-marked-one : OneAnswer 1 next-marked-kinds.ps next-marked-kinds.r next-marked.Post
next-marked-one κs given x y s t p q = p ∙ sym q

pub count-marks-one : OneAnswer 1 count-marks-kinds.ps count-marks-kinds.r count-marks.Post
count-marks-one κs given x y s t p q = p ∙ sym q

pub list-marks-one : OneBuffer 2 list-marks-kinds.ps list-marks-kinds.r (λ κs s. s.0.now) list-marks.Post
list-marks-one κs given x y s t p q = (refl, p ∙ sym q)

pub add-range-one : OneBuffer 1 add-range-kinds.ps add-range-kinds.r (λ κs s. s.0.now) add-range.Post
add-range-one κs given x y s t p q = (refl, p ∙ sym q)
