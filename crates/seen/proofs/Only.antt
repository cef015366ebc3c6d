-- Only one: two results that meet the contract of a public function, as its source states it, are equal, and so are the lent words that they leave.
-- Assumes nothing.
use mathlib.Core.Path.{sym, ◌∙◌}
use Rattle.wire.proofs.Only.{OneAnswer, OneBuffer}
use Rattle.seen.proofs.numbers.is_small.Reads as is-small
use Rattle.seen.proofs.numbers.is_small.Kinds as is-small-kinds
use Rattle.seen.proofs.numbers.all_small.Reads as all_small
use Rattle.seen.proofs.numbers.all_small.Kinds as all-small-kinds
use Rattle.seen.proofs.numbers.is_small_end.Reads as is-small-end
use Rattle.seen.proofs.numbers.is_small_end.Kinds as is-small-end-kinds
use Rattle.seen.proofs.numbers.minus_or_zero.Reads as minus-or-zero
use Rattle.seen.proofs.numbers.minus_or_zero.Kinds as minus-or-zero-kinds
use Rattle.seen.proofs.numbers.larger_of.Reads as larger-of
use Rattle.seen.proofs.numbers.larger_of.Kinds as larger-of-kinds
use Rattle.seen.proofs.Seen.numbers_obey.Reads as numbers-obey
use Rattle.seen.proofs.Seen.numbers_obey.Kinds as numbers-obey-kinds
use Rattle.seen.proofs.Seen.consistent.Reads as consistent
use Rattle.seen.proofs.Seen.consistent.Kinds as consistent-kinds
use Rattle.seen.proofs.Seen.floor.Reads as floor
use Rattle.seen.proofs.Seen.floor.Kinds as floor-kinds
use Rattle.seen.proofs.Seen.confirm.Reads as confirming
use Rattle.seen.proofs.Seen.confirm.Kinds as confirming-kinds
use Rattle.seen.proofs.Seen.marks_fit.Reads as marks-fit
use Rattle.seen.proofs.Seen.marks_fit.Kinds as marks-fit-kinds
use Rattle.seen.proofs.Seen.check_in.Reads as check-in
use Rattle.seen.proofs.Seen.check_in.Kinds as check-in-kinds
use Rattle.seen.proofs.Seen.with_in.Reads as marking-in
use Rattle.seen.proofs.Seen.with_in.Kinds as marking-in-kinds
use Rattle.seen.proofs.Seen.first_missing_in.Reads as first-missing-in
use Rattle.seen.proofs.Seen.first_missing_in.Kinds as first-missing-in-kinds

pub is-small-one : OneAnswer 0 is-small-kinds.ps is-small-kinds.r is-small.Post
is-small-one κs given x y s t p q = p ∙ sym q

pub all-small-one : OneAnswer 0 all-small-kinds.ps all-small-kinds.r all_small.Post
all-small-one κs given x y s t p q = p ∙ sym q

pub is-small-end-one : OneAnswer 0 is-small-end-kinds.ps is-small-end-kinds.r is-small-end.Post
is-small-end-one κs given x y s t p q = p ∙ sym q

pub minus-or-zero-one : OneAnswer 0 minus-or-zero-kinds.ps minus-or-zero-kinds.r minus-or-zero.Post
minus-or-zero-one κs given x y s t p q = p ∙ sym q

pub larger-of-one : OneAnswer 0 larger-of-kinds.ps larger-of-kinds.r larger-of.Post
larger-of-one κs given x y s t p q = p ∙ sym q

pub numbers-obey-one : OneAnswer 0 numbers-obey-kinds.ps numbers-obey-kinds.r numbers-obey.Post
numbers-obey-one κs given x y s t p q = p ∙ sym q

pub consistent-one : OneAnswer 0 consistent-kinds.ps consistent-kinds.r consistent.Post
consistent-one κs given x y s t p q = p ∙ sym q

pub floor-one : OneAnswer 0 floor-kinds.ps floor-kinds.r floor.Post
floor-one κs given x y s t p q = p ∙ sym q

pub confirming-one : OneAnswer 0 confirming-kinds.ps confirming-kinds.r confirming.Post
confirming-one κs given x y s t p q = p ∙ sym q

pub marks-fit-one : OneAnswer 1 marks-fit-kinds.ps marks-fit-kinds.r marks-fit.Post
marks-fit-one κs given x y s t p q = p ∙ sym q

pub check-in-one : OneAnswer 1 check-in-kinds.ps check-in-kinds.r check-in.Post
check-in-one κs given x y s t p q = p.0 ∙ sym q.0

pub marking-in-one : OneBuffer 1 marking-in-kinds.ps marking-in-kinds.r (λ κs s. s.1.0.now) marking-in.Post
marking-in-one κs given x y s t p q = (p.0 ∙ sym q.0, p.1 ∙ sym q.1)

pub first-missing-in-one : OneAnswer 1 first-missing-in-kinds.ps first-missing-in-kinds.r first-missing-in.Post
first-missing-in-one κs given x y s t p q = p ∙ sym q
