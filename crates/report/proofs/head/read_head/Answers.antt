-- `report::read_head` meets its contract: the numbers' own answer, and the last of them.
-- Assumes nothing.
use mathlib.Core.Path.{◌≡◌, sym, ap, ◌∙◌}
use Prim.Native.Nat.{ℕ}
use native.Mathlib.Omega.{arith}
use lib.ListN.{length, take}
use lib.Seq.{length-take-le}
use Rattle.std.specs.Prelude.{Ok, Err}
use Rattle.std.proofs.lemmas.Result.{err_from_is_err_and}
use Rattle.wire.specs.declared.Refusal.{Refusal}
use Rattle.report.specs.Header.{count_of}
use Rattle.report.specs.Reader.{Reading, reading_of}
use Rattle.report.specs.Head.{announced}
use Rattle.report.specs.declared.NumbersRead.{NumbersRead}
use Rattle.report.proofs.Whole.{found-stopped, found-whole}
use borrow.Author.Rules.{rules}
use Rattle.report.proofs.head.read_head.Goals as goal

stopped-is : (r : Reading) (refusal : Refusal) → reading_of (Err refusal) ≡ r → Err refusal ≡ announced r
unfolding announced
stopped-is r refusal e = ap announced (sym (found-stopped refusal) ∙ e)

whole_is : (read : NumbersRead) (r : Reading) (k : ℕ) → reading_of (Ok read) ≡ r → k ≡ count_of (take read.count read.numbers)
    → Ok (record { next = read.next; entries = k }) ≡ announced r
unfolding announced
whole_is read r k e c = rw c (ap announced (sym (found-whole read) ∙ e))

pub returns-in_err-read : goal.returns-in_err-read
returns-in_err-read c = let p = err_from_is_err_and c.from_residual.result c.from_residual.ensures.1 in rw (p.1, p.2) (stopped-is _ _ c.in_err-read.ensures.0, tt)

pub slice_bounds-last_of-end : goal.slice_bounds-last_of-end
slice_bounds-last_of-end c = let l : length c.in_ok-read.read.numbers ≡ 25 = search rules in sym (length-take-le _ _ (omega (arith, c.in_ok-read.ensures.1)))

pub returns : goal.returns
returns c = (whole_is c.in_ok-read.read _ _ c.in_ok-read.ensures.0 c.last_of-entries.ensures, c.in_ok-read.ensures.1.0)
