-- `page::put_page` meets its contract: what was laid out is the page, and it is copied where it fits.
-- Assumes nothing.
use mathlib.Core.Path.{sym}
use native.Mathlib.Omega.{arith}
use lib.ListN.{take, length-take}
use lib.Seq.{length-take-le}
use Rattle.page.proofs.Printing.{laid_out, page-no, page-yes}
use borrow.Author.Rules.{rules}
use Rattle.page.proofs.put_page.Goals as goal

pub returns-then-buf-length : goal.returns-then-buf-length
returns-then-buf-length c =
    let a = c.args in
    page-no a.standing a.left a.buf.now (omega (arith, c.lay_out-length.ensures.0))

pub slice_bounds-put_text-end : goal.slice_bounds-put_text-end
slice_bounds-put_text-end c = sym (length-take-le _ _ (search rules))

pub put_text-requires : goal.put_text-requires
put_text-requires c = let l = c.lay_out-length in omega (arith, length-take l.result l.new.buf)

pub returns : goal.returns
returns c =
    let a = c.args in
    let l = c.lay_out-length in
    let p = c.put_text.ensures in
    page-yes a.standing a.left a.buf.now (take l.result l.new.buf) (laid_out _ _ _ _ l.ensures.0 l.ensures.1) (simp length-take (omega arith)) p.0 p.1
