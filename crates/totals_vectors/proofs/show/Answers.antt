-- `totals_vectors::show` is safe: the page lies within the buffer.
use lib.Seq.{length-take-le}
use Rattle.std.proofs.Common.{◌≤◌, sym, arith, length}
use Rattle.page.proofs.Printing.{page-within}
use Rattle.totals_vectors.proofs.show.Goals as goal

pub slice_bounds-write_all-end : goal.slice_bounds-write_all-end
slice_bounds-write_all-end g c =
    let w = page-within (record { totals = c.args.totals; skip = 0 }) c.args.left c.args.output.now c.put_page.ensures.0 c.in-Ok.is in
    omega (arith, w, c.put_page.auto.buf)

pub slice_bounds-write_all-end-2 : goal.slice_bounds-write_all-end-2
slice_bounds-write_all-end-2 g c =
    let w = page-within (record { totals = c.args.totals; skip = 0 }) c.args.left c.args.output.now c.put_page.ensures.0 c.in-Ok.is in
    sym (length-take-le c.in-Ok.next c.put_page.new.buf (omega (arith, w, c.put_page.auto.buf)))
