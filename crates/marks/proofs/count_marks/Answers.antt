-- `marks::count_marks` meets its contract. The loop's invariant: those counted and those from here on are all.
-- Assumes nothing.
use mathlib.Core.Path.{ap}
use native.Mathlib.Omega.{arith}
use lib.ListN.{length}
use Rattle.marks.specs.Marks.{mark}
use Rattle.marks.proofs.Listing.{none_more, one_more, found-below, found-least}
use Rattle.marks.proofs.count_marks.Goals as goal

pub overflow_add-count : goal.overflow_add-count
overflow_add-count c =
    let m = mark c.args.words.now in
    omega (arith, c.loop-found.invariant.0, found-least m c.loop-found.at c.args.to c.next_in_row.ensures c.in-Some.is, found-below m c.loop-found.at c.args.to c.next_in_row.ensures c.in-Some.is)

pub loop-found-smaller : goal.loop-found-smaller
loop-found-smaller c =
    let m = mark c.args.words.now in
    omega (arith, found-least m c.loop-found.at c.args.to c.next_in_row.ensures c.in-Some.is, found-below m c.loop-found.at c.args.to c.next_in_row.ensures c.in-Some.is)

pub loop-found-preserved : goal.loop-found-preserved
loop-found-preserved c =
    let m = mark c.args.words.now in (
      omega (arith, c.loop-found.invariant.0, found-least m c.loop-found.at c.args.to c.next_in_row.ensures c.in-Some.is),
      omega (arith, c.loop-found.invariant.1, ap length (one_more m c.loop-found.at c.args.to c.next_in_row.ensures c.in-Some.is)),
    )

pub returns : goal.returns
returns c =
    let m = mark c.args.words.now in
    omega (arith, c.loop-found.invariant.1, ap length (none_more m c.loop-found.at c.args.to c.next_in_row.ensures c.in_default.is))
