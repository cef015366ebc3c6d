-- `marks::list_marks` meets its contract. The loop's invariant: what is written, with as many of the numbers still to write as fit after it, is the whole.
-- Assumes nothing.
use mathlib.Core.Path.{◌∙◌}
use Prim.Native.Nat.{◌+◌, ◌-◌}
use native.Mathlib.Omega.{arith}
use Rattle.std.proofs.lemmas.List.{set-get_or}
use Rattle.marks.specs.Marks.{mark, listed}
use Rattle.marks.proofs.Listing.{none_more, one_more, none-to-write, wrote_one}
use Rattle.marks.proofs.list_marks.Goals as goal

pub returns-in_default : goal.returns-in_default
returns-in_default c =
    let l = c.loop-place in
    set-get_or _ _ _ ∙ none-to-write l.place-items _ l.place-index (none_more (mark c.args.words.now) l.at c.args.to c.next_in_row.ensures c.in_default.is) ∙ l.invariant

pub loop-place-preserved : goal.loop-place-preserved
loop-place-preserved c =
    let l = c.loop-place in
    let m = mark c.args.words.now in
    let r = c.in-Some.found in
    wrote_one l.place-items _ (listed m (c.args.to - (r + 1)) (r + 1)) l.place-index r (omega arith) (one_more m l.at c.args.to c.next_in_row.ensures c.in-Some.is) ∙ l.invariant
