-- `marks::list_marks` meets its contract. The loop's invariant: what is written, with as many of the numbers still to write as fit after it, is the whole.
-- Assumes nothing.
use mathlib.Core.Path.{◌≡◌}
use Prim.Native.Nat.{◌-◌}
use lib.ListN.{length, take}
use Rattle.wire.specs.Bytes.{splice}
use Rattle.marks.specs.Marks.{mark, listed}
use Rattle.marks.proofs.Listing.{fitted}
use Rattle.marks.proofs.list_marks.Given as goal

abbrev pub invariant-loop-place : goal.invariant-loop-place
invariant-loop-place l =
    fitted l.place-items l.place-index (listed (mark l.words) (l.to - l.at) l.at) ≡ splice l.fn.list 0 (take (length l.fn.list) (listed (mark l.words) (l.to - l.from) l.from))
