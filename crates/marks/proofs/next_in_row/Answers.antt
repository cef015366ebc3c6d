-- `marks::next_in_row` meets its contract: a number that is marked itself is the first, and otherwise the search finds it.
-- Assumes nothing.
use Prim.Native.Nat.{ℕ, ◌-◌, ◌/◌, ◌%◌, ◌^◌, ◌<◌}
use mathlib.Core.Path.{◌≡◌, sym}
use mathlib.Core.List.{List}
use native.Mathlib.Omega.{arith}
use borrow.Author.Tests.{eq-eqb}
use lib.ListN.{get_or}
use Rattle.std.specs.Prelude.{Some}
use Rattle.window.specs.Words.{bit}
use Rattle.marks.specs.Marks.{mark, first_in, found_below}
use Rattle.marks.proofs.Listing.{first-hit, some-below}
use Rattle.marks.proofs.next_in_row.Goals as goal

-- the number is marked itself
here : (ws : List ℕ) (from to : ℕ) → from < to → get_or ws (from / 64 % 16) 0 / 2 ^ (from % 64) % 2 ≡ 1 → Some from ≡ found_below to (first_in (mark ws) (to - from) from)
unfolding bit
here ws from to h e =
    let f : first_in (mark ws) (to - from) from ≡ from = first-hit (mark ws) (to - from) from (omega arith) (eq-eqb _ 1 e) in
    some-below to _ from (omega (arith, f)) (sym f)

pub returns-then-from-to : goal.returns-then-from-to
returns-then-from-to c = let s = c.args in here s.words.now s.from s.to c.if-from-to.true c.if-bit-eq1.true
