-- `totals::step_in` meets its contract: each branch is one test of the definition, and the lent sums grow by one report or stay.
-- Assumes nothing.
use Prim.Native.Nat.{min}
use borrow.Author.Rules.{rules}
use mathlib.Core.Path.{◌≡◌, sym, ap, ◌∙◌}
use native.Mathlib.Omega.{arith}
use lib.ListN.{length}
use Rattle.totals.specs.declared.Standing.{Standing}
use Rattle.totals.specs.Totals.{too_long}
use Rattle.totals.specs.Adding.{over, with}
use Rattle.totals.proofs.Stepping.{step_skip, told-ends, told-long, told_part, told-whole, long-added, refused-low}
use Rattle.totals.proofs.Numbers.{brings-low}
use Rattle.totals.proofs.files.step_in.Goals as goal
use Rattle.totals.proofs.files.step_in.Goals.{Start}

-- where the code stands at the start: the lent sums, and what is still to be skipped
abbrev entered : Start → Standing
entered c = record { totals = over c.args.sums.now c.args.full.now; skip = c.args.skip }

pub returns-then-skip-gt0 : goal.returns-then-skip-gt0
returns-then-skip-gt0 c =
    let u : c.min-used.result ≡ min c.args.skip (length c.args.s.now) = search rules in
    rw u (sym (step_skip (entered (goal.at.returns-then-skip-gt0 c).Start) c.args.s.now (omega arith)))

pub returns-in_default : goal.returns-in_default
returns-in_default c =
    told-ends (entered (goal.at.returns-in_default c).Start) c.args.s.now (omega arith) c.read_fixed4.ensures c.in_default.is

pub add_in-requires : goal.add_in-requires
add_in-requires c = (rw c.refused-brought.ensures (refused-low too_long (omega arith)), c.requires)

pub returns-then-length-gt-LONGEST : goal.returns-then-length-gt-LONGEST
returns-then-length-gt-LONGEST c =
    told-long (entered (goal.at.returns-then-length-gt-LONGEST c).Start) c.args.s.now (omega arith) c.read_fixed4.ensures c.in-Ok.is (omega arith) (long-added (entered (goal.at.returns-then-length-gt-LONGEST c).Start).totals c.refused-brought.ensures c.add_in.ensures)

pub returns-then-s-end : goal.returns-then-s-end
returns-then-s-end c =
    told_part (entered (goal.at.returns-then-s-end c).Start) c.args.s.now (omega arith) c.read_fixed4.ensures c.in-Ok.is (omega arith) (omega arith)

pub add_in-requires-2 : goal.add_in-requires-2
add_in-requires-2 c = (rw c.by-brought.ensures (brings-low _), c.requires)

pub returns : goal.returns
returns c =
    told-whole (entered (goal.at.returns c).Start) c.args.s.now (omega arith) c.read_fixed4.ensures c.in-Ok.is (omega arith) (omega arith) (c.add_in-2.ensures ∙ ap (with (entered (goal.at.returns c).Start).totals) c.by-brought.ensures)
