-- `report::part_by` meets its contract: the number is that of the profile which was found, or of none, and an accepted report ends with its entries.
-- Assumes nothing.
use mathlib.Core.List.{[]}
use mathlib.Core.Path.{◌≡◌, sym, ◌∙◌}
use native.Mathlib.Omega.{arith}
use lib.ListN.{length}
use lib.Seq.{length-take-le}
use Rattle.std.proofs.lemmas.Result.{err_from_is_err_and}
use Rattle.report.specs.Reader.{entries_of}
use Rattle.report.proofs.Numbered.{asked-for, asked-none}
use Rattle.report.proofs.Whole.{stopped-judged, refused-behind, whole-behind, none-stopped, part-whole}
use borrow.Author.Rules.{rules}
use Rattle.report.proofs.reader.part_by.Goals as goal

pub returns-in_err-known : goal.returns-in_err-known
returns-in_err-known c =
    let a = c.args in
    let p = err_from_is_err_and c.from_residual.result c.from_residual.ensures.1 in
    rw p.1 (sym (asked-none a.profile [] (λ p. entries_of p a.s.now) (sym c.in_err-known.was ∙ c.try_from.ensures)).1)

pub returns-in_err-read : goal.returns-in_err-read
returns-in_err-read c =
    let a = c.args in
    let p = err_from_is_err_and c.from_residual-in_err-read.result c.from_residual-in_err-read.ensures.1 in
    rw p.1 (sym (none-stopped _ a.s.now _ (stopped-judged _ a.s.now _ c.in_err-read.ensures.0) ∙ asked-for a.profile [] (λ p. entries_of p a.s.now) _ (sym c.in_ok-known.was ∙ c.try_from.ensures)))

pub slice_bounds-last_of-end : goal.slice_bounds-last_of-end
slice_bounds-last_of-end c = let l : length c.in_ok-read.read.numbers ≡ 25 = search rules in sym (length-take-le _ _ (omega (arith, c.in_ok-read.ensures.1)))

pub returns-in_err-fault_behind : goal.returns-in_err-fault_behind
returns-in_err-fault_behind c =
    let a = c.args in
    let p = err_from_is_err_and c.from_residual-in_err-fault_behind.result c.from_residual-in_err-fault_behind.ensures.1 in
    rw p.1
    (sym (none-stopped _ a.s.now _ (refused-behind _ a.s.now c.in_ok-read.read c.in_ok-read.ensures.0 _ _ c.last_of-entries.ensures c.fault_behind.ensures c.in_err-fault_behind.was) ∙ asked-for a.profile [] (λ p. entries_of p a.s.now) _ (sym c.in_ok-known.was ∙ c.try_from.ensures)))

pub returns : goal.returns
returns c =
    let a = c.args in
    part-whole _ a.s.now _ c.in_ok-read.read.next (whole-behind _ a.s.now c.in_ok-read.read c.in_ok-read.ensures.0 _ _ c.last_of-entries.ensures c.fault_behind.ensures c.in_ok-fault_behind.was) ∙ asked-for a.profile [] (λ p. entries_of p a.s.now) _ (sym c.in_ok-known.was ∙ c.try_from.ensures)
