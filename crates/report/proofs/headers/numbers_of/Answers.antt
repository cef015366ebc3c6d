-- `report::numbers_of` meets its contract: the array is written out place by place.
-- Assumes nothing.
use mathlib.Core.Path.{◌≡◌, ap, ◌∙◌}
use mir.Syntax.{w64}
use mir.Val.{SFits}
use mir.ValLaws.{to_z-of_z}
use Rattle.report.specs.Average.{stored_of}
use Rattle.report.specs.Header.{pairs}
use borrow.Author.Rules.{rules}
use Rattle.report.proofs.headers.numbers_of.Goals as goal

pub returns : goal.returns
unfolding pairs
returns c =
    let h = c.args.header in
    let f : SFits w64 h.average = search rules in
    let e : c.stored.result ≡ stored_of h.average = c.stored.ensures ∙ ap stored_of (to_z-of_z w64 h.average f) in
    rw e
