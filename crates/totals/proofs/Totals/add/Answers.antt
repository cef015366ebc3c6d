-- `totals::Totals::add` meets its contract: what the report brings has a place.
-- Assumes nothing.
use mathlib.Core.Path.{ap, ◌∙◌}
use Rattle.totals.specs.Adding.{with}
use Rattle.totals.proofs.Numbers.{brings-low}
use Rattle.totals.proofs.Totals.add.Goals as goal

pub with-requires : goal.with-requires
with-requires c = rw c.by.ensures (brings-low c.args.report.now)

pub returns : goal.returns
returns c = c.with.ensures ∙ ap (with c.args.self) c.by.ensures
