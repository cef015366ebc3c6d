-- `totals::Standing::add` meets its contract: the number is what the report brings.
-- Assumes nothing.
use Rattle.totals.specs.Files.{reported}
use Rattle.totals.proofs.Summing.{brings-number}
use Rattle.totals.proofs.Numbers.{brings-low}
use Rattle.totals.proofs.Standing.add.Goals as goal

pub with-requires : goal.with-requires
with-requires c = rw c.by-brought.ensures (brings-low c.args.report.now)

pub returns : goal.returns
unfolding reported
returns c =
    let b = c.by-brought.ensures in
    rw (c.with.ensures, b, brings-number c.args.report.now)
