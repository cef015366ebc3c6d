-- `entries::run_from` meets its contract: each arm is the loop of its profile, where some group can follow at all.
-- Assumes nothing.
use Rattle.std.proofs.Common.{◌/◌, length, ◌∙◌}
use Rattle.entries.specs.Profiles.{record_size}
use Rattle.entries.specs.declared.Profile.TheVariants.{One}
use Rattle.entries.proofs.Runs.{no-group, large-group}
use Rattle.entries.proofs.row.run_from.Goals as goal

pub returns-then-last-ne0 : goal.returns-then-last-ne0
returns-then-last-ne0 c =
    let a = c.args in
    rw c.in-One.is (c.run_to.ensures ∙ no-group a.last c.if-last-ne0.true (length a.entries.now / record_size One) a.above a.entries.now)

pub returns-then-last-gt-LARGEST : goal.returns-then-last-gt-LARGEST
returns-then-last-gt-LARGEST c =
    let a = c.args in
    c.run_to-then-last-gt-LARGEST.ensures ∙ large-group a.profile a.last c.if-last-gt-LARGEST.true (length a.entries.now / record_size a.profile) a.above a.entries.now

pub returns-else-last-ne0 : goal.returns-else-last-ne0
returns-else-last-ne0 c = rw (c.in-One.is, c.if-last-ne0.false) c.objects_run.ensures

pub returns-else-last-gt-LARGEST : goal.returns-else-last-gt-LARGEST
returns-else-last-gt-LARGEST c = rw c.in-Two.is c.groups_run.ensures
