-- `entries::groups_run` meets its contract. The loop's invariant is that of profile 1, with the group of the record before.
-- Assumes nothing.
use Rattle.std.proofs.Common.{suc, ◌*◌, ◌≤◌, drop}
use Rattle.wire.specs.Numbers.{limit}
use Rattle.entries.specs.Runs.{run_of}
use Rattle.entries.specs.declared.Profile.TheVariants.{Two}
use Rattle.entries.proofs.Runs.{Going}
use Rattle.entries.proofs.row.groups_run.Given as goal

abbrev pub invariant-loop-good : goal.invariant-loop-good
invariant-loop-good l = (l.before ≤ suc limit) × ((l.past ≤ suc limit) × Going Two l.entries (drop (l.good * 24) l.entries) l.good l.before l.past (run_of Two l.last l.above l.entries))
