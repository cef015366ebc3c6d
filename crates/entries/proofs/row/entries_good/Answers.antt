-- `entries::entries_good` meets its contract: all records are good where the run is as long as they are many.
-- Assumes nothing.
use Rattle.entries.proofs.Runs.{run-full}
use Rattle.entries.proofs.row.entries_good.Goals as goal

pub returns : goal.returns
returns c =
    let a = c.args in
    run-full a.profile a.entries.now c.records_in.result c.good_run-run.result c.records_in.ensures c.good_run-run.ensures
