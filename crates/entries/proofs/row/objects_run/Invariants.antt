-- `entries::objects_run` meets its contract. The loop's invariant: from here on the run is that of the whole.
-- Assumes nothing.
use Rattle.std.proofs.Common.{◌≡◌, suc, ◌≤◌}
use Rattle.std.specs.Slice.Iter.{chunks_exact_rest, chunks_exact_size}
use Rattle.wire.specs.Numbers.{limit}
use Rattle.entries.specs.Runs.{run_of}
use Rattle.entries.specs.declared.Profile.TheVariants.{One}
use Rattle.entries.proofs.Runs.{Going}
use Rattle.entries.proofs.row.objects_run.Given as goal

abbrev pub invariant-loop-record : goal.invariant-loop-record
invariant-loop-record l =
    (chunks_exact_size l.record-iterator ≡ 16) × ((l.floor ≤ suc limit) × Going One l.entries (chunks_exact_rest l.record-iterator) l.good 0 l.floor (run_of One 0 l.above l.entries))
