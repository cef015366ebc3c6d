-- The feedback report: where its entries stand.
use Rattle.std.specs.Prelude.{ℕ, ◌-◌, List, length}
use Rattle.report.specs.Reader.{entries_by}
use Rattle.host_report.specs.declared.EntriesOut.{EntriesOut}

-- "The entries come back as a part of the caller's own bytes": their end, of that length
abbrev pub entries_found : ℕ → List ℕ → EntriesOut
entries_found profile s = record { start = length s - length (entries_by profile s); length = length (entries_by profile s) }
