-- What the tracker makes of any record is what the writer of reports takes: the writer's rules, and through the writer and back.
use Rattle.std.specs.Prelude.{ℕ, ◌*◌, ◌≤◌, ◌<◌, ◌≡◌, List, length}
use Rattle.wire.specs.Numbers.{encode_all}
use Rattle.entries.specs.Limits.{most_entries}
use Rattle.entries.specs.Profiles.{record_size}
use Rattle.entries.specs.Exactly.{Obeys}
use Rattle.entries.specs.declared.Profile.TheVariants.{One}
use Rattle.report.specs.Header.{numbers_of}
use Rattle.report.specs.Writer.{done, report_size, write_answer, write_bytes}
use Rattle.report.specs.Exactly.{Passes}
use Rattle.report.specs.EachWay.{ReadsBack}
use Rattle.tracker.specs.Known.{Known}
use Rattle.tracker.specs.Record.{known}
use Rattle.tracker.specs.Report.{total_of, summary_of, entries_at, report_refusal}

-- the header's entry count is the number of records made
abbrev pub EntriesCounted : Type 0
EntriesCounted = (k : Known) (time interval : ℕ) → length (entries_at k time) ≡ record_size One * (summary_of k time interval).entries

-- header and records pass the writer, with any maximum that passes: its numbers, its sum, no metrics; each record obeys its rule and the objects rise
abbrev pub WriterTakes : Type 0
WriterTakes = (r : List ℕ) (time interval room maximum : ℕ) → report_refusal r time interval room ≡ 0 → maximum ≤ most_entries → Passes One (summary_of (known r) time interval) (entries_at (known r) time) maximum

-- every object has at most one entry: each record is an entry, and its object number is above its forerunner's
abbrev pub EntriesRise : Type 0
EntriesRise = (r : List ℕ) (time interval room : ℕ) → report_refusal r time interval room ≡ 0 → (i : ℕ) → i < total_of (known r) time → Obeys One (entries_at (known r) time) i

-- written, and read again: the header, and exactly the records that the writer kept
pub record GoesThrough (r : List ℕ) (time interval maximum : ℕ) (xs : List ℕ) : Type 0 where
  pub next : ℕ
  pub kept : ℕ
  pub written : done next kept ≡ write_answer One (summary_of (known r) time interval) (entries_at (known r) time) maximum (length xs)
  pub back : ReadsBack One (summary_of (known r) time interval) (entries_at (known r) time) (write_bytes One (summary_of (known r) time interval) (entries_at (known r) time) maximum xs) next kept

abbrev pub ThroughAndBack : Type 0
ThroughAndBack =
    (r : List ℕ) (time interval room maximum : ℕ) (xs : List ℕ) → report_refusal r time interval room ≡ 0 → maximum ≤ most_entries
    → report_size One (length (encode_all (numbers_of One (summary_of (known r) time interval)))) 0 ≤ length xs → GoesThrough r time interval maximum xs
