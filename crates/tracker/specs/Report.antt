-- The summary and the entries for a given time and report interval.
use Rattle.std.specs.Prelude.{ℕ, zero, suc, ◌+◌, ◌*◌, Bool, List, eqb, leb, ltb, ℤ, length}
use Rattle.wire.specs.Bytes.{pick, splice}
use Rattle.wire.specs.Numbers.{limit}
use Rattle.entries.specs.Profiles.{record_size}
use Rattle.entries.specs.declared.Profile.TheVariants.{One}
use Rattle.report.specs.Average.{stored_of}
use Rattle.report.specs.Header.{each, empty_header}
use Rattle.report.specs.Limits.{metric_places}
use Rattle.report.specs.declared.Header.{Header}
use Rattle.report.specs.declared.Report.{Report}
use Rattle.tracker.specs.Known.{most_objects, Known}
use Rattle.tracker.specs.Record.{both_obey, consistent, known}
use Rattle.tracker.specs.Status.{status_at, no_status, entries_from, how_many}
use Rattle.tracker.specs.Average.{arrival_times, average_from}

-- ---- from what is known of the objects

-- how many objects have the status
abbrev pub with_status : Known → ℕ → ℕ → ℕ
with_status k time status = how_many (λ place. eqb (status_at k time place) status) most_objects 0

-- "over all objects with a status"
abbrev pub total_of : Known → ℕ → ℕ
total_of k time = how_many (λ place. ltb (status_at k time place) no_status) most_objects 0

-- "The average is over arrived objects, late ones included"
abbrev pub average_at : Known → ℤ
average_at k = average_from k.interval (arrival_times k.became most_objects 0)

-- a header with no metrics, and an entry for each object that it counts
abbrev pub header_of : ℕ → ℕ → ℕ → ℕ → ℕ → ℕ → ℤ → Header
header_of time interval total received late lost average = record {
  timestamp = time;
  interval = interval;
  total = total;
  received = received;
  late = late;
  lost = lost;
  average = average;
  metrics = 0;
  kinds = each metric_places 0 (λ i. 0);
  values = each metric_places 0 (λ i. 0);
  entries = total;
}

-- the summary: lost are those not received and those received in part (003)
unfoldable pub summary_of : Known → ℕ → ℕ → Header
summary_of k time interval =
    header_of time interval (total_of k time) (with_status k time 0) (with_status k time 1) (with_status k time 2 + with_status k time 3) (average_at k)

-- the entries, in the order of their objects
abbrev pub entries_at : Known → ℕ → List ℕ
entries_at k time = entries_from (status_at k time) k time most_objects 0

-- "when entries and summary are made, 5 for an average outside the signed range, then 9"
abbrev pub average_fits : Known → Bool
average_fits k = leb (stored_of (average_at k)) limit

unfoldable pub made_refusal : Known → ℕ → ℕ → ℕ → ℕ
made_refusal k time interval room =
    pick (both_obey time interval)
    (pick (average_fits k)
    (pick (leb (record_size One * total_of k time) room) 0 9)
    5)
    5

-- a refusal has the empty header and writes nothing
abbrev pub reported_as : ℕ → Header → Report
reported_as zero header = record { refusal = 0; header = header }
reported_as (suc n) header = record { refusal = suc n; header = empty_header }

abbrev pub stored_unless : ℕ → List ℕ → List ℕ → List ℕ
stored_unless zero entries xs = splice xs 0 entries
stored_unless (suc n) entries xs = xs

-- ---- from a record

unfoldable pub report_refusal : List ℕ → ℕ → ℕ → ℕ → ℕ
report_refusal r time interval room = pick (consistent r) (made_refusal (known r) time interval room) 1

unfoldable pub report_answer : List ℕ → ℕ → ℕ → ℕ → Report
report_answer r time interval room = reported_as (report_refusal r time interval room) (summary_of (known r) time interval)

unfoldable pub report_bytes : List ℕ → ℕ → ℕ → List ℕ → List ℕ
report_bytes r time interval xs = stored_unless (report_refusal r time interval (length xs)) (entries_at (known r) time) xs
