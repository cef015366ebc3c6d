-- Each way: what the writer wrote the reader reads back, what the reader accepts the writer writes, and so equal reports have equal bytes.
use Rattle.std.specs.Prelude.{ℕ, ◌*◌, ◌≤◌, ◌<◌, ◌≡◌, List, [], ltb, length, get_or, take, drop}
use Rattle.wire.specs.Bytes.{pick, Octets}
use Rattle.wire.specs.Numbers.{encode_all}
use Rattle.entries.specs.Limits.{most_entries}
use Rattle.entries.specs.Profiles.{record_size}
use Rattle.entries.specs.Entries.{entry_at}
use Rattle.entries.specs.Fitting.{last_of}
use Rattle.entries.specs.Exactly.{Obeys}
use Rattle.report.specs.Limits.{metric_places}
use Rattle.report.specs.Header.{each, numbers_of}
use Rattle.report.specs.Reader.{read_report, entries_of}
use Rattle.report.specs.Writer.{done, report_size, write_answer, write_bytes}
use Rattle.entries.specs.declared.Profile.{Profile}
use Rattle.report.specs.declared.Header.{Header}

-- a header as it goes over the wire with k records: of the metrics those that are counted, and k entries
unfoldable pub sent_as : Header → ℕ → Header
sent_as h k = record {
  timestamp = h.timestamp;
  interval = h.interval;
  total = h.total;
  received = h.received;
  late = h.late;
  lost = h.lost;
  average = h.average;
  metrics = h.metrics;
  kinds = each metric_places 0 (λ i. pick (ltb i h.metrics) (get_or h.kinds i 0) 0);
  values = each metric_places 0 (λ i. pick (ltb i h.metrics) (get_or h.values i 0) 0);
  entries = k;
}

-- what was written, read again: the header, and exactly the records that were kept
pub record ReadsBack (p : Profile) (h : Header) (entries written : List ℕ) (next kept : ℕ) : Type 0 where
  pub header : read_report p (take next written) ≡ record { refusal = 0; header = sent_as h kept }
  pub records : entries_of p (take next written) ≡ last_of p entries kept

abbrev pub WriteRead : Type 0
WriteRead =
    (p : Profile) (h : Header) (entries : List ℕ) (maximum : ℕ) (xs : List ℕ) (next kept : ℕ) → done next kept ≡ write_answer p h entries maximum (length xs)
    → ReadsBack p h entries (write_bytes p h entries maximum xs) next kept

-- the run of last records that is kept: at most the maximum, no more than are given, it fits, and no longer one does; bytes behind the report stay
pub record Keeps (p : Profile) (h : Header) (entries : List ℕ) (maximum : ℕ) (xs : List ℕ) (next kept : ℕ) : Type 0 where
  pub within : maximum ≤ most_entries
  pub limit : kept ≤ maximum
  pub given : record_size p * kept ≤ length entries
  pub size : next ≡ report_size p (length (encode_all (numbers_of p h))) kept
  pub fits : next ≤ length xs
  pub longest : (k : ℕ) → k ≤ maximum → record_size p * k ≤ length entries → report_size p (length (encode_all (numbers_of p h))) k ≤ length xs → k ≤ kept
  pub stay : drop next (write_bytes p h entries maximum xs) ≡ drop next xs

abbrev pub WriteKeeps : Type 0
WriteKeeps = (p : Profile) (h : Header) (entries : List ℕ) (maximum : ℕ) (xs : List ℕ) (next kept : ℕ) → done next kept ≡ write_answer p h entries maximum (length xs) → Keeps p h entries maximum xs next kept

-- an accepted report, written from its header and its entries into a room that holds it
pub record WritesBack (p : Profile) (s : List ℕ) (maximum : ℕ) (xs : List ℕ) : Type 0 where
  pub answer : done (length s) (read_report p s).header.entries ≡ write_answer p (read_report p s).header (entries_of p s) maximum (length xs)
  pub bytes : take (length s) (write_bytes p (read_report p s).header (entries_of p s) maximum xs) ≡ s

-- what the reader accepts, of bytes, is what the writer writes with a maximum that allows its entries
abbrev pub ReadWrite : Type 0
ReadWrite =
    (p : Profile) (s : List ℕ) (maximum : ℕ) (xs : List ℕ) → Octets s → (read_report p s).refusal ≡ 0 → (read_report p s).header.entries ≤ maximum → maximum ≤ most_entries
    → length s ≤ length xs → WritesBack p s maximum xs

-- "From then on equal reports have equal bytes" (02, No. 5): equal are accepted reports that have equal values,
-- those of the header and, at each index, group, object, status and age; in profile 1 each group is 0
pub record SameReport (p : Profile) (s t : List ℕ) : Type 0 where
  pub accepted : ((read_report p s).refusal ≡ 0) × ((read_report p t).refusal ≡ 0)
  pub headers : (read_report p s).header ≡ (read_report p t).header
  pub entries : (i : ℕ) → i < (read_report p s).header.entries → entry_at p (entries_of p s) i ≡ entry_at p (entries_of p t) i

abbrev pub EqualBytes : Type 0
EqualBytes = (p : Profile) (s t : List ℕ) → Octets s → Octets t → SameReport p s t → s ≡ t

-- reader and companion agree: both refuse together, and of an accepted report the part holds as many records as the header says, each of them good
pub record Agree (p : Profile) (s : List ℕ) : Type 0 where
  pub refused : ((read_report p s).refusal ≡ 0 → ⊥) → entries_of p s ≡ []
  pub many : (read_report p s).refusal ≡ 0 → length (entries_of p s) ≡ record_size p * (read_report p s).header.entries
  pub each : (read_report p s).refusal ≡ 0 → (i : ℕ) → i < (read_report p s).header.entries → Obeys p (entries_of p s) i
  pub part : (read_report p s).refusal ≡ 0 → entries_of p s ≡ last_of p s (read_report p s).header.entries

abbrev pub BothAgree : Type 0
BothAgree = (p : Profile) (s : List ℕ) → Agree p s
