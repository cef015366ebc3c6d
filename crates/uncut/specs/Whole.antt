-- What the reader in pieces owes to the whole reader: "For all cuttings, and a buffer that holds at least one record, the header, the
-- entries in order of an accepted report, and the refusal number equal those of the whole reader."
use Rattle.std.specs.Prelude.{ℕ, zero, suc, ◌≡◌, List, [], ◌++◌, leb, length, take, drop}
use Rattle.wire.specs.Bytes.{pick}
use Rattle.entries.specs.Profiles.{record_size}
use Rattle.entries.specs.Entries.{entry_of, records_good}
use Rattle.entries.specs.declared.Profile.{Profile}
use Rattle.report.specs.Header.{count_of, header_of, empty_header}
use Rattle.report.specs.declared.Header.{Header}
use Rattle.report.specs.Reader.{Reading, Whole, Stopped, read_numbers, read_report, entries_of}
use Rattle.uncut.specs.State.{State, start, standing, header_at, whole_at, report_at, at_end}
use Rattle.uncut.specs.Step.{group_in, above_in, after, delivered}

-- the good records before the first bad or missing one, of n records
unfoldable pub good_run : Profile → ℕ → ℕ → ℕ → List ℕ → List ℕ
good_run p zero last above s = []
good_run p (suc n) last above s =
    pick (leb (record_size p) (length s))
    (pick (records_good p 1 last above s)
    (take (record_size p) s ++ good_run p n (group_in (entry_of p (take (record_size p) s))) (above_in (entry_of p (take (record_size p) s))) (drop (record_size p) s)) []) []

-- those of a report: none where the header is refused
unfoldable pub good_in : Profile → List ℕ → Reading → List ℕ
good_in p s (Whole ns at) = good_run p (count_of ns) 0 0 (drop at s)
good_in p s (Stopped refusal) = []

abbrev pub good_records : Profile → List ℕ → List ℕ
good_records p s = good_in p s (read_numbers p s)

-- header and refusal number at the end are the whole reader's
abbrev pub SameAnswer : Type 0
SameAnswer = (p : Profile) (s : List ℕ) → report_at (at_end (after p start s)) ≡ read_report p s

-- "exactly the good records before the first bad or missing one are delivered"
abbrev pub GoodDelivered : Type 0
GoodDelivered = (p : Profile) (s : List ℕ) → delivered p start s ≡ good_records p s

-- of an accepted report they are its entries
abbrev pub AllDelivered : Type 0
AllDelivered = (p : Profile) (s : List ℕ) → (read_report p s).refusal ≡ 0 → delivered p start s ≡ entries_of p s

-- "and later calls give these again": the end gives the refusal that stands
abbrev pub StandsAtTheEnd : Type 0
StandsAtTheEnd = (st : State) → (standing st ≡ 0 → ⊥) → standing (at_end st) ≡ standing st

-- ---- the header before the end

-- the header of the numbers that were read
abbrev pub header_in : Reading → Header
header_in (Whole ns at) = header_of ns
header_in (Stopped refusal) = empty_header

-- one that is handed over is that of the report's numbers, as the whole reader reads them, whatever bytes are still to come
abbrev pub HeaderOfNumbers : Type 0
HeaderOfNumbers = (p : Profile) (s rest : List ℕ) → whole_at (after p start s) ≡ 1 → header_at (after p start s) ≡ header_in (read_numbers p (s ++ rest))

-- and where the whole reader accepts the report, the one that it answers
abbrev pub HeaderOfAccepted : Type 0
HeaderOfAccepted =
    (p : Profile) (s rest : List ℕ) → whole_at (after p start s) ≡ 1 → (read_report p (s ++ rest)).refusal ≡ 0 → header_at (after p start s) ≡ (read_report p (s ++ rest)).header
