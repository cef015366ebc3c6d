-- The week's totals: what is summed over the reports of a file, and where a sum stops.
use Rattle.std.specs.Prelude.{ℕ, zero, suc, ◌+◌, ◌-◌, ◌/◌, ◌^◌, min, List, [], ◌∷◌, ◌++◌, eqb, leb, length, drop}
use Rattle.wire.specs.Bytes.{pick}
use Rattle.entries.specs.Profiles.{record_size}
use Rattle.entries.specs.Entries.{status_of}
use Rattle.entries.specs.declared.Profile.TheVariants.{One}
use Rattle.report.specs.Reader.{read_report, entries_of}
use Rattle.totals.specs.declared.Totals.{Totals}

-- ---- the reports

-- "a report longer than 8,192 bytes"
abbrev pub longest : ℕ
longest = 8192

-- "Refusals: 20 for" such a report
abbrev pub too_long : ℕ
too_long = 20

-- the number that a report is given: the reader's, 0 for accepted, or 20
unfoldable pub number_of : List ℕ → ℕ
number_of r = pick (leb (length r) longest) (read_report One r).refusal too_long

-- "the list of accepted reports"
unfoldable pub accepted : List (List ℕ) → List (List ℕ)
accepted [] = []
accepted (r ∷ rs) = pick (eqb (number_of r) 0) (r ∷ accepted rs) (accepted rs)

-- 1 where the number is n
abbrev pub one : ℕ → ℕ → ℕ
one n number = pick (eqb number n) 1 0

-- "reports accepted, reports refused for each number": how many of the reports are given the number n
unfoldable pub how_many : ℕ → List (List ℕ) → ℕ
how_many n [] = 0
how_many n (r ∷ rs) = one n (number_of r) + how_many n rs

unfoldable pub summed : (List ℕ → ℕ) → List (List ℕ) → ℕ
summed f [] = 0
summed f (r ∷ rs) = f r + summed f rs

-- how many of n records in a row have the status
unfoldable pub records_with : ℕ → ℕ → List ℕ → ℕ
records_with status zero s = 0
records_with status (suc n) s = one status (status_of s) + records_with status n (drop (record_size One) s)

-- "the entry count by status": of the entries of a report
abbrev pub status_count : ℕ → List ℕ → ℕ
status_count status s = records_with status (length s / record_size One) s

-- of each of the four
abbrev pub status_counts : List ℕ → List ℕ
status_counts s = status_count 0 s ∷ status_count 1 s ∷ status_count 2 s ∷ status_count 3 s ∷ []

-- ---- what is counted, each in its place

abbrev pub places : ℕ
places = 29

-- 0 is reports accepted, 1 to 20 are reports refused with that number; then "the four summary totals"
abbrev pub at_total : ℕ
at_total = 21

abbrev pub at_received : ℕ
at_received = 22

abbrev pub at_late : ℕ
at_late = 23

abbrev pub at_lost : ℕ
at_lost = 24

-- the entries with status 0; the other statuses follow
abbrev pub at_entries : ℕ
at_entries = 25

-- what an accepted report brings to a total
unfoldable pub part_in : ℕ → List ℕ → ℕ
part_in place r =
    pick (eqb place at_total) (read_report One r).header.total
    (pick (eqb place at_received) (read_report One r).header.received
    (pick (eqb place at_late) (read_report One r).header.late
    (pick (eqb place at_lost) (read_report One r).header.lost (status_count (place - at_entries) (entries_of One r)))))

-- "All totals are defined over the list of accepted reports"
unfoldable pub sum_at : ℕ → List (List ℕ) → ℕ
sum_at place rs = pick (leb place too_long) (how_many place rs) (summed (part_in place) (accepted rs))

-- ---- where a sum stops

abbrev pub most : ℕ
most = 2 ^ 64 - 1

-- "one that would pass 2^64 - 1 stays there"
abbrev pub kept : ℕ → ℕ
kept sum = min sum most

-- "and is marked" full: 1; exactly 2^64 - 1 is not full
abbrev pub mark : ℕ → ℕ
mark sum = pick (leb sum most) 0 1

-- what f gives for 0 and so on, n of them
unfoldable pub listed : ℕ → (ℕ → ℕ) → List ℕ
listed zero f = []
listed (suc n) f = listed n f ++ (f n ∷ [])

-- the totals of a list of reports
unfoldable pub totals_of : List (List ℕ) → Totals
totals_of rs = record { sums = listed places (λ place. kept (sum_at place rs)); full = listed places (λ place. mark (sum_at place rs)) }
