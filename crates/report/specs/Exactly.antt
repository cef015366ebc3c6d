-- The rows of the refusal table for reports: each number is given exactly when its row says, the first fault first, and no other number is.
use Rattle.std.specs.Prelude.{ℕ, suc, ◌+◌, ◌-◌, ◌*◌, ◌/◌, ◌%◌, ◌≤◌, ◌<◌, ◌≡◌, ◌↔◌, ◌⊎◌, true, false, Ok, Err, List, [], ◌∷◌, length, get_or}
use Rattle.wire.specs.Numbers.{read_number, encode_all}
use Rattle.wire.specs.Standing.{StandShortest}
use Rattle.wire.specs.Exactly.{OneOf, Small}
use Rattle.wire.specs.Fields.{found}
use Rattle.wire.specs.Refusals.{refusal_number}
use Rattle.wire.specs.declared.Refusal.TheVariants.{Ends}
use Rattle.entries.specs.Limits.{most_entries}
use Rattle.entries.specs.Profiles.{record_size, most_metrics, type_allowed, number_of, Other}
use Rattle.entries.specs.Entries.{entries_good}
use Rattle.entries.specs.Exactly.{RecordsPass, Ragged, TooMany, BadRecord}
use Rattle.report.specs.Layout.{at_total, at_received, at_late, at_lost, at_metrics, fixed_numbers}
use Rattle.report.specs.Header.{type_rises, judge, first_fault, wanted_of, count_of, numbers_of}
use Rattle.report.specs.Reader.{part_of, read_report, read_by}
use Rattle.report.specs.Writer.{report_size, write_answer, answer_by, bytes_by}
use Rattle.entries.specs.declared.Profile.{Profile}
use Rattle.report.specs.declared.Header.{Header}

-- ---- the number that the caller passes

-- 18 exactly where it is no profile's, and otherwise what the rows of its profile say, of whose numbers the refusal is one
pub record By (profile : ℕ) (Rows : Profile → ℕ → Type 0) (numbers : List ℕ) (refusal : ℕ) : Type 0 where
  pub eighteen : refusal ≡ 18 ↔ Other profile
  pub rows : (p : Profile) → profile ≡ number_of p → Rows p refusal
  pub others : OneOf refusal (18 ∷ numbers)

-- ---- the reader

-- the numbers ns were read in their shortest forms, none brought a refusal, and more are wanted
pub record Open (p : Profile) (s ns : List ℕ) (at : ℕ) : Type 0 where
  pub stand : StandShortest s 0 ns at
  pub good : first_fault p ns ≡ Ok tt
  pub more : length ns < wanted_of p ns

-- the numbers ns are a whole header: they were read so, none brought a refusal, and they are as many as are wanted
pub record Headed (p : Profile) (s ns : List ℕ) (at : ℕ) : Type 0 where
  pub stand : StandShortest s 0 ns at
  pub good : first_fault p ns ≡ Ok tt
  pub whole : length ns ≡ wanted_of p ns

-- the bytes end inside a number
pub record EndsInside (p : Profile) (s : List ℕ) : Type 0 where
  pub ns : List ℕ
  pub at : ℕ
  pub far : Open p s ns at
  pub ends : read_number s at ≡ Err Ends

-- 15: a number stands whole, and in a longer form than it need, whatever its value
pub record Longer (p : Profile) (s : List ℕ) : Type 0 where
  pub ns : List ℕ
  pub at : ℕ
  pub v : ℕ
  pub next : ℕ
  pub far : Open p s ns at
  pub reads : read_number s at ≡ found v next false

-- a number that was read in its shortest form breaks the rule of its place
pub record Faulty (p : Profile) (n : ℕ) (s : List ℕ) : Type 0 where
  pub ns : List ℕ
  pub at : ℕ
  pub v : ℕ
  pub next : ℕ
  pub far : Open p s ns at
  pub reads : read_number s at ≡ found v next true
  pub fault : refusal_number (judge p ns v) ≡ n

-- too few bytes remain for the entries
pub record TooFew (p : Profile) (s : List ℕ) : Type 0 where
  pub ns : List ℕ
  pub at : ℕ
  pub header : Headed p s ns at
  pub few : length s < at + record_size p * count_of ns

-- the entries are there, and a record breaks its rule
pub record BadEntry (p : Profile) (s : List ℕ) : Type 0 where
  pub ns : List ℕ
  pub at : ℕ
  pub header : Headed p s ns at
  pub there : at + record_size p * count_of ns ≤ length s
  pub bad : entries_good p (part_of p s ns at) ≡ false

-- the entries are there and good, and bytes remain
pub record Behind (p : Profile) (s : List ℕ) : Type 0 where
  pub ns : List ℕ
  pub at : ℕ
  pub header : Headed p s ns at
  pub good : entries_good p (part_of p s ns at) ≡ true
  pub remain : at + record_size p * count_of ns < length s

-- the entries are there and good, and nothing remains
pub record Sound (p : Profile) (s : List ℕ) : Type 0 where
  pub ns : List ℕ
  pub at : ℕ
  pub header : Headed p s ns at
  pub good : entries_good p (part_of p s ns at) ≡ true
  pub end : at + record_size p * count_of ns ≡ length s

-- what each number says of bytes that are read as a report of one profile
pub record ReaderRows (p : Profile) (s : List ℕ) (refusal : ℕ) : Type 0 where
  pub two : refusal ≡ 2 ↔ (EndsInside p s ⊎ TooFew p s)
  pub ten : refusal ≡ 10 ↔ Faulty p 10 s
  pub eleven : refusal ≡ 11 ↔ Faulty p 11 s
  pub twelve : refusal ≡ 12 ↔ BadEntry p s
  pub thirteen : refusal ≡ 13 ↔ Behind p s
  pub fifteen : refusal ≡ 15 ↔ Longer p s
  pub accepted : refusal ≡ 0 ↔ Sound p s
  pub others : OneOf refusal (0 ∷ 2 ∷ 10 ∷ 11 ∷ 12 ∷ 13 ∷ 15 ∷ [])

abbrev pub ReportReads : Type 0
ReportReads = (p : Profile) (s : List ℕ) → ReaderRows p s (read_report p s).refusal

abbrev pub ReportReadsBy : Type 0
ReportReadsBy = (profile : ℕ) (s : List ℕ) → By profile (λ p. ReaderRows p s) (0 ∷ 2 ∷ 10 ∷ 11 ∷ 12 ∷ 13 ∷ 15 ∷ []) (read_by profile s).refusal

-- ---- what breaks the rule of a place: ns are the numbers before it, v the number there

-- 11: v is lost, and "total differs from received + late + lost"
pub record SumBroken (ns : List ℕ) (v : ℕ) : Type 0 where
  pub place : length ns ≡ at_lost
  pub differs : get_or ns at_total 0 ≡ get_or ns at_received 0 + get_or ns at_late 0 + v → ⊥

-- 10: v is the metric count, and above the limit
pub record CountBroken (p : Profile) (ns : List ℕ) (v : ℕ) : Type 0 where
  pub place : length ns ≡ at_metrics
  pub above : most_metrics p < v

-- a type or the entry count stands there, and not a value
pub record Later (ns : List ℕ) : Type 0 where
  pub behind : fixed_numbers ≤ length ns
  pub even : length ns % 2 ≡ 1 → ⊥

-- 10: v is a type, and none that the profile allows or not above the one before it
pub record TypeBroken (p : Profile) (ns : List ℕ) (v : ℕ) : Type 0 where
  pub place : Later ns
  pub metric : (length ns - fixed_numbers) / 2 ≡ get_or ns at_metrics 0 → ⊥
  pub broken : (type_allowed p v ≡ true) × (type_rises ns v ≡ true) → ⊥

-- 10: v is the entry count, and above the limit
pub record EntriesBroken (ns : List ℕ) (v : ℕ) : Type 0 where
  pub place : Later ns
  pub last : (length ns - fixed_numbers) / 2 ≡ get_or ns at_metrics 0
  pub above : most_entries < v

pub record PlaceRows (p : Profile) (ns : List ℕ) (v : ℕ) : Type 0 where
  pub eleven : refusal_number (judge p ns v) ≡ 11 ↔ SumBroken ns v
  pub ten : refusal_number (judge p ns v) ≡ 10 ↔ (CountBroken p ns v ⊎ (TypeBroken p ns v ⊎ EntriesBroken ns v))
  pub others : OneOf (refusal_number (judge p ns v)) (0 ∷ 10 ∷ 11 ∷ [])

abbrev pub PlaceJudged : Type 0
PlaceJudged = (p : Profile) (ns : List ℕ) (v : ℕ) → PlaceRows p ns v

-- ---- the writer

-- total is received + late + lost
abbrev pub SumHolds : Header → Type 0
SumHolds h = h.total ≡ h.received + h.late + h.lost

-- as many metrics as the profile has at most, their "types strictly rising", and each a type that it allows
pub record MetricsObey (p : Profile) (h : Header) : Type 0 where
  pub few : h.metrics ≤ most_metrics p
  pub known : (i : ℕ) → i < h.metrics → type_allowed p (get_or h.kinds i 0) ≡ true
  pub rising : (i : ℕ) → suc i < h.metrics → get_or h.kinds i 0 < get_or h.kinds (suc i) 0

-- the header passes: its numbers, its sum and its metrics
pub record HeaderPasses (p : Profile) (h : Header) : Type 0 where
  pub small : Small (numbers_of p h)
  pub sum : SumHolds h
  pub metrics : MetricsObey p h

-- and so does the maximum, "from 0 to 200" (02, No. 8)
pub record MaximumPasses (p : Profile) (h : Header) (maximum : ℕ) : Type 0 where
  pub header : HeaderPasses p h
  pub within : maximum ≤ most_entries

-- and so do the records
pub record Passes (p : Profile) (h : Header) (entries : List ℕ) (maximum : ℕ) : Type 0 where
  pub front : MaximumPasses p h maximum
  pub records : RecordsPass p entries

-- 10: the metrics break their rule
pub record MetricsBroken (p : Profile) (h : Header) : Type 0 where
  pub small : Small (numbers_of p h)
  pub sum : SumHolds h
  pub broken : MetricsObey p h → ⊥

-- 10: the header passes, and the maximum is above the limit
pub record MaximumBroken (p : Profile) (h : Header) (maximum : ℕ) : Type 0 where
  pub header : HeaderPasses p h
  pub above : most_entries < maximum

pub record WriterRows (p : Profile) (h : Header) (entries : List ℕ) (maximum room refusal : ℕ) : Type 0 where
  pub five : refusal ≡ 5 ↔ (Small (numbers_of p h) → ⊥)
  pub eleven : refusal ≡ 11 ↔ (Small (numbers_of p h) × (SumHolds h → ⊥))
  pub ten : refusal ≡ 10 ↔ (MetricsBroken p h ⊎ (MaximumBroken p h maximum ⊎ (MaximumPasses p h maximum × TooMany p entries)))
  pub twelve : refusal ≡ 12 ↔ (MaximumPasses p h maximum × (Ragged p entries ⊎ BadRecord p entries))
  pub nine : refusal ≡ 9 ↔ (Passes p h entries maximum × (room < report_size p (length (encode_all (numbers_of p h))) 0))
  pub accepted : refusal ≡ 0 ↔ (Passes p h entries maximum × (report_size p (length (encode_all (numbers_of p h))) 0 ≤ room))
  pub others : OneOf refusal (0 ∷ 5 ∷ 9 ∷ 10 ∷ 11 ∷ 12 ∷ [])

abbrev pub ReportWrites : Type 0
ReportWrites = (p : Profile) (h : Header) (entries : List ℕ) (maximum room : ℕ) → WriterRows p h entries maximum room (refusal_number (write_answer p h entries maximum room))

abbrev pub ReportWritesBy : Type 0
ReportWritesBy =
    (profile : ℕ) (h : Header) (entries : List ℕ) (maximum room : ℕ)
    → By profile (λ p. WriterRows p h entries maximum room) (0 ∷ 5 ∷ 9 ∷ 10 ∷ 11 ∷ 12 ∷ []) (refusal_number (answer_by profile h entries maximum room))

-- a refused write leaves every element as it was
abbrev pub ReportUnchanged : Type 0
ReportUnchanged =
    (profile : ℕ) (h : Header) (entries : List ℕ) (maximum : ℕ) (xs : List ℕ) → (refusal_number (answer_by profile h entries maximum (length xs)) ≡ 0 → ⊥)
    → bytes_by profile h entries maximum xs ≡ xs
