-- The calls on one tracker from its opening on, in their order, and what they tell: what became of each object, its status at a time, the summary and the entries.
-- The record holds exactly this, and every report from it is made from this.
use Rattle.std.specs.Prelude.{ℕ, ◌+◌, ◌-◌, ◌≡◌, Bool, true, ◌&&◌, List, [], ◌∷◌, eqb, ℤ, length}
use Rattle.wire.specs.Bytes.{pick}
use Rattle.report.specs.declared.Header.{Header}
use Rattle.tracker.specs.Known.{Fate, unknown, ended, came, FirstArrival, none_yet, first_came, Known}
use Rattle.tracker.specs.Record.{both_obey, consistent, known}
use Rattle.tracker.specs.Calls.{open_refusal, opened, among, numbers_refusal, is_late, arrival_obeys, arrived_refusal, arrived_after, ended_refusal, ended_after}
use Rattle.tracker.specs.Status.{status_at}
use Rattle.tracker.specs.Report.{with_status, total_of, average_at, header_of, entries_at, made_refusal, reported_as, stored_unless, report_answer, report_bytes}

-- a call and its arguments, the deadline as an end: one past it, 0 for none. Making a report leaves the record as it is
pub data Call : Type 0 where
  arrival : (object time deadline : ℕ) → Call
  early_end : (object time : ℕ) → Call

-- ---- what the calls tell, with no word about the record: a call counts if its numbers obey 5 and it names one of the 256

abbrev pub arrival_counts : ℕ → ℕ → ℕ → ℕ → Bool
arrival_counts first object time deadline = arrival_obeys object time deadline && among first object

abbrev pub end_counts : ℕ → ℕ → ℕ → Bool
end_counts first object time = both_obey object time && among first object

-- "First means first by order of calls"
unfoldable pub first_told : ℕ → List Call → FirstArrival
first_told first [] = none_yet
first_told first (arrival object time deadline ∷ later) = pick (arrival_counts first object time deadline) (first_came (object - first) time) (first_told first later)
first_told first (early_end object time ∷ later) = first_told first later

-- the object's first arrival, late or not: "A second arrival [..] is ignored"
unfoldable pub arrival_told : ℕ → ℕ → List Call → Fate
arrival_told first n [] = unknown
arrival_told first n (arrival object time deadline ∷ later) =
    pick (arrival_counts first object time deadline && eqb object n) (came time (is_late time deadline)) (arrival_told first n later)
arrival_told first n (early_end object time ∷ later) = arrival_told first n later

-- its first early end: "a second early end [..] is ignored"
unfoldable pub end_told : ℕ → ℕ → List Call → Fate
end_told first n [] = unknown
end_told first n (arrival object time deadline ∷ later) = end_told first n later
end_told first n (early_end object time ∷ later) = pick (end_counts first object time && eqb object n) (ended time) (end_told first n later)

-- the one, and where nothing is known by it the other
abbrev pub or_else : Fate → Fate → Fate
or_else unknown other = other
or_else (ended time) other = ended time
or_else (came time late) other = came time late

-- what became of an object: "An arrival after an early end or a loss counts"; "one after an arrival, is ignored"
abbrev pub became_told : ℕ → ℕ → List Call → Fate
became_told first n calls = or_else (arrival_told first n calls) (end_told first n calls)

-- ---- from an opening on: the status of an object at a time, how many have each, the average of the arrivals, and the entries

module _ (first interval : ℕ) (calls : List Call) where
  abbrev pub known_told : Known
  known_told = record { first = first; interval = interval; arrival = first_told first calls; became = λ place. became_told first (first + place) calls }

  -- of one of the 256
  abbrev pub status_told : ℕ → ℕ → ℕ
  status_told time object = status_at known_told time (object - first)

  abbrev pub received_told : ℕ → ℕ
  received_told time = with_status known_told time 0

  abbrev pub late_told : ℕ → ℕ
  late_told time = with_status known_told time 1

  -- lost are those not received and those received in part (003)
  abbrev pub lost_told : ℕ → ℕ
  lost_told time = with_status known_told time 2 + with_status known_told time 3

  -- "over all objects with a status"
  abbrev pub total_told : ℕ → ℕ
  total_told time = total_of known_told time

  abbrev pub average_told : ℤ
  average_told = average_at known_told

  abbrev pub summary_told : ℕ → ℕ → Header
  summary_told time reportInterval = header_of time reportInterval (total_told time) (received_told time) (late_told time) (lost_told time) average_told

  abbrev pub entries_told : ℕ → List ℕ
  entries_told time = entries_at known_told time

  -- what a report is refused with
  abbrev pub refusal_told : ℕ → ℕ → ℕ → ℕ
  refusal_told time reportInterval room = made_refusal known_told time reportInterval room

-- "Prove that total equals the three parts, each defined from the arrivals"
abbrev pub TotalIsParts : Type 0
TotalIsParts =
    (first interval : ℕ) (calls : List Call) (time : ℕ)
    → total_told first interval calls time ≡ received_told first interval calls time + late_told first interval calls time + lost_told first interval calls time

-- ---- so it is from every accepted opening on

-- the record after the calls, refused ones included: each is given what the call before left
unfoldable pub after : List ℕ → List Call → List ℕ
after r [] = r
after r (arrival object time deadline ∷ later) = after (arrived_after r object time deadline) later
after r (early_end object time ∷ later) = after (ended_after r object time) later

pub record ToldOf (first interval : ℕ) (calls : List Call) : Type 0 where
  -- the record knows exactly what the calls say
  pub says : known (after (opened first interval) calls) ≡ known_told first interval calls
  -- no call after an opening is refused with 1
  pub sound : consistent (after (opened first interval) calls) ≡ true
  -- an arrival and an early end are refused by their own numbers, whatever was called before
  pub arrivals : (object time deadline : ℕ) → arrived_refusal (after (opened first interval) calls) object time deadline ≡ numbers_refusal first object (arrival_obeys object time deadline)
  pub ends : (object time : ℕ) → ended_refusal (after (opened first interval) calls) object time ≡ numbers_refusal first object (both_obey object time)
  -- the answer to a report: the summary that the calls tell, or the refusal
  pub summary : (time reportInterval room : ℕ)
      → report_answer (after (opened first interval) calls) time reportInterval room
      ≡ reported_as (refusal_told first interval calls time reportInterval room) (summary_told first interval calls time reportInterval)
  -- and the lent buffer: the entries that the calls tell, or as it was
  pub entries : (time reportInterval : ℕ) (xs : List ℕ)
      → report_bytes (after (opened first interval) calls) time reportInterval xs
      ≡ stored_unless (refusal_told first interval calls time reportInterval (length xs)) (entries_told first interval calls time) xs

abbrev pub Told : Type 0
Told = (first interval : ℕ) (calls : List Call) → open_refusal first interval ≡ 0 → ToldOf first interval calls
