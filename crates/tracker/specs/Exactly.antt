-- The rows of the refusal table for the tracker's calls: each number is given exactly when its row says, the first fault first, and no other number is.
use Rattle.std.specs.Prelude.{ℕ, ◌+◌, ◌-◌, ◌*◌, ◌≤◌, ◌<◌, ◌≡◌, ◌↔◌, ◌⊎◌, true, List, [], ◌∷◌, length}
use Rattle.wire.specs.Numbers.{limit}
use Rattle.wire.specs.Exactly.{OneOf}
use Rattle.entries.specs.Profiles.{record_size}
use Rattle.entries.specs.declared.Profile.TheVariants.{One}
use Rattle.report.specs.Average.{stored_of}
use Rattle.tracker.specs.Known.{most_objects}
use Rattle.tracker.specs.Record.{first_of, interval_of, named_of, word_at, state_of, received, consistent, known}
use Rattle.tracker.specs.Calls.{open_refusal, open_after, place_of, arrived_refusal, arrived_after, ended_refusal, ended_after}
use Rattle.tracker.specs.Report.{total_of, average_at, report_refusal, report_bytes}

-- ---- 1: "a record whose parts disagree or break 5"

abbrev pub Arrived : ℕ → Type 0
Arrived word = received ≤ state_of word

pub record Consistent (r : List ℕ) : Type 0 where
  -- the last of the 256 obeys 5, and so do the others
  pub last : first_of r + 255 ≤ limit
  pub interval : interval_of r ≤ limit
  -- the first arrival named is an object that arrived
  pub within : named_of r ≤ most_objects
  pub named : (named_of r ≡ 0 → ⊥) → Arrived (word_at r (named_of r - 1))
  -- and where none is named none arrived
  pub none : named_of r ≡ 0 → (place : ℕ) → place < most_objects → Arrived (word_at r place) → ⊥

abbrev pub ConsistentExactly : Type 0
ConsistentExactly = (r : List ℕ) → consistent r ≡ true ↔ Consistent r

-- ---- opening

abbrev pub OpenObeys : ℕ → ℕ → Type 0
OpenObeys first interval = (first + 255 ≤ limit) × (interval ≤ limit)

pub record OpenRows (first interval refusal : ℕ) : Type 0 where
  pub five : refusal ≡ 5 ↔ (OpenObeys first interval → ⊥)
  pub accepted : refusal ≡ 0 ↔ OpenObeys first interval
  pub others : OneOf refusal (0 ∷ 5 ∷ [])

-- ---- an arrival and an early end: Obeys says that the call's numbers obey 5

abbrev pub Inside : List ℕ → ℕ → Type 0
Inside r object = (first_of r ≤ object) × (place_of r object < most_objects)

pub record ObjectRows (r : List ℕ) (object : ℕ) (Obeys : Type 0) (refusal : ℕ) : Type 0 where
  pub one : refusal ≡ 1 ↔ (Consistent r → ⊥)
  pub five : refusal ≡ 5 ↔ (Consistent r × (Obeys → ⊥))
  pub seventeen : refusal ≡ 17 ↔ (Consistent r × (Obeys × (Inside r object → ⊥)))
  pub accepted : refusal ≡ 0 ↔ (Consistent r × (Obeys × Inside r object))
  pub others : OneOf refusal (0 ∷ 1 ∷ 5 ∷ 17 ∷ [])

-- the deadline is an end, one past it
abbrev pub ArrivalObeys : ℕ → ℕ → ℕ → Type 0
ArrivalObeys object time deadline = ((object ≤ limit) × (time ≤ limit)) × (deadline ≤ limit + 1)

abbrev pub EndObeys : ℕ → ℕ → Type 0
EndObeys object time = (object ≤ limit) × (time ≤ limit)

-- ---- the report

abbrev pub InRange : List ℕ → Type 0
InRange r = stored_of (average_at (known r)) ≤ limit

pub record ReportRows (r : List ℕ) (time interval room refusal : ℕ) : Type 0 where
  pub one : refusal ≡ 1 ↔ (Consistent r → ⊥)
  pub five : refusal ≡ 5 ↔ (Consistent r × ((EndObeys time interval → ⊥) ⊎ (EndObeys time interval × (InRange r → ⊥))))
  pub nine : refusal ≡ 9 ↔ (Consistent r × (EndObeys time interval × (InRange r × (room < record_size One * total_of (known r) time))))
  pub accepted : refusal ≡ 0 ↔ (Consistent r × (EndObeys time interval × (InRange r × (record_size One * total_of (known r) time ≤ room))))
  pub others : OneOf refusal (0 ∷ 1 ∷ 5 ∷ 9 ∷ [])

pub record Exactly : Type 0 where
  pub opening : (first interval : ℕ) → OpenRows first interval (open_refusal first interval)
  pub arrived : (r : List ℕ) (object time deadline : ℕ) → ObjectRows r object (ArrivalObeys object time deadline) (arrived_refusal r object time deadline)
  pub ended : (r : List ℕ) (object time : ℕ) → ObjectRows r object (EndObeys object time) (ended_refusal r object time)
  pub report : (r : List ℕ) (time interval room : ℕ) → ReportRows r time interval room (report_refusal r time interval room)

-- a refused call leaves every word of the record and every byte of the buffer as it was, the opening included
pub record Unchanged : Type 0 where
  pub opening : (r : List ℕ) (first interval : ℕ) → (open_refusal first interval ≡ 0 → ⊥) → open_after r first interval ≡ r
  pub arrived : (r : List ℕ) (object time deadline : ℕ) → (arrived_refusal r object time deadline ≡ 0 → ⊥) → arrived_after r object time deadline ≡ r
  pub ended : (r : List ℕ) (object time : ℕ) → (ended_refusal r object time ≡ 0 → ⊥) → ended_after r object time ≡ r
  pub report : (r : List ℕ) (time interval : ℕ) (xs : List ℕ) → (report_refusal r time interval (length xs) ≡ 0 → ⊥) → report_bytes r time interval xs ≡ xs
