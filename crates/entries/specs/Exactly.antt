-- The rows of the refusal table for entries: each number is given exactly when its row says, and no other number; and how many of the last records fit.
use Rattle.std.specs.Prelude.{◌≡◌, ℕ, suc, ◌*◌, ◌/◌, ◌%◌, ◌<◌, ◌≤◌, true, false, ◌⊎◌, ◌↔◌, List, [], ◌∷◌, length}
use Rattle.wire.specs.Numbers.{limit}
use Rattle.wire.specs.Exactly.{OneOf}
use Rattle.wire.specs.Refusals.{refusal_number}
use Rattle.entries.specs.Limits.{most_given}
use Rattle.entries.specs.Profiles.{record_size, Other, In}
use Rattle.entries.specs.Entries.{group_of, behind, object_of, status_of, zeros_of, age_of, record_at, entry, entry_at, entry_by, entries_good, entries_fault}
use Rattle.entries.specs.Fitting.{size_of, fitting_of, last_of}
use Rattle.entries.specs.declared.Profile.{Profile}
use Rattle.entries.specs.declared.Status.{Status}

-- ---- one entry

-- what the bytes of a record must obey: group and object number "at most 2^62 - 1", a status of the four, "three zero bytes", age "0 where status is 2"
pub record Right (p : Profile) (b : List ℕ) : Type 0 where
  pub group : group_of p b ≤ limit
  pub object : object_of (behind p b) ≤ limit
  pub status : status_of (behind p b) ≤ 3
  pub zeros : zeros_of (behind p b) ≡ 0
  pub age : status_of (behind p b) ≡ 2 → age_of (behind p b) ≡ 0

-- the bytes end before record i does
abbrev pub EndsBefore : Profile → List ℕ → ℕ → Type 0
EndsBefore p s i = length s < suc i * record_size p

-- record i is there
abbrev pub There : Profile → List ℕ → ℕ → Type 0
There p s i = suc i * record_size p ≤ length s

pub record EntryRows (profile : ℕ) (s : List ℕ) (i refusal : ℕ) : Type 0 where
  pub eighteen : refusal ≡ 18 ↔ Other profile
  pub two : refusal ≡ 2 ↔ In profile (λ p. EndsBefore p s i)
  pub twelve : refusal ≡ 12 ↔ In profile (λ p. There p s i × (Right p (record_at p s i) → ⊥))
  pub accepted : refusal ≡ 0 ↔ In profile (λ p. There p s i × Right p (record_at p s i))
  pub others : OneOf refusal (0 ∷ 2 ∷ 12 ∷ 18 ∷ [])

abbrev pub EntryReads : Type 0
EntryReads = (profile : ℕ) (s : List ℕ) (i : ℕ) → EntryRows profile s i (refusal_number (entry_by profile s i))

-- ---- records in a row

-- "They rise by group, then object" (02, No. 10): whether the first of two records comes below the second
abbrev pub Below : ℕ → ℕ → ℕ → ℕ → Type 0
Below group object group' object' = (group < group') ⊎ ((group ≡ group') × (object < object'))

-- what a record must obey: it is an entry, and it rises above its forerunner
pub record Obeys (p : Profile) (s : List ℕ) (i : ℕ) : Type 0 where
  pub group : ℕ
  pub object : ℕ
  pub status : Status
  pub age : ℕ
  pub entry : entry_at p s i ≡ entry group object status age
  pub rises : (j : ℕ) → suc j ≡ i → Below (group_of p (record_at p s j)) (object_of (behind p (record_at p s j))) group object

abbrev pub EntriesJudged : Type 0
EntriesJudged = (p : Profile) (s : List ℕ) → entries_good p s ≡ true ↔ ((i : ℕ) → i < length s / record_size p → Obeys p s i)

-- ---- the records handed to a writer

-- they pass
pub record RecordsPass (p : Profile) (s : List ℕ) : Type 0 where
  pub even : length s % record_size p ≡ 0
  pub few : length s / record_size p ≤ most_given
  pub good : entries_good p s ≡ true

-- 12: a length that is no multiple of the record's
abbrev pub Ragged : Profile → List ℕ → Type 0
Ragged p s = length s % record_size p ≡ 0 → ⊥

-- 10: more than 256 records
pub record TooMany (p : Profile) (s : List ℕ) : Type 0 where
  pub even : length s % record_size p ≡ 0
  pub many : most_given < length s / record_size p

-- 12: a record that breaks its rule
pub record BadRecord (p : Profile) (s : List ℕ) : Type 0 where
  pub even : length s % record_size p ≡ 0
  pub few : length s / record_size p ≤ most_given
  pub bad : entries_good p s ≡ false

pub record FaultRows (p : Profile) (s : List ℕ) (refusal : ℕ) : Type 0 where
  pub ten : refusal ≡ 10 ↔ TooMany p s
  pub twelve : refusal ≡ 12 ↔ (Ragged p s ⊎ BadRecord p s)
  pub accepted : refusal ≡ 0 ↔ RecordsPass p s
  pub others : OneOf refusal (0 ∷ 10 ∷ 12 ∷ [])

abbrev pub FaultJudged : Type 0
FaultJudged = (p : Profile) (s : List ℕ) → FaultRows p s (refusal_number (entries_fault p s))

-- ---- the run of last records that is kept

-- k of n records: at most so many, no more than are given, it fits where no record does, and no longer one fits
pub record Longest (p : Profile) (n most room k : ℕ) : Type 0 where
  pub limit : k ≤ most
  pub given : k ≤ n
  pub fits : size_of p 0 ≤ room → size_of p k ≤ room
  pub longest : (j : ℕ) → j ≤ most → j ≤ n → size_of p j ≤ room → j ≤ k

abbrev pub RecordsFit : Type 0
RecordsFit = (p : Profile) (given most room : ℕ) → Longest p given most room (fitting_of p given most room)

-- k records were kept and are now m: no fewer, and those kept before are the last of those kept now
pub record KeptStill (p : Profile) (s : List ℕ) (k m : ℕ) : Type 0 where
  pub more : k ≤ m
  pub last : last_of p s k ≡ last_of p (last_of p s m) k

-- "more room, or a higher maximum, never drops an entry that was kept with less" (02, No. 8)
abbrev pub RecordsStay : Type 0
RecordsStay =
    (p : Profile) (s : List ℕ) (most most' room room' : ℕ) → most ≤ most' → room ≤ room'
    → KeptStill p s (fitting_of p (length s / record_size p) most room) (fitting_of p (length s / record_size p) most' room')
