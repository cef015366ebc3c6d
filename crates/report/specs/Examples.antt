-- The settled examples P9 and P10, longer forms at a field with another fault or none (02, No. 5), the limits of No. 8, and the profiles of No. 10, on the definitions.
use Rattle.std.specs.Prelude.{ℕ, ◌+◌, ◌-◌, ◌*◌, ◌^◌, ◌≡◌, List, [], ◌∷◌, ◌++◌, Err, negsuc, replicate}
use Rattle.wire.specs.declared.Refusal.TheVariants.{NoRoom, BrokenCount, BrokenEntry, OtherProfile}
use Rattle.entries.specs.Limits.{most_entries}
use Rattle.entries.specs.Fitting.{fitting_of}
use Rattle.report.specs.Reader.{read_by, entries_by}
use Rattle.report.specs.Writer.{done, answer_by, bytes_by}
use Rattle.entries.specs.declared.Profile.TheVariants.{One}
use Rattle.report.specs.declared.Header.{Header}

-- timestamp 1,000,000, interval 100,000, counts 3, 1, 1, 1, average -2, no metrics
abbrev pub sample : ℕ → Header
sample entries = record {
  timestamp = 1000000;
  interval = 100000;
  total = 3;
  received = 1;
  late = 1;
  lost = 1;
  average = negsuc 1;
  metrics = 0;
  kinds = replicate 8 0;
  values = replicate 8 0;
  entries = entries;
}

-- the fourteen bytes before the entry count
abbrev pub head : List ℕ
head = 0x80 ∷ 0x0f ∷ 0x42 ∷ 0x40 ∷ 0x80 ∷ 0x01 ∷ 0x86 ∷ 0xa0 ∷ 0x03 ∷ 0x01 ∷ 0x01 ∷ 0x01 ∷ 0x03 ∷ 0x00 ∷ []

-- a record: an object number below 256, a status, and an age below 256
abbrev pub entry : ℕ → ℕ → ℕ → List ℕ
entry object status age = 0 ∷ 0 ∷ 0 ∷ 0 ∷ 0 ∷ 0 ∷ 0 ∷ object ∷ status ∷ 0 ∷ 0 ∷ 0 ∷ 0 ∷ 0 ∷ 0 ∷ age ∷ []

-- three records: received, late, not received
abbrev pub three : List ℕ
three = entry 7 0 9 ++ (entry 8 1 5 ++ entry 11 2 0)

pub record Examples : Type 0 where
  pub P9 : (answer_by 1 (sample 0) [] most_entries 15 ≡ done 15 0) × (bytes_by 1 (sample 0) [] most_entries (replicate 15 0) ≡ head ++ (0x00 ∷ []))
  pub P9-read : (read_by 1 (head ++ (0x00 ∷ [])) ≡ record { refusal = 0; header = sample 0 }) × (entries_by 1 (head ++ (0x00 ∷ [])) ≡ [])
  pub P10-two : (answer_by 1 (sample 0) three most_entries 47 ≡ done 47 2) × (bytes_by 1 (sample 0) three most_entries (replicate 47 0) ≡ head ++ (0x02 ∷ (entry 8 1 5 ++ entry 11 2 0)))
  pub P10-one : (answer_by 1 (sample 0) three most_entries 46 ≡ done 31 1) × (bytes_by 1 (sample 0) three most_entries (replicate 46 0) ≡ head ++ (0x01 ∷ (entry 11 2 0 ++ replicate 15 0)))
  pub P10-none : (answer_by 1 (sample 0) three most_entries 15 ≡ done 15 0) × (bytes_by 1 (sample 0) three most_entries (replicate 15 0) ≡ head ++ (0x00 ∷ []))
  pub P10-refused : (answer_by 1 (sample 0) three most_entries 14 ≡ Err NoRoom) × (bytes_by 1 (sample 0) three most_entries (replicate 14 0) ≡ replicate 14 0)
  pub P10-read : (read_by 1 (head ++ (0x03 ∷ three)) ≡ record { refusal = 0; header = sample 3 }) × (entries_by 1 (head ++ (0x03 ∷ three)) ≡ three)

-- what the reader answers
abbrev pub refusal : List ℕ → ℕ
refusal s = (read_by 1 s).refusal

-- as many zeros, and then these bytes
abbrev pub zeros : ℕ → List ℕ → List ℕ
zeros n s = replicate n 0 ++ s

pub record LongerForms : Type 0 where
  pub first : refusal (0x40 ∷ zeros 9 []) ≡ 15
  pub four_bytes : refusal (0x80 ∷ zeros 11 []) ≡ 15
  pub eight-bytes : refusal (0xc0 ∷ zeros 15 []) ≡ 15
  pub cut : refusal (zeros 2 (0x80 ∷ 0x00 ∷ [])) ≡ 2
  pub lost-before-sum : refusal (zeros 5 (0x40 ∷ 0x01 ∷ [])) ≡ 15
  pub sum-before-average : refusal (zeros 5 (0x01 ∷ 0x40 ∷ 0x00 ∷ [])) ≡ 11
  pub count-before-ten : refusal (zeros 7 (0x40 ∷ 0x05 ∷ [])) ≡ 15
  pub type-before-ten : refusal (zeros 7 (0x01 ∷ 0x40 ∷ 0x03 ∷ [])) ≡ 15
  pub value : refusal (zeros 7 (0x01 ∷ 0x02 ∷ 0x40 ∷ 0x00 ∷ 0x00 ∷ [])) ≡ 15
  pub last : refusal (zeros 8 (0x40 ∷ 0x00 ∷ [])) ≡ 15
  pub last-before-ten : refusal (zeros 8 (0x80 ∷ 0x00 ∷ 0x00 ∷ 0xc9 ∷ [])) ≡ 15
  pub shortest : refusal (zeros 9 []) ≡ 0

-- the limits of No. 8: the maximum is judged before the records, and the count takes a second byte from 64 entries on
pub record Maxima : Type 0 where
  pub none : answer_by 1 (sample 0) three 0 100 ≡ done 15 0
  pub two : (answer_by 1 (sample 0) three 2 100 ≡ done 47 2) × (bytes_by 1 (sample 0) three 2 (replicate 47 0) ≡ head ++ (0x02 ∷ (entry 8 1 5 ++ entry 11 2 0)))
  pub all : (answer_by 1 (sample 0) three 3 100 ≡ done 63 3) × (answer_by 1 (sample 0) three 200 100 ≡ done 63 3)
  pub above : (answer_by 1 (sample 0) three 201 100 ≡ Err BrokenCount) × (answer_by 1 (sample 0) three (2 ^ 64 - 1) 100 ≡ Err BrokenCount)
  pub before-records : (answer_by 1 (sample 0) (7 ∷ []) 201 100 ≡ Err BrokenCount) × (answer_by 1 (sample 0) (7 ∷ []) 200 100 ≡ Err BrokenEntry)
  pub count-read : (refusal (zeros 8 (0x40 ∷ 0xc8 ∷ [])) ≡ 2) × (refusal (zeros 8 (0x40 ∷ 0xc9 ∷ [])) ≡ 10)
  pub second-byte : (fitting_of One 256 200 (1 + 16 * 63) ≡ 63) × ((fitting_of One 256 200 (1 + 16 * 64) ≡ 63) × (fitting_of One 256 200 (2 + 16 * 64) ≡ 64))
  pub most : (fitting_of One 256 200 (1 + 16 * 200) ≡ 199) × ((fitting_of One 256 200 (2 + 16 * 200) ≡ 200) × (fitting_of One 256 200 (2 + 16 * 201) ≡ 200))
  pub old : fitting_of One 256 50 (2 + 16 * 201) ≡ 50

-- what the reader answers in profile 2
abbrev pub refusal2 : List ℕ → ℕ
refusal2 s = (read_by 2 s).refusal

-- a record of profile 2: a group below 256, and the rest
abbrev pub grouped : ℕ → ℕ → ℕ → ℕ → List ℕ
grouped group object status age = 0 ∷ 0 ∷ 0 ∷ 0 ∷ 0 ∷ 0 ∷ 0 ∷ group ∷ entry object status age

-- a rising group and a falling object number
abbrev pub groups : List ℕ
groups = grouped 1 9 0 5 ++ grouped 2 3 2 0

-- records of profile 2: "They rise by group, then object", and are kept by their own size
pub record Groups : Type 0 where
  pub read : (read_by 2 (head ++ (0x02 ∷ groups)) ≡ record { refusal = 0; header = sample 2 }) × (entries_by 2 (head ++ (0x02 ∷ groups)) ≡ groups)
  pub same-group : refusal2 (head ++ (0x02 ∷ (grouped 1 3 0 5 ++ grouped 1 4 0 5))) ≡ 0
  pub same-pair : refusal2 (head ++ (0x02 ∷ (grouped 1 3 0 5 ++ grouped 1 3 0 5))) ≡ 12
  pub falling-object : refusal2 (head ++ (0x02 ∷ (grouped 1 4 0 5 ++ grouped 1 3 0 5))) ≡ 12
  pub falling-group : refusal2 (head ++ (0x02 ∷ (grouped 2 3 0 5 ++ grouped 1 4 0 5))) ≡ 12
  pub group-above : refusal2 (head ++ (0x01 ∷ 0x40 ∷ zeros 7 (entry 1 0 0))) ≡ 12
  pub too_few : refusal2 (head ++ (0x03 ∷ groups)) ≡ 2
  pub as-profile-one : refusal (head ++ (0x02 ∷ groups)) ≡ 13
  pub both-kept : answer_by 2 (sample 0) groups 200 63 ≡ done 63 2
  pub one_kept : (answer_by 2 (sample 0) groups 200 62 ≡ done 39 1) × (bytes_by 2 (sample 0) groups 200 (replicate 62 0) ≡ head ++ (0x01 ∷ (grouped 2 3 2 0 ++ replicate 23 0)))
  pub none_kept : (answer_by 2 (sample 0) groups 200 38 ≡ done 15 0) × (answer_by 2 (sample 0) groups 200 14 ≡ Err NoRoom)
  pub ragged : answer_by 2 (sample 0) (entry 7 0 9) 200 100 ≡ Err BrokenEntry

-- eight metrics, each of its type and the value 1
abbrev pub eight : List ℕ
eight = 0x08 ∷ 0 ∷ 1 ∷ 2 ∷ 1 ∷ 4 ∷ 1 ∷ 6 ∷ 1 ∷ 8 ∷ 1 ∷ 10 ∷ 1 ∷ 12 ∷ 1 ∷ 14 ∷ 1 ∷ []

-- metrics of profile 2: even types, "up to 8 metrics", shown with their value
pub record EvenTypes : Type 0 where
  pub shown : ((read_by 2 (zeros 7 (eight ++ (0 ∷ [])))).header.kinds ≡ 0 ∷ 2 ∷ 4 ∷ 6 ∷ 8 ∷ 10 ∷ 12 ∷ 14 ∷ []) × ((read_by 2 (zeros 7 (eight ++ (0 ∷ [])))).header.values ≡ replicate 8 1)
  pub nine : refusal2 (zeros 7 (0x09 ∷ [])) ≡ 10
  pub odd : refusal2 (zeros 7 (0x01 ∷ 0x03 ∷ [])) ≡ 10
  pub falling : refusal2 (zeros 7 (0x02 ∷ 0x04 ∷ 0x01 ∷ 0x02 ∷ [])) ≡ 10
  pub equal : refusal2 (zeros 7 (0x02 ∷ 0x04 ∷ 0x01 ∷ 0x04 ∷ [])) ≡ 10
  pub in-profile-one : (refusal (zeros 7 (0x05 ∷ [])) ≡ 10) × (refusal (zeros 7 (0x01 ∷ 0x06 ∷ [])) ≡ 10)

-- "18 for a profile other than 1 or 2, first": where another refusal would come, and where none would
pub record OtherProfiles : Type 0 where
  pub zero : ((read_by 0 []).refusal ≡ 18) × (answer_by 0 (sample 0) (7 ∷ []) 201 0 ≡ Err OtherProfile)
  pub three : ((read_by 3 (zeros 9 [])).refusal ≡ 18) × (entries_by 3 (zeros 9 []) ≡ [])
  pub largest : ((read_by (2 ^ 64 - 1) (zeros 9 [])).refusal ≡ 18) × (bytes_by (2 ^ 64 - 1) (sample 0) [] 200 (replicate 15 0) ≡ replicate 15 0)
