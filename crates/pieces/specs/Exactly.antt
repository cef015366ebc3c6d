-- The rows of the refusal table for the reader in pieces: each number is given exactly when its row says, and no other number is.
use Rattle.std.specs.Prelude.{ℕ, zero, suc, ◌+◌, ◌-◌, ◌*◌, ◌≤◌, ◌<◌, ◌≡◌, ◌↔◌, ◌⊎◌, Bool, true, Ok, Err, List, [], ◌∷◌, ◌++◌, length, get_or}
use Rattle.wire.specs.Numbers.{limit, read_number}
use Rattle.wire.specs.Exactly.{OneOf, Small}
use Rattle.wire.specs.Fields.{found}
use Rattle.wire.specs.Refusals.{refusal_number}
use Rattle.wire.specs.declared.Refusal.TheVariants.{Ends}
use Rattle.entries.specs.Profiles.{record_size, number_of, Other}
use Rattle.entries.specs.declared.Profile.{Profile}
use Rattle.report.specs.Limits.{most_numbers}
use Rattle.report.specs.Header.{judge_field, first_fault, wanted_of, count_of}
use Rattle.uncut.specs.State.{State, Numbers, Records, Counting, Refused, Accepted, standing}
use Rattle.uncut.specs.Step.{after}
use Rattle.pieces.specs.Record.{most_carried, profile_in, state_of}
use Rattle.pieces.specs.Fitness.{largest_group, consistent}
use Rattle.pieces.specs.Calls.{open_refusal, taken_of, take_answer, end_answer}

-- ---- 1: "a record whose parts disagree or break 5"

-- each obeys 5, and none brings a fault
abbrev pub NumbersObey : Profile → List ℕ → Type 0
NumbersObey p ns = Small ns × (first_fault p ns ≡ Ok tt)

-- and they are a whole header's
abbrev pub HeaderObeys : Profile → List ℕ → Type 0
HeaderObeys p ns = NumbersObey p ns × (length ns ≡ wanted_of p ns)

-- what is known of the records, of which the header counts so many
pub record RowsObey (p : Profile) (count left last above carried : ℕ) : Type 0 where
  pub some : left ≤ count
  pub before : left ≡ count → (last ≡ 0) × (above ≡ 0)
  pub behind : left < count → (last ≤ largest_group p) × ((0 < above) × (above ≤ limit + 1))
  pub unfinished : carried < record_size p
  pub over : left ≡ 0 → carried ≡ 0

abbrev pub Fit : Profile → State → Type 0
Fit p (Numbers ns held) = NumbersObey p ns × ((length ns < wanted_of p ns) × (read_number held 0 ≡ Err Ends))
Fit p (Records ns n last above held) = HeaderObeys p ns × RowsObey p (count_of ns) n last above (length held)
Fit p (Counting ns n) = HeaderObeys p ns × ((0 < count_of ns) × (n ≤ record_size p * (count_of ns - 1)))
Fit p (Refused n) = OneOf n (2 ∷ 10 ∷ 11 ∷ 12 ∷ 13 ∷ 15 ∷ [])
Fit p (Accepted ns) = HeaderObeys p ns

pub record Consistent (w : List ℕ) : Type 0 where
  pub profile : get_or w 0 0 ≡ number_of (profile_in w)
  pub stage : get_or w 1 0 ≤ 4
  pub count : get_or w 5 0 ≤ most_numbers
  pub carried : get_or w 6 0 ≤ most_carried
  pub fits : Fit (profile_in w) (state_of w)

abbrev pub ConsistentExactly : Type 0
ConsistentExactly = (w : List ℕ) → consistent w ≡ true ↔ Consistent w

-- ---- opening

pub record OpenRows (profile refusal : ℕ) : Type 0 where
  pub eighteen : refusal ≡ 18 ↔ Other profile
  pub others : OneOf refusal (0 ∷ 18 ∷ [])

-- ---- what the bytes s bring, from the state st on

-- a field becomes whole with the byte b and brings the refusal n
pub record Faulty (p : Profile) (st : State) (s : List ℕ) (n : ℕ) : Type 0 where
  pub front : List ℕ
  pub b : ℕ
  pub rest : List ℕ
  pub ns : List ℕ
  pub held : List ℕ
  pub v : ℕ
  pub next : ℕ
  pub shortest : Bool
  pub cut : s ≡ front ++ (b ∷ rest)
  pub before : after p st front ≡ Numbers ns held
  pub whole : read_number (held ++ (b ∷ [])) 0 ≡ found v next shortest
  pub brings : refusal_number (judge_field p ns v shortest) ≡ n

-- 13: a byte comes when all records have come
pub record TooMany (p : Profile) (st : State) (s : List ℕ) : Type 0 where
  pub front : List ℕ
  pub b : ℕ
  pub rest : List ℕ
  pub ns : List ℕ
  pub last : ℕ
  pub above : ℕ
  pub held : List ℕ
  pub cut : s ≡ front ++ (b ∷ rest)
  pub before : after p st front ≡ Records ns 0 last above held

-- 12: a bad record came, and now all the report's entry bytes have
pub record AllCame (p : Profile) (st : State) (s : List ℕ) : Type 0 where
  pub ns : List ℕ
  pub counted : after p st s ≡ Counting ns 0

-- ---- a part

abbrev pub Serves : List ℕ → ℕ → Type 0
Serves w room = Consistent w × (record_size (profile_in w) ≤ room)

pub record TakeRows (w part : List ℕ) (room refusal : ℕ) : Type 0 where
  pub one : refusal ≡ 1 ↔ (Consistent w → ⊥)
  pub nine : refusal ≡ 9 ↔ (Consistent w × (room < record_size (profile_in w)))
  -- the end was said too soon, earlier
  pub two : refusal ≡ 2 ↔ (Serves w room × (state_of w ≡ Refused 2))
  pub ten : refusal ≡ 10 ↔ (Serves w room × ((state_of w ≡ Refused 10) ⊎ Faulty (profile_in w) (state_of w) (taken_of w part room) 10))
  pub eleven : refusal ≡ 11 ↔ (Serves w room × ((state_of w ≡ Refused 11) ⊎ Faulty (profile_in w) (state_of w) (taken_of w part room) 11))
  pub twelve : refusal ≡ 12 ↔ (Serves w room × ((state_of w ≡ Refused 12) ⊎ AllCame (profile_in w) (state_of w) (taken_of w part room)))
  pub thirteen : refusal ≡ 13 ↔ (Serves w room × ((state_of w ≡ Refused 13) ⊎ TooMany (profile_in w) (state_of w) (taken_of w part room)))
  pub fifteen : refusal ≡ 15 ↔ (Serves w room × ((state_of w ≡ Refused 15) ⊎ Faulty (profile_in w) (state_of w) (taken_of w part room) 15))
  pub others : OneOf refusal (0 ∷ 1 ∷ 2 ∷ 9 ∷ 10 ∷ 11 ∷ 12 ∷ 13 ∷ 15 ∷ [])

-- ---- the end

-- numbers or entry bytes are missing
abbrev pub Missing : State → Type 0
Missing (Numbers ns held) = Unit
Missing (Records ns zero last above held) = ⊥
Missing (Records ns (suc n) last above held) = Unit
Missing (Counting ns zero) = ⊥
Missing (Counting ns (suc n)) = Unit
Missing (Refused n) = n ≡ 2
Missing (Accepted ns) = ⊥

pub record EndRows (w : List ℕ) (refusal : ℕ) : Type 0 where
  pub one : refusal ≡ 1 ↔ (Consistent w → ⊥)
  pub two : refusal ≡ 2 ↔ (Consistent w × Missing (state_of w))
  -- every other number is the one that stands
  pub stands : (n : ℕ) → (n ≡ 0 → ⊥) → (n ≡ 1 → ⊥) → (n ≡ 2 → ⊥) → refusal ≡ n ↔ (Consistent w × (standing (state_of w) ≡ n))
  pub others : OneOf refusal (0 ∷ 1 ∷ 2 ∷ 10 ∷ 11 ∷ 12 ∷ 13 ∷ 15 ∷ [])

pub record Exactly : Type 0 where
  pub opening : (profile : ℕ) → OpenRows profile (open_refusal profile)
  pub part : (w part : List ℕ) (room : ℕ) → TakeRows w part room (take_answer w part room).result
  pub end : (w : List ℕ) → EndRows w (end_answer w).refusal
