-- The rows of the refusal table for the newest lost object, and what an answer that is none of them is: each number exactly when its row says, and no other.
use Rattle.std.specs.Prelude.{ℕ, suc, ◌+◌, ◌*◌, ◌<◌, ◌≡◌, ◌↔◌, ◌⊎◌, Option, Result, List, [], ◌∷◌, length}
use Rattle.wire.specs.Exactly.{OneOf}
use Rattle.wire.specs.Refusals.{refusal_number}
use Rattle.wire.specs.declared.Refusal.{Refusal}
use Rattle.entries.specs.Profiles.{record_size}
use Rattle.entries.specs.Entries.{group_of, behind, object_of, record_at, entry, entry_at}
use Rattle.entries.specs.Exactly.{Below}
use Rattle.entries.specs.declared.Profile.{Profile}
use Rattle.entries.specs.declared.Status.{Status}
use Rattle.entries.specs.declared.Status.TheVariants.{NotReceived}
use Rattle.report.specs.Header.{count_of}
use Rattle.report.specs.Reader.{part_of}
use Rattle.report.specs.Exactly.{By, Headed, EndsInside, Longer, Faulty, TooFew}
use Rattle.newest.specs.Newest.{newest_lost, newest_by}
use Rattle.newest.specs.Search.{found, nothing}
use Rattle.newest.specs.declared.Lost.{Lost as LostObject}

-- ---- the records, n of them

-- record i is "marked not received"
pub record Lost (p : Profile) (s : List ℕ) (i : ℕ) : Type 0 where
  pub group : ℕ
  pub object : ℕ
  pub age : ℕ
  pub entry : entry_at p s i ≡ entry group object NotReceived age

-- the search comes to record i: none after it is marked so
abbrev pub Read : Profile → List ℕ → ℕ → ℕ → Type 0
Read p s n i = (j : ℕ) → i < j → j < n → Lost p s j → ⊥

-- what a record that is read must obey: it is an entry, and it comes below the one after it; the one before it is not looked at
pub record Stands (p : Profile) (s : List ℕ) (n i : ℕ) : Type 0 where
  pub group : ℕ
  pub object : ℕ
  pub status : Status
  pub age : ℕ
  pub entry : entry_at p s i ≡ entry group object status age
  pub below : suc i < n → Below group object (group_of p (record_at p s (suc i))) (object_of (behind p (record_at p s (suc i))))

-- 12: "a bad record among those read, the found one and the order among them included"
pub record BadRead (p : Profile) (s : List ℕ) (n : ℕ) : Type 0 where
  pub index : ℕ
  pub there : index < n
  pub read : Read p s n index
  pub bad : Stands p s n index → ⊥

-- the last record that is marked not received, or that there is none
pub data Last (p : Profile) (s : List ℕ) (n : ℕ) : Result (Option LostObject) Refusal → Type 0 where
  last : {i : ℕ} → (x : Lost p s i) → i < n → Read p s n i → Last p s n (found x.group x.object)
  none : ((j : ℕ) → j < n → Lost p s j → ⊥) → Last p s n nothing

-- ---- the rows

-- 13: the header is whole, and bytes remain behind the entries that it announces, whatever these hold
pub record Remain (p : Profile) (s : List ℕ) : Type 0 where
  pub ns : List ℕ
  pub at : ℕ
  pub header : Headed p s ns at
  pub remain : at + record_size p * count_of ns < length s

-- the header is whole, the entries are there and nothing remains; and so much holds of the entries
pub record Exact (p : Profile) (s : List ℕ) (P : List ℕ → ℕ → Type 0) : Type 0 where
  pub ns : List ℕ
  pub at : ℕ
  pub header : Headed p s ns at
  pub end : at + record_size p * count_of ns ≡ length s
  pub holds : P (part_of p s ns at) (count_of ns)

pub record NewestRows (p : Profile) (s : List ℕ) (refusal : ℕ) : Type 0 where
  pub two : refusal ≡ 2 ↔ (EndsInside p s ⊎ TooFew p s)
  pub ten : refusal ≡ 10 ↔ Faulty p 10 s
  pub eleven : refusal ≡ 11 ↔ Faulty p 11 s
  pub twelve : refusal ≡ 12 ↔ Exact p s (BadRead p)
  pub thirteen : refusal ≡ 13 ↔ Remain p s
  pub fifteen : refusal ≡ 15 ↔ Longer p s
  pub accepted : refusal ≡ 0 ↔ Exact p s (λ part n. BadRead p part n → ⊥)
  pub others : OneOf refusal (0 ∷ 2 ∷ 10 ∷ 11 ∷ 12 ∷ 13 ∷ 15 ∷ [])

abbrev pub NewestReads : Type 0
NewestReads = (p : Profile) (s : List ℕ) → NewestRows p s (refusal_number (newest_lost p s))

abbrev pub NewestReadsBy : Type 0
NewestReadsBy = (profile : ℕ) (s : List ℕ) → By profile (λ p. NewestRows p s) (0 ∷ 2 ∷ 10 ∷ 11 ∷ 12 ∷ 13 ∷ 15 ∷ []) (refusal_number (newest_by profile s))
