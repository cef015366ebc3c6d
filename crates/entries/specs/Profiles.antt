-- What a report's profile fixes: its records, and its metrics. The caller passes its number.
use Rattle.std.specs.Prelude.{◌≡◌, ℕ, ◌+◌, ◌%◌, Bool, true, Result, Ok, Err, ◌==◌, ◌≢◌}
use Rattle.wire.specs.Bytes.{pick}
use Rattle.wire.specs.declared.Refusal.{Refusal}
use Rattle.wire.specs.declared.Refusal.TheVariants.{OtherProfile}
use Rattle.entries.specs.Limits.{entry_size, group_size}
use Rattle.entries.specs.declared.Profile.{Profile}
use Rattle.entries.specs.declared.Profile.TheVariants.{One, Two}

-- how many bytes of a record are its group
abbrev pub group_bytes : Profile → ℕ
group_bytes One = 0
group_bytes Two = group_size

-- "Profile 2 has 24-byte records: group .., then the present 16"
abbrev pub record_size : Profile → ℕ
record_size p = group_bytes p + entry_size

-- "At most 4 metrics"; "up to 8 metrics" (02, No. 10)
abbrev pub most_metrics : Profile → ℕ
most_metrics One = 4
most_metrics Two = 8

-- "from 0x02, 0x04, 0x10, 0x12"; "Unknown even metric types are allowed" (02, No. 10)
abbrev pub type_allowed : Profile → ℕ → Bool
type_allowed One v = pick (v == 0x02) true (pick (v == 0x04) true (pick (v == 0x10) true (v == 0x12)))
type_allowed Two v = v % 2 == 0

-- what f says of the caller's profile; other is the answer with "18 for a profile other than 1 or 2, first"
abbrev pub of_profile : {R : Type 0} → ℕ → R → (Profile → R) → R
of_profile n other f = pick (n == 1) (f One) (pick (n == 2) (f Two) other)

-- that profile itself
abbrev pub profile_by : ℕ → Result Profile Refusal
profile_by n = of_profile n (Err OtherProfile) (λ p. Ok p)

abbrev pub Numbered : ℕ → Result Profile Refusal → Type 0
Numbered n r = r ≡ profile_by n

-- ---- for the rows of the refusal table

-- the number that the caller passes
abbrev pub number_of : Profile → ℕ
number_of One = 1
number_of Two = 2

-- 18: no profile has the number
abbrev pub Other : ℕ → Type 0
Other n = (p : Profile) → n ≢ number_of p

-- the number is that of a profile, of which P holds
pub record In (n : ℕ) (P : Profile → Type 0) : Type 0 where
  pub profile : Profile
  pub number : n ≡ number_of profile
  pub holds : P profile
