-- States that calls lead to: what their words hold is what they say, and the words pass.
use Rattle.std.specs.Prelude.{ℕ, ◌≤◌, ◌≡◌, true, List, [], length}
use Rattle.wire.specs.Bytes.{Octets}
use Rattle.entries.specs.declared.Profile.{Profile}
use Rattle.report.specs.Limits.{most_numbers}
use Rattle.uncut.specs.State.{State, Numbers, Records, Counting, Refused, Accepted}
use Rattle.pieces.specs.Fitness.{fit}

-- the numbers that are carried, and the bytes
abbrev pub numbers_at : State → List ℕ
numbers_at (Numbers ns held) = ns
numbers_at (Records ns n last above held) = ns
numbers_at (Counting ns n) = ns
numbers_at (Refused n) = []
numbers_at (Accepted ns) = ns

abbrev pub held_at : State → List ℕ
held_at (Numbers ns held) = held
held_at (Records ns n last above held) = held
held_at (Counting ns n) = []
held_at (Refused n) = []
held_at (Accepted ns) = []

pub record Kept (p : Profile) (st : State) : Type 0 where
  pub fits : fit p st ≡ true
  pub few : length (numbers_at st) ≤ most_numbers
  pub bytes : Octets (held_at st)
