-- The reader's record, 56 words that the caller lends: what each word says, and the words that say where a report stands.
use Rattle.std.specs.Prelude.{ℕ, ◌+◌, ◌-◌, ◌%◌, ◌≤◌, ◌<◌, ◌≡◌, List, [], ◌∷◌, ◌++◌, eqb, length, get_or, take, replicate}
use Rattle.wire.specs.Bytes.{pick}
use Rattle.entries.specs.Profiles.{number_of}
use Rattle.entries.specs.declared.Profile.{Profile}
use Rattle.entries.specs.declared.Profile.TheVariants.{One, Two}
use Rattle.report.specs.Limits.{most_numbers}
use Rattle.report.specs.Header.{each}
use Rattle.uncut.specs.State.{State, Numbers, Records, Counting, Refused, Accepted}
use Rattle.pieces.specs.declared.Marks.{Marks}
use Rattle.pieces.specs.declared.Walked.{Walked}

-- at most one unfinished field or record is carried: as many bytes as the longest record has
abbrev pub most_carried : ℕ
most_carried = 24

-- ---- what the words say

-- the profile; a number that is none is judged before
abbrev pub profile_of : ℕ → Profile
profile_of n = pick (eqb n 2) Two One

abbrev pub profile_in : List ℕ → Profile
profile_in w = profile_of (get_or w 0 0)

-- the places of the header's numbers, and those of the carried bytes, one to a word
unfoldable pub numbers_in : List ℕ → List ℕ
numbers_in w = each most_numbers 0 (λ i. get_or w (7 + i) 0)

unfoldable pub held_in : List ℕ → List ℕ
held_in w = each most_carried 0 (λ i. get_or w (32 + i) 0 % 256)

-- the words by their names
pub record Stand : Type 0 where
  pub stage : ℕ
  pub left : ℕ
  pub last : ℕ
  pub above : ℕ
  pub count : ℕ
  pub carried : ℕ
  pub numbers : List ℕ
  pub held : List ℕ

-- numbers and bytes stay in their words, whatever the marks are
abbrev pub stand_in : Marks → List ℕ → Stand
stand_in m w = record {
  stage = m.stage;
  left = m.left;
  last = m.last;
  above = m.above;
  count = m.count;
  carried = m.carried;
  numbers = numbers_in w;
  held = held_in w;
}

abbrev pub marks_at : List ℕ → Marks
marks_at w = record { stage = get_or w 1 0; left = get_or w 2 0; last = get_or w 3 0; above = get_or w 4 0; count = get_or w 5 0; carried = get_or w 6 0 }

abbrev pub stand_at : List ℕ → Stand
stand_at w = stand_in (marks_at w) w

-- where some bytes of a part lead to, and how many they and the records they brought are
pub record Moved : Type 0 where
  pub now : Stand
  pub taken : ℕ
  pub records : ℕ

abbrev pub moved_in : Walked → List ℕ → Moved
moved_in m w = record { now = stand_in m.now w; taken = m.taken; records = m.records }

-- where a report stands: 0 its numbers are coming, 1 its records, 2 the bytes are counted on, 3 a refusal stands, 4 it was accepted
unfoldable pub state_as : ℕ → ℕ → ℕ → ℕ → List ℕ → List ℕ → State
state_as stage left last above ns held =
    pick (eqb stage 0) (Numbers ns held)
    (pick (eqb stage 1) (Records ns left last above held)
    (pick (eqb stage 2) (Counting ns left)
    (pick (eqb stage 3) (Refused left) (Accepted ns))))

abbrev pub state_in : Stand → State
state_in s = state_as s.stage s.left s.last s.above (take s.count s.numbers) (take s.carried s.held)

abbrev pub state_of : List ℕ → State
state_of w = state_in (stand_at w)

-- ---- the words that say so: what means nothing is 0

abbrev pub padded : ℕ → List ℕ → List ℕ
padded n xs = xs ++ replicate (n - length xs) 0

-- all words but the profile's
unfoldable pub body_as : ℕ → ℕ → ℕ → ℕ → List ℕ → List ℕ → List ℕ
body_as stage left last above ns held = stage ∷ left ∷ last ∷ above ∷ length ns ∷ length held ∷ (padded most_numbers ns ++ padded most_carried held)

abbrev pub body_in : Stand → List ℕ
body_in s = body_as s.stage s.left s.last s.above (take s.count s.numbers) (take s.carried s.held)

unfoldable pub body_of : State → List ℕ
body_of (Numbers ns held) = body_as 0 0 0 0 ns held
body_of (Records ns n last above held) = body_as 1 n last above ns held
body_of (Counting ns n) = body_as 2 n 0 0 ns []
body_of (Refused n) = body_as 3 n 0 0 [] []
body_of (Accepted ns) = body_as 4 0 0 0 ns []

abbrev pub words_of : Profile → State → List ℕ
words_of p st = number_of p ∷ body_of st

-- ---- words written where they stand: from one place up to another they are such, and all others stay

pub record Laid (f : ℕ → ℕ) (w : List ℕ) (from to : ℕ) (w' : List ℕ) : Type 0 where
  pub long : length w' ≡ length w
  pub inside : (j : ℕ) → from ≤ j → j < to → get_or w' j 0 ≡ f j
  pub before : (j : ℕ) → j < from → get_or w' j 0 ≡ get_or w j 0
  pub behind : (j : ℕ) → to ≤ j → get_or w' j 0 ≡ get_or w j 0
