-- The tracker's record, 259 words that the caller lends: what each word says, and what consistent means.
-- What may be absent is kept as an end, one past the place, and 0 for none.
use Rattle.std.specs.Prelude.{ℕ, zero, suc, ◌+◌, ◌-◌, ◌*◌, ◌/◌, ◌%◌, Bool, true, false, ◌&&◌, List, leb, eqb, get_or}
use Rattle.wire.specs.Bytes.{pick}
use Rattle.wire.specs.Numbers.{limit}
use Rattle.tracker.specs.Known.{most_objects, Fate, unknown, ended, came, none_yet, first_came, Known}

-- the number of the first object
abbrev pub first_of : List ℕ → ℕ
first_of r = get_or r 0 0

-- "It takes an expected interval"
abbrev pub interval_of : List ℕ → ℕ
interval_of r = get_or r 1 0

-- the end of the first arrival's place: "First means first by order of calls"
abbrev pub named_of : List ℕ → ℕ
named_of r = get_or r 2 0

-- what is known of the object at a place, its number less the first one
abbrev pub word_at : List ℕ → ℕ → ℕ
word_at r place = get_or r (3 + place) 0

-- ---- a word: the state in the two top bits, the time in the other 62

abbrev pub state_of : ℕ → ℕ
state_of word = word / (limit + 1) % 4

abbrev pub time_of : ℕ → ℕ
time_of word = word % (limit + 1)

abbrev pub word_of : ℕ → ℕ → ℕ
word_of state time = state * (limit + 1) + time

-- the four states
abbrev pub nothing : ℕ
nothing = 0

abbrev pub ended_early : ℕ
ended_early = 1

abbrev pub received : ℕ
received = 2

abbrev pub late : ℕ
late = 3

-- what each state says, with the time
abbrev pub fate_in : ℕ → ℕ → Fate
fate_in zero time = unknown
fate_in (suc zero) time = ended time
fate_in (suc (suc zero)) time = came time false
fate_in (suc (suc (suc state))) time = came time true

abbrev pub fate_of : ℕ → Fate
fate_of word = fate_in (state_of word) (time_of word)

-- "An object that arrived" is received or late
abbrev pub has_arrived : ℕ → Bool
has_arrived word = leb received (state_of word)

-- none of the n objects from a place on arrived
unfoldable pub none_arrived : ℕ → ℕ → List ℕ → Bool
none_arrived zero place r = true
none_arrived (suc n) place r = pick (has_arrived (word_at r place)) false (none_arrived n (suc place) r)

-- ---- "a record whose parts disagree or break 5"

-- the first arrival named arrived, and where none is named none arrived
unfoldable pub first_named : List ℕ → Bool
first_named r =
    pick (eqb (named_of r) 0) (none_arrived most_objects 0 r)
    (leb (named_of r) most_objects && has_arrived (word_at r (named_of r - 1)))

-- both numbers obey 5
abbrev pub both_obey : ℕ → ℕ → Bool
both_obey m n = leb m limit && leb n limit

-- the numbers, "the last of the 256 included", and the interval obey 5; a time of 62 bits always does
abbrev pub numbers_obey : ℕ → ℕ → Bool
numbers_obey first interval = both_obey (first + 255) interval

unfoldable pub consistent : List ℕ → Bool
consistent r = numbers_obey (first_of r) (interval_of r) && first_named r

-- ---- what the record knows

abbrev pub first_place : List ℕ → ℕ
first_place r = named_of r - 1

abbrev pub first_time : List ℕ → ℕ
first_time r = time_of (word_at r (first_place r))

abbrev pub known : List ℕ → Known
known r = record {
  first = first_of r;
  interval = interval_of r;
  arrival = pick (eqb (named_of r) 0) none_yet (first_came (first_place r) (first_time r));
  became = λ place. fate_of (word_at r place);
}
