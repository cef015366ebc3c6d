-- Opening, an arrival and an early end: what each refuses, and the record afterwards.
use Rattle.std.specs.Prelude.{ℕ, zero, suc, ◌+◌, ◌-◌, Bool, false, ◌&&◌, List, ◌∷◌, leb, ltb, eqb, set, replicate}
use Rattle.wire.specs.Bytes.{pick}
use Rattle.wire.specs.Numbers.{limit}
use Rattle.tracker.specs.Known.{most_objects}
use Rattle.tracker.specs.Record.{first_of, named_of, word_at, state_of, word_of, nothing, ended_early, received, late, has_arrived, both_obey, numbers_obey, consistent}

-- the next record, or, beside a refusal, the record as it came
abbrev pub unless_refused : ℕ → List ℕ → List ℕ → List ℕ
unless_refused zero old new = new
unless_refused (suc n) old new = old

-- ---- opening

-- "5 for [..] intervals and numbers above 2^62 - 1, the last of the 256 included"
unfoldable pub open_refusal : ℕ → ℕ → ℕ
open_refusal first interval = pick (numbers_obey first interval) 0 5

-- nothing is known of any object, and no arrival is named
unfoldable pub opened : ℕ → ℕ → List ℕ
opened first interval = first ∷ interval ∷ 0 ∷ replicate most_objects 0

abbrev pub open_after : List ℕ → ℕ → ℕ → List ℕ
open_after r first interval = unless_refused (open_refusal first interval) r (opened first interval)

-- ---- an object is named: 1, "5 for times, intervals and numbers above 2^62 - 1 [..], then 17 for an object outside the 256"

abbrev pub place_of : List ℕ → ℕ → ℕ
place_of r object = object - first_of r

-- one of the 256 object numbers from the first one
abbrev pub among : ℕ → ℕ → Bool
among first object = leb first object && ltb (object - first) most_objects

abbrev pub inside : List ℕ → ℕ → Bool
inside r object = among (first_of r) object

-- by its numbers alone
abbrev pub numbers_refusal : ℕ → ℕ → Bool → ℕ
numbers_refusal first object obey = pick obey (pick (among first object) 0 17) 5

unfoldable pub object_refusal : List ℕ → ℕ → Bool → ℕ
object_refusal r object obey = pick (consistent r) (numbers_refusal (first_of r) object obey) 1

-- ---- "arrivals with their times and each object's playback deadline or none"; the deadline is an end

-- "An object that arrived is late if its arrival exceeds a known deadline, otherwise received"
abbrev pub is_late : ℕ → ℕ → Bool
is_late time deadline = pick (eqb deadline 0) false (ltb (deadline - 1) time)

abbrev pub arrival_word : ℕ → ℕ → ℕ
arrival_word time deadline = word_of (pick (is_late time deadline) late received) time

-- the deadline's own number is one less than its end
abbrev pub arrival_obeys : ℕ → ℕ → ℕ → Bool
arrival_obeys object time deadline = both_obey object time && leb deadline (limit + 1)

unfoldable pub arrived_refusal : List ℕ → ℕ → ℕ → ℕ → ℕ
arrived_refusal r object time deadline = object_refusal r object (arrival_obeys object time deadline)

-- the first arrival is named: "First means first by order of calls"
abbrev pub with_named : List ℕ → ℕ → List ℕ
with_named r place = pick (eqb (named_of r) 0) (set r 2 (place + 1)) r

-- "An arrival after an early end or a loss counts. A second arrival [..] is ignored"
unfoldable pub with_arrival : List ℕ → ℕ → ℕ → List ℕ
with_arrival r place word = pick (has_arrived (word_at r place)) r (set (with_named r place) (3 + place) word)

abbrev pub arrived_after : List ℕ → ℕ → ℕ → ℕ → List ℕ
arrived_after r object time deadline =
    unless_refused (arrived_refusal r object time deadline) r (with_arrival r (place_of r object) (arrival_word time deadline))

-- ---- "the caller's word that an object ended early"

unfoldable pub ended_refusal : List ℕ → ℕ → ℕ → ℕ
ended_refusal r object time = object_refusal r object (both_obey object time)

-- "a second early end, or one after an arrival, is ignored"
unfoldable pub with_end : List ℕ → ℕ → ℕ → List ℕ
with_end r place word = pick (eqb (state_of (word_at r place)) nothing) (set r (3 + place) word) r

abbrev pub ended_after : List ℕ → ℕ → ℕ → List ℕ
ended_after r object time =
    unless_refused (ended_refusal r object time) r (with_end r (place_of r object) (word_of ended_early time))
