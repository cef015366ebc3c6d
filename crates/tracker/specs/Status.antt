-- The status of an object at a time, and the entry that it makes.
use Rattle.std.specs.Prelude.{ℕ, zero, suc, ◌+◌, ◌-◌, ◌*◌, ◌^◌, min, Bool, true, false, List, [], ◌∷◌, ◌++◌, Option, Some, None, eqb, ltb}
use Rattle.wire.specs.Bytes.{pick}
use Rattle.wire.specs.Fields.{fixed}
use Rattle.entries.specs.Entries.{status_number}
use Rattle.entries.specs.declared.Status.{Status}
use Rattle.tracker.specs.Known.{most_objects, Fate, unknown, ended, came, has_come, FirstArrival, none_yet, first_came, Known}

-- ---- when an object that has not arrived is lost

-- one of n objects from a place on arrived
unfoldable pub some_came : (ℕ → Fate) → ℕ → ℕ → Bool
some_came became zero place = false
some_came became (suc n) place = pick (has_come (became place)) true (some_came became n (suc place))

-- "once a larger number has arrived"
abbrev pub larger_arrived : Known → ℕ → Bool
larger_arrived k place = some_came k.became (most_objects - suc place) (suc place)

-- "The expected arrival of a number above that of the first arrival is the first arrival's time plus the interval times the difference"
abbrev pub expected_at : ℕ → ℕ → ℕ → ℕ → ℕ
expected_at interval first_place first_time place = first_time + interval * (place - first_place)

-- "once more than twice the interval has passed after its expected arrival"; "before any arrival there is none", nor for a number not above the first arrival's
abbrev pub overdue_after : FirstArrival → ℕ → ℕ → ℕ → Bool
overdue_after none_yet interval time place = false
overdue_after (first_came first_place first_time) interval time place =
    pick (ltb first_place place) (ltb (expected_at interval first_place first_time place + 2 * interval) time) false

abbrev pub overdue : Known → ℕ → ℕ → Bool
overdue k time place = overdue_after k.arrival k.interval time place

abbrev pub is_lost : Known → ℕ → ℕ → Bool
is_lost k time place = pick (larger_arrived k place) true (overdue k time place)

-- ---- the status, as an entry has it: "0 received, 1 late, 2 not received, 3 partial"; 4 where "it has no status and makes no entry"

abbrev pub no_status : ℕ
no_status = 4

-- the number of what may be a status
abbrev pub code_of : Option Status → ℕ
code_of None = no_status
code_of (Some status) = status_number status

-- "An object that arrived is late if [..], otherwise received. One that has not arrived is partial if it ended early; otherwise not received once [..]; otherwise it has no status"
abbrev pub status_from : Fate → Bool → ℕ
status_from (came time late) lost = pick late 1 0
status_from (ended time) lost = 3
status_from unknown lost = pick lost 2 no_status

unfoldable pub status_at : Known → ℕ → ℕ → ℕ
status_at k time place = status_from (k.became place) (is_lost k time place)

-- ---- the entry

-- the time from which an age counts: of the arrival, or, "an object that ended early has its age from the time of that word"
abbrev pub since_of : Fate → ℕ
since_of (came time late) = time
since_of (ended time) = time
since_of unknown = 0

-- "Entry ages stop at the largest four-byte number and are 0 where the clock went back"; 01: "0 where status is 2"
abbrev pub age_of : ℕ → ℕ → ℕ → ℕ
age_of status time since = pick (eqb status 2) 0 (min (time - since) (2 ^ 32 - 1))

-- 01: "object number (8 bytes, high first [..])", "status (1 byte [..])", "three zero bytes", "age in microseconds at the timestamp (4 bytes [..])"
abbrev pub entry_bytes : ℕ → ℕ → ℕ → List ℕ
entry_bytes object status age = fixed 8 object ++ (status ∷ 0 ∷ 0 ∷ 0 ∷ fixed 4 age)

-- the bytes of the object at a place, whose status is given; none where it has no status
abbrev pub bytes_at : Known → ℕ → ℕ → ℕ → List ℕ
bytes_at k time status place =
    pick (ltb status no_status) (entry_bytes (k.first + place) status (age_of status time (since_of (k.became place)))) []

-- the entries of n objects from a place on, by the status of each
unfoldable pub entries_from : (ℕ → ℕ) → Known → ℕ → ℕ → ℕ → List ℕ
entries_from status k time zero place = []
entries_from status k time (suc n) place = bytes_at k time (status place) place ++ entries_from status k time n (suc place)

-- how many of n objects from a place on meet a test
unfoldable pub how_many : (ℕ → Bool) → ℕ → ℕ → ℕ
how_many test zero place = 0
how_many test (suc n) place = pick (test place) 1 0 + how_many test n (suc place)
