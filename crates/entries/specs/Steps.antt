-- What the code asks of a record on its way over records in a row: the rule of Entries in other steps.
use Rattle.std.specs.Prelude.{ℕ, suc, Bool, false, List, Option, Some, None, Result, Ok, Err, length, ◌==◌, nat_le}
use Rattle.wire.specs.Bytes.{pick}
use Rattle.wire.specs.Numbers.{limit}
use Rattle.entries.specs.Limits.{entry_size}
use Rattle.entries.specs.Entries.{object_of, status_of, zeros_of, age_of, age_good}
use Rattle.wire.specs.declared.Refusal.{Refusal}
use Rattle.entries.specs.declared.Entry.{Entry}
use Rattle.entries.specs.declared.Parts.{Parts}

-- the parts behind a group, where the bytes are enough
abbrev pub parts_in : List ℕ → Option Parts
parts_in b =
    pick (nat_le entry_size (length b)) (Some (record { object = object_of b; status = status_of b; zeros = zeros_of b; age = age_of b })) None

-- the tests of Entries behind the object number: a status of the four, the zero bytes, the age
abbrev pub rest_good : ℕ → ℕ → ℕ → Bool
rest_good status zeros age = pick (zeros == 0) (pick (nat_le status 3) (age_good status age) false) false

-- not above the limit, and at or above a floor
abbrev pub inside : ℕ → ℕ → Bool
inside floor n = pick (nat_le n limit) (nat_le floor n) false

-- an object number rises in its group alone: above is one past that of the record before, which has group last
abbrev pub floor_of : ℕ → ℕ → ℕ → ℕ
floor_of last above group = pick (group == last) above 0

-- what an entry leaves to the next of its group
abbrev pub next_of : ℕ → Result Entry Refusal → Option ℕ
next_of floor (Ok e) = pick (nat_le floor e.object) (Some (suc e.object)) None
next_of floor (Err refusal) = None
