-- "Search from the end of the records and stop at the first one found."
use Rattle.std.specs.Prelude.{ℕ, zero, suc, List, Bool, true, false, Option, Some, None, Result, Ok, Err}
use Rattle.wire.specs.Bytes.{pick}
use Rattle.wire.specs.Numbers.{limit}
use Rattle.wire.specs.declared.Refusal.{Refusal}
use Rattle.wire.specs.declared.Refusal.TheVariants.{BrokenEntry}
use Rattle.entries.specs.Entries.{entry_at, at_or_above}
use Rattle.entries.specs.declared.Profile.{Profile}
use Rattle.entries.specs.declared.Status.{Status}
use Rattle.entries.specs.declared.Status.TheVariants.{Received, Late, NotReceived, Partial}
use Rattle.entries.specs.declared.Entry.{Entry}
use Rattle.newest.specs.declared.Lost.{Lost}

-- the last object that was not received, or that there is none
abbrev pub found : ℕ → ℕ → Result (Option Lost) Refusal
found group object = Ok (Some (record { group = group; object = object }))

abbrev pub nothing : Result (Option Lost) Refusal
nothing = Ok None

-- "marked not received"
abbrev pub is_lost : Status → Bool
is_lost Received = false
is_lost Late = false
is_lost NotReceived = true
is_lost Partial = false

-- one record, where the one after it has group top and object number next: "a bad record .., the found one and the order among them included, gives 12";
-- f goes on with what it leaves for the one before
abbrev pub judged : ℕ → ℕ → Result Entry Refusal → (ℕ → ℕ → Result (Option Lost) Refusal) → Result (Option Lost) Refusal
judged top next (Ok e) f =
    pick (at_or_above e.group (suc e.object) top next)
    (pick (is_lost e.status) (found e.group e.object) (f e.group e.object)) (Err BrokenEntry)
judged top next (Err refusal) f = Err BrokenEntry

-- the first n records, the last of them first
unfoldable pub searched : Profile → List ℕ → ℕ → ℕ → ℕ → Result (Option Lost) Refusal
searched p s zero top next = nothing
searched p s (suc n) top next = judged top next (entry_at p s n) (searched p s n)

-- n records in all: nothing comes after the last, which a group past all of them says
abbrev pub newest_in : Profile → List ℕ → ℕ → Result (Option Lost) Refusal
newest_in p s n = searched p s n (suc limit) 0
