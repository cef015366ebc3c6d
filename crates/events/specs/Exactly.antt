-- Which of the two refusals of its own the program gives to a record, and when; every other number is the receiver's.
use Rattle.std.specs.Prelude.{ℕ, ◌≤◌, ◌<◌, ◌≡◌, ◌↔◌, List, length, get_or}
use Rattle.receiver.specs.declared.Receiver.{Receiver}
use Rattle.events.specs.Events.{record_length, record_call}

-- a kind from 1 to 4 is known
abbrev pub Known : ℕ → Type 0
Known kind = (1 ≤ kind) × (kind ≤ 4)

pub record Exactly (s : List ℕ) (r : Receiver) : Type 0 where
  -- "a short last record prints 2"
  pub two : (record_call s r).result ≡ 2 ↔ length s < record_length
  -- "An unknown kind prints 3"
  pub three : (record_call s r).result ≡ 3 ↔ ((record_length ≤ length s) × (Known (get_or s 0 0) → ⊥))
  -- "A refusal returns its number and the record as it came in"
  pub unchanged : ((record_call s r).result ≡ 0 → ⊥) → (record_call s r).next ≡ r

abbrev pub RecordsExactly : Type 0
RecordsExactly = (s : List ℕ) (r : Receiver) → Exactly s r
