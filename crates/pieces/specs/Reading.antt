-- The next field behind what is carried, and the key of a record.
use Rattle.std.specs.Prelude.{ℕ, ◌+◌, ◌-◌, Bool, false, List, Result, Ok, Err, eqb, leb}
use Rattle.wire.specs.Bytes.{pick}
use Rattle.wire.specs.Fields.{found}
use Rattle.wire.specs.declared.Number.{Number}
use Rattle.wire.specs.declared.Refusal.{Refusal}
use Rattle.entries.specs.Entries.{entry_of, follows_or}
use Rattle.entries.specs.declared.Profile.{Profile}
use Rattle.entries.specs.declared.Entry.{Entry}
use Rattle.pieces.specs.Record.{Stand, Moved}
use Rattle.pieces.specs.declared.Marks.{Marks}
use Rattle.pieces.specs.declared.Walked.{Walked}

-- a place that the header's numbers lead to: its marks, and with the numbers and the bytes in their words
abbrev pub walked_to : ℕ → ℕ → ℕ → ℕ → ℕ → Walked
walked_to stage left count carried taken = record { now = record { stage = stage; left = left; last = 0; above = 0; count = count; carried = carried }; taken = taken; records = 0 }

abbrev pub moved_to : ℕ → ℕ → ℕ → List ℕ → ℕ → List ℕ → ℕ → Moved
moved_to stage left count numbers carried held taken = record {
  now = record { stage = stage; left = left; last = 0; above = 0; count = count; carried = carried; numbers = numbers; held = held };
  taken = taken;
  records = 0;
}

-- the bytes are counted on
abbrev pub counted_at : Marks → ℕ → ℕ → ℕ → Walked
counted_at s left taken records = record {
  now = record { stage = 2; left = left; last = s.last; above = s.above; count = s.count; carried = s.carried };
  taken = taken;
  records = records;
}

abbrev pub counted_on : Stand → ℕ → ℕ → ℕ → Moved
counted_on s left taken records = record {
  now = record { stage = 2; left = left; last = s.last; above = s.above; count = s.count; carried = s.carried; numbers = s.numbers; held = s.held };
  taken = taken;
  records = records;
}

-- a record is carried, and so many bytes more make it whole
abbrev pub completes_of : ℕ → ℕ → ℕ → ℕ → ℕ → Bool
completes_of stage left carried size bytes =
    pick (eqb stage 1) (pick (eqb left 0) false (pick (eqb carried 0) false (leb size (carried + bytes)))) false

-- records are coming, and nothing is carried
abbrev pub row_here : ℕ → ℕ → Bool
row_here stage carried = pick (eqb stage 1) (eqb carried 0) false

-- no byte is taken
abbrev pub still_at : Marks → Walked
still_at s = record { now = s; taken = 0; records = 0 }

abbrev pub still : Stand → Moved
still s = record { now = s; taken = 0; records = 0 }

-- a number whose first bytes are carried ends so far behind the place at
abbrev pub shifted : ℕ → ℕ → Result Number Refusal → Result Number Refusal
shifted carried at (Ok n) = found n.value (at + (n.next - carried)) n.shortest
shifted carried at (Err refusal) = Err refusal

-- the group of a good record and one past its object number
pub data Key : Type 0 where
  Good : ℕ → ℕ → Key
  Bad : Key

-- what a record leaves for the next one, if it is good after the one before
abbrev pub key_in : ℕ → ℕ → Result Entry Refusal → Key
key_in last above e = follows_or last above e Good Bad

unfoldable pub key_of : Profile → ℕ → ℕ → List ℕ → Key
key_of p last above r = key_in last above (entry_of p r)
