-- How many bytes of a part a call takes, and reports cut in any way into parts.
use Rattle.std.specs.Prelude.{ℕ, zero, suc, ◌-◌, ◌≤◌, ◌<◌, ◌≡◌, Bool, true, false, List, [], ◌∷◌, ◌++◌, ltb, length, take, drop}
use Rattle.wire.specs.Bytes.{pick}
use Rattle.entries.specs.Profiles.{record_size}
use Rattle.entries.specs.declared.Profile.{Profile}
use Rattle.report.specs.Reader.{read_report}
use Rattle.uncut.specs.State.{State, Numbers, Records, Counting, Refused, Accepted, start, report_at, at_end}
use Rattle.uncut.specs.Step.{step, given, after, delivered}
use Rattle.uncut.specs.Whole.{good_records}

-- a refusal stands, or the end was said: nothing more is taken
abbrev pub closed : State → Bool
closed (Numbers ns held) = false
closed (Records ns n last above held) = false
closed (Counting ns zero) = true
closed (Counting ns (suc n)) = false
closed (Refused n) = true
closed (Accepted ns) = true

-- no byte of a further record is taken where the room holds no whole one
abbrev pub stops : Profile → ℕ → State → Bool
stops p room (Numbers ns held) = false
stops p room (Records ns zero last above held) = false
stops p room (Records ns (suc n) last above held) = ltb room (record_size p)
stops p room (Counting ns zero) = true
stops p room (Counting ns (suc n)) = false
stops p room (Refused n) = true
stops p room (Accepted ns) = true

-- how many bytes of a part are taken, with room for so many bytes of records
unfoldable pub taking : Profile → ℕ → State → List ℕ → ℕ
taking p room st [] = 0
taking p room st (b ∷ bs) = pick (stops p room st) 0 (suc (taking p (room - length (given p st b)) (step p st b) bs))

-- the bytes s are handed in by calls, in parts of any length, what a call left again at the start of the next, each with a buffer
-- that holds at least one record, until none is left or the reader is closed; out is what was delivered
pub data Fed (p : Profile) : State → List ℕ → State → List ℕ → Type 0 where
  over : {st : State} → Fed p st [] st []
  shut : {st : State} {s : List ℕ} → closed st ≡ true → Fed p st s st []
  call : {st st' : State} {out : List ℕ} (part rest : List ℕ) (room : ℕ) → record_size p ≤ room
      → Fed p (after p st (take (taking p room st part) part)) (drop (taking p room st part) part ++ rest) st' out
      → Fed p st (part ++ rest) st' (delivered p st (take (taking p room st part) part) ++ out)

-- header, refusal number and records are the same for all cuttings and all such buffers
abbrev pub CutAnyhow : Type 0
CutAnyhow = (p : Profile) (s : List ℕ) (st : State) (out : List ℕ) → Fed p start s st out → (report_at (at_end st) ≡ read_report p s) × (out ≡ good_records p s)

-- a call with a buffer that holds a record takes a byte, where one is there and the reader is not closed: so every report can be handed in
abbrev pub Moves : Type 0
Moves = (p : Profile) (room : ℕ) (st : State) (b : ℕ) (bs : List ℕ) → record_size p ≤ room → closed st ≡ false → 0 < taking p room st (b ∷ bs)
