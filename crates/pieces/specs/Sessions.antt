-- Every report can be handed in, whatever its parts and buffers: each part again and again, what is left of it, until it was taken.
use Rattle.std.specs.Prelude.{ℕ, ◌*◌, ◌≤◌, ◌<◌, ◌≡◌, List, [], ◌∷◌, ◌++◌, length, take, drop}
use Rattle.wire.specs.Bytes.{Octets}
use Rattle.entries.specs.Profiles.{record_size, number_of}
use Rattle.entries.specs.declared.Profile.{Profile}
use Rattle.pieces.specs.Calls.{open_after, take_answer, take_after, take_bytes}
use Rattle.pieces.specs.Handing.{Handed}

-- a part, and the buffer that is lent with it, which the caller empties after each call
pub record Part : Type 0 where
  pub bytes : List ℕ
  pub buffer : List ℕ

abbrev pub bytes_of : List Part → List ℕ
bytes_of [] = []
bytes_of (part ∷ parts) = part.bytes ++ bytes_of parts

-- bytes are bytes, and each buffer holds a record
abbrev pub Hold : Profile → List Part → Type 0
Hold p [] = Unit
Hold p (part ∷ parts) = (Octets part.bytes × (record_size p ≤ length part.buffer)) × Hold p parts

-- the calls of a session, from the words w on, and what they wrote: each takes a byte, so they are no more than the bytes. A call that is
-- refused and takes nothing ends it: a refusal stands
pub data Session (p : Profile) : List ℕ → List Part → List ℕ → List ℕ → Type 0 where
  over : {w : List ℕ} → Session p w [] w []
  next : {w w' out : List ℕ} {parts : List Part} (xs : List ℕ) → Session p w parts w' out → Session p w (record { bytes = []; buffer = xs } ∷ parts) w' out
  call : {w w' out : List ℕ} {parts : List Part} (part xs : List ℕ) → 0 < (take_answer w part (length xs)).taken
      → Session p (take_after w part (length xs)) (record { bytes = drop (take_answer w part (length xs)).taken part; buffer = xs } ∷ parts) w' out
      → Session p w (record { bytes = part; buffer = xs } ∷ parts) w' (take (record_size p * (take_answer w part (length xs)).records) (take_bytes w part xs) ++ out)
  shut : {w : List ℕ} {parts : List Part} (part xs : List ℕ) → ((take_answer w part (length xs)).result ≡ 0 → ⊥) → (take_answer w part (length xs)).taken ≡ 0
      → Session p w (record { bytes = part; buffer = xs } ∷ parts) w []

-- a session, and that it hands the report in
pub record Ended (p : Profile) (w : List ℕ) (parts : List Part) : Type 0 where
  pub words : List ℕ
  pub out : List ℕ
  pub session : Session p w parts words out
  pub handed : Handed p w (bytes_of parts) words out

abbrev pub SessionEnds : Type 0
SessionEnds = (p : Profile) (before : List ℕ) (parts : List Part) → Hold p parts → Ended p (open_after before (number_of p)) parts
