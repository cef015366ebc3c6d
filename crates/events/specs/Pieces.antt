-- The input is played piece by piece: however it is cut, as long as no record is, the program prints the lines of the whole.
use Rattle.std.specs.Prelude.{ℕ, ◌+◌, ◌*◌, ◌^◌, ◌≤◌, ◌<◌, ◌≡◌, List, [], ◌∷◌, ◌++◌, length, take}
use Rattle.receiver.specs.declared.Receiver.{Receiver}
use Rattle.events.specs.Events.{record_length, opening}
use Rattle.events.specs.Replay.{records_in, lines_of, receiver_after, replay, longest_line, played, played_bytes}

-- ---- the pieces

-- a piece of the input, and the buffer that is lent for its lines, whatever it holds
pub record Piece : Type 0 where
  pub bytes : List ℕ
  pub lent : List ℕ

-- the input is the pieces one after the other
abbrev pub input : List Piece → List ℕ
input [] = []
input (p ∷ ps) = p.bytes ++ input ps

-- the buffer has room for the longest line of each record
abbrev pub HasRoom : Piece → Type 0
HasRoom p = longest_line * records_in (length p.bytes) ≤ length p.lent

abbrev pub WholeRecords : Piece → Type 0
WholeRecords p = length p.bytes ≡ record_length * records_in (length p.bytes)

-- no record is cut: only the last piece may end inside one
pub data Uncut : List Piece → Type 0 where
  none : Uncut []
  last : {p : Piece} → HasRoom p → Uncut (p ∷ [])
  more : {p : Piece} {ps : List Piece} → HasRoom p → WholeRecords p → Uncut ps → Uncut (p ∷ ps)

-- ---- the program's turns

-- where the program stands between two pieces
pub record Place : Type 0 where
  pub receiver : Receiver
  pub index : ℕ
  pub printed : List ℕ

-- one call of `piece`: it goes on with the receiver and the index that the last one left, and its lines are printed
abbrev pub turn : Place → Piece → Place
turn t p =
    let done = played p.bytes t.receiver t.index (length p.lent) in
    record {
      receiver = done.next;
      index = t.index + done.count;
      printed = t.printed ++ take done.length (played_bytes p.bytes t.receiver t.index p.lent);
    }

abbrev pub turns : Place → List Piece → Place
turns t [] = t
turns t (p ∷ ps) = turns (turn t p) ps

-- "It opens with ..", "record index from 0"
abbrev pub start : Place
start = record { receiver = opening; index = 0; printed = [] }

-- ---- what holds of them

-- all the lines of some bytes, and the receiver after all their records
abbrev pub all_lines : List ℕ → Receiver → ℕ → List ℕ
all_lines s r index = lines_of (records_in (length s)) s r index

abbrev pub all_after : List ℕ → Receiver → Receiver
all_after s r = receiver_after (records_in (length s)) s r

-- the pieces come to what the whole input comes to
pub record Together (t : Place) (ps : List Piece) : Type 0 where
  pub printed : (turns t ps).printed ≡ t.printed ++ all_lines (input ps) t.receiver t.index
  pub receiver : (turns t ps).receiver ≡ all_after (input ps) t.receiver
  pub index : (turns t ps).index ≡ t.index + records_in (length (input ps))

abbrev pub InPieces : Type 0
InPieces = (ps : List Piece) (t : Place) → Uncut ps → t.index + records_in (length (input ps)) < 2 ^ 64 → Together t ps

-- the whole program
abbrev pub ReplayInPieces : Type 0
ReplayInPieces = (ps : List Piece) → Uncut ps → records_in (length (input ps)) < 2 ^ 64 → (turns start ps).printed ≡ replay (input ps)
