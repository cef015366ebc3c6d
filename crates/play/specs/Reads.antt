-- The input comes in reads, which may end anywhere, also inside a record. What has wholly come is answered at once, and only the
-- end of the input ends a record early.
use Rattle.std.specs.Prelude.{ℕ, ◌-◌, ◌%◌, ◌^◌, ◌<◌, ◌≡◌, Bool, List, [], ◌∷◌, ◌++◌, length, take, drop}
use Rattle.wire.specs.Bytes.{pick}
use Rattle.events.specs.Events.{record_length}
use Rattle.events.specs.Replay.{records_in, replay}
use Rattle.events.specs.Pieces.{Piece, input, HasRoom, turns, start}

-- as many of n bytes as whole records have
abbrev pub whole : ℕ → ℕ
whole n = n - n % record_length

-- how many of n bytes are answered: at the end of the input all, "a short last record prints 2"
abbrev pub ready : Bool → ℕ → ℕ
ready ended n = pick ended n (whole n)

-- the pieces that are answered: of each read the whole records, behind what was kept of the reads before
abbrev pub answered : List ℕ → List Piece → List Piece
answered kept [] = []
answered kept (p ∷ ps) =
    let s = kept ++ p.bytes in
    record { bytes = take (whole (length s)) s; lent = p.lent } ∷ answered (drop (whole (length s)) s) ps

-- what is kept behind them
abbrev pub left : List ℕ → List Piece → List ℕ
left kept [] = kept
left kept (p ∷ ps) =
    let s = kept ++ p.bytes in
    left (drop (whole (length s)) s) ps

-- the pieces that are answered when the input has ended
abbrev pub ended : List Piece → List ℕ → List Piece
ended reads lent = answered [] reads ++ (record { bytes = left [] reads; lent = lent } ∷ [])

-- every buffer that is lent has room for the lines of its piece
pub data Roomy : List Piece → Type 0 where
  none : Roomy []
  more : {p : Piece} {ps : List Piece} → HasRoom p → Roomy ps → Roomy (p ∷ ps)

-- after every read the lines of all records that have wholly come are printed
abbrev pub AtOnce : Type 0
AtOnce =
    (reads : List Piece) → Roomy (answered [] reads) → records_in (length (input reads)) < 2 ^ 64
    → (turns start (answered [] reads)).printed ≡ replay (take (whole (length (input reads))) (input reads))

-- and at the end of the input all its lines, wherever the reads ended
abbrev pub AtTheEnd : Type 0
AtTheEnd =
    (reads : List Piece) (lent : List ℕ) → Roomy (ended reads lent) → records_in (length (input reads)) < 2 ^ 64
    → (turns start (ended reads lent)).printed ≡ replay (input reads)
