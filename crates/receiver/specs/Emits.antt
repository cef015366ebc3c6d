-- What write promises, in statements that read alone: its frame read back, its refusals, and what it leaves.
use Rattle.std.specs.Prelude.{ℕ, ◌≡◌, true, not, List, [], ◌∷◌, ltb, eqb, length, drop}
use Rattle.seen.specs.declared.Micros.{Micros}
use Rattle.seen.specs.Numbers.{small}
use Rattle.seen.specs.Received.{reported}
use Rattle.ack.specs.Ack.{ack_delay, frame, ranges_kept}
use Rattle.ack.specs.Emits.{Emits}
use Rattle.receiver.specs.declared.Receiver.{Receiver}
use Rattle.ecn.specs.declared.Kind.{Kind}
use Rattle.ecn.specs.Totals.{tail_of}
use Rattle.receiver.specs.Record.{consistent}
use Rattle.receiver.specs.Exactly.{Row, row, first, inconsistent}
use Rattle.receiver.specs.Write.{write_answer, write_bytes}

-- ---- what write emits, the ACK reader reads back

abbrev pub WriteReadBack : Type 0
WriteReadBack =
    (r : Receiver) (time : Micros) (kind : Kind) (xs : List ℕ) → (write_answer r time kind xs).result ≡ 0
    → Emits r.seen time (tail_of kind r.totals) xs (write_bytes r time kind xs) (write_answer r time kind xs).length (ranges_kept (reported r.seen) (tail_of kind r.totals) (ack_delay r.seen time) (length xs))

-- ---- the rows of the refusal table, in their order, and what a call leaves

-- 9: "the smallest permitted output", the frame with the first range only and its counts, "does not fit the room, the lent buffer's length"
abbrev pub write_rows : Receiver → Micros → Kind → ℕ → List Row
write_rows r time kind room =
    inconsistent r
    ∷ row 5 (not (small time.0))
    ∷ row 8 (eqb r.seen.end 0)
    ∷ row 9 (ltb room (length (frame (reported r.seen) (tail_of kind r.totals) (ack_delay r.seen time) 1)))
    ∷ []

abbrev pub WriteExactly : Type 0
WriteExactly = (r : Receiver) (time : Micros) (kind : Kind) (xs : List ℕ) → (write_answer r time kind xs).result ≡ first (write_rows r time kind (length xs))

-- "A refusal returns its number and the record as it came in, and writes no element of a lent buffer"; "Bytes after the frame stay"
pub record Leaves (r : Receiver) (time : Micros) (kind : Kind) (xs : List ℕ) : Type 0 where
  pub unchanged : ((write_answer r time kind xs).result ≡ 0 → ⊥) → ((write_answer r time kind xs).next ≡ r) × (write_bytes r time kind xs ≡ xs)
  pub long : length (write_bytes r time kind xs) ≡ length xs
  pub stay : drop (write_answer r time kind xs).length (write_bytes r time kind xs) ≡ drop (write_answer r time kind xs).length xs

abbrev pub WriteLeaves : Type 0
WriteLeaves = (r : Receiver) (time : Micros) (kind : Kind) (xs : List ℕ) → Leaves r time kind xs

-- a consistent record stays consistent
abbrev pub WriteKeeps : Type 0
WriteKeeps = (r : Receiver) (time : Micros) (kind : Kind) (xs : List ℕ) → consistent r ≡ true → consistent (write_answer r time kind xs).next ≡ true
