-- The rows of the refusal table for the three frames: each number is given exactly when its row says, in the table's order, and no other number.
use Rattle.std.specs.Prelude.{ℕ, suc, ◌+◌, ◌-◌, ◌*◌, ◌≤◌, ◌<◌, ◌≡◌, ◌↔◌, ◌⊎◌, Bool, true, List, [], ◌∷◌, Option, Err, eqb, length, get_or, take, drop}
use Rattle.wire.specs.Bytes.{pick}
use Rattle.wire.specs.Numbers.{encode_all, read_number, put_answer}
use Rattle.wire.specs.Fields.{found}
use Rattle.wire.specs.Refusals.{refusal_number}
use Rattle.wire.specs.Exactly.{OneOf, Writes, Places}
use Rattle.wire.specs.Standing.{Stand}
use Rattle.wire.specs.declared.Refusal.TheVariants.{Ends}
use Rattle.frames.specs.Types.{frequency_type, immediate_type, counts_type, ack_types}
use Rattle.frames.specs.Frequency.{read_frequency, read_frequency_as, frequency}
use Rattle.frames.specs.Immediate.{read_immediate, immediate}
use Rattle.frames.specs.Ack.{read_range, ack, read_ack, read_ack_as, check_ack}
use Rattle.frames.specs.declared.Counts.{Counts}

-- ---- what stands in the bytes

-- numbers of which P holds stand from at on
pub record From (s : List ℕ) (at : ℕ) (P : List ℕ → ℕ → Type 0) : Type 0 where
  pub numbers : List ℕ
  pub next : ℕ
  pub stand : Stand s at numbers next
  pub holds : P numbers next

-- the type is one of those in its shortest form, and numbers of which P holds stand after it
pub record After (kinds s : List ℕ) (P : ℕ → List ℕ → ℕ → Type 0) : Type 0 where
  pub kind : ℕ
  pub start : ℕ
  pub type : read_number s 0 ≡ found kind start true
  pub right : OneOf kind kinds
  pub fields : From s start (P kind)

-- ---- the rows

-- 3: the type is a whole number, and another one or not in shortest form
pub record OtherType (kinds s : List ℕ) : Type 0 where
  pub value : ℕ
  pub next : ℕ
  pub shortest : Bool
  pub whole : read_number s 0 ≡ found value next shortest
  pub other : OneOf value kinds × (shortest ≡ true) → ⊥

-- 2: the bytes end inside the type, or, the type being right, inside a number that those before it ask for
abbrev pub Cut : List ℕ → List ℕ → (ℕ → List ℕ → Type 0) → Type 0
Cut kinds s Asks = (read_number s 0 ≡ Err Ends) ⊎ After kinds s (λ kind vs next. Asks kind vs × (read_number s next ≡ Err Ends))

-- a frame of n numbers after its type
pub record Reads (type n : ℕ) (s : List ℕ) (refusal : ℕ) : Type 0 where
  pub three : refusal ≡ 3 ↔ OtherType (type ∷ []) s
  pub two : refusal ≡ 2 ↔ Cut (type ∷ []) s (λ kind vs. length vs < n)
  pub accepted : refusal ≡ 0 ↔ After (type ∷ []) s (λ kind vs next. length vs ≡ n)
  pub others : OneOf refusal (0 ∷ 2 ∷ 3 ∷ [])

-- ACK_FREQUENCY: four numbers
abbrev pub FrequencyReads : Type 0
FrequencyReads = (s : List ℕ) → Reads frequency_type 4 s (refusal_number (read_frequency s))

-- IMMEDIATE_ACK: "type 1f alone"
abbrev pub ImmediateReads : Type 0
ImmediateReads = (s : List ℕ) → Reads immediate_type 0 s (refusal_number (read_immediate s))

-- the same of the bytes after a type that was read already: the type is right, and numbers of which P holds stand from the first byte on
abbrev pub AfterAs : List ℕ → ℕ → List ℕ → (List ℕ → ℕ → Type 0) → Type 0
AfterAs kinds kind s P = OneOf kind kinds × From s 0 P

pub record ReadsAs (type n kind : ℕ) (s : List ℕ) (refusal : ℕ) : Type 0 where
  pub three : refusal ≡ 3 ↔ (OneOf kind (type ∷ []) → ⊥)
  pub two : refusal ≡ 2 ↔ AfterAs (type ∷ []) kind s (λ vs next. (length vs < n) × (read_number s next ≡ Err Ends))
  pub accepted : refusal ≡ 0 ↔ AfterAs (type ∷ []) kind s (λ vs next. length vs ≡ n)
  pub others : OneOf refusal (0 ∷ 2 ∷ 3 ∷ [])

abbrev pub FrequencyReadsAs : Type 0
FrequencyReadsAs = (kind : ℕ) (s : List ℕ) → ReadsAs frequency_type 4 kind s (refusal_number (read_frequency_as kind s))

-- ---- ACK: vs are the numbers after its type, as far as they were read

-- the first of them
abbrev pub largest : List ℕ → ℕ
largest vs = get_or vs 0 0

-- the third of them
abbrev pub count : List ℕ → ℕ
count vs = get_or vs 2 0

-- how many tell the ranges: "largest, delay, range count, first range, then gap and length pairs"
abbrev pub of_ranges : List ℕ → ℕ
of_ranges vs = 4 + 2 * count vs

-- how many counts come after them: "the same fields, then three ECN counts" (02, No. 2)
abbrev pub counts : ℕ → ℕ
counts kind = pick (eqb kind counts_type) 3 0

-- how many the frame of that type has
abbrev pub asked : ℕ → List ℕ → ℕ
asked kind vs = of_ranges vs + counts kind

-- how far lengths and gaps lead down, in turn: a length as far as it says, and a gap 2 further
unfoldable pub down : ℕ → List ℕ → ℕ
down further [] = 0
down further (v ∷ vs) = v + further + down (2 - further) vs

-- the lengths and gaps among them
abbrev pub steps : List ℕ → List ℕ
steps vs = take (suc (2 * count vs)) (drop 3 vs)

-- 14: from the largest the ranges lead below number 0
abbrev pub Below : List ℕ → Type 0
Below vs = largest vs < down 0 (steps vs)

-- they do not, so far
abbrev pub NotBelow : List ℕ → Type 0
NotBelow vs = down 0 (steps vs) ≤ largest vs

-- 14 and 2 are judged number by number, 2 inside the counts too, and 9 last: two elements of room for each range
pub record ReadsAck (s : List ℕ) (room refusal : ℕ) : Type 0 where
  pub three : refusal ≡ 3 ↔ OtherType ack_types s
  pub two : refusal ≡ 2 ↔ Cut ack_types s (λ kind vs. (length vs < asked kind vs) × NotBelow vs)
  pub fourteen : refusal ≡ 14 ↔ After ack_types s (λ kind vs next. (length vs ≤ of_ranges vs) × Below vs)
  pub nine : refusal ≡ 9 ↔ After ack_types s (λ kind vs next. (length vs ≡ asked kind vs) × NotBelow vs × (room < 2 * (count vs + 1)))
  pub accepted : refusal ≡ 0 ↔ After ack_types s (λ kind vs next. (length vs ≡ asked kind vs) × NotBelow vs × (2 * (count vs + 1) ≤ room))
  pub others : OneOf refusal (0 ∷ 2 ∷ 3 ∷ 9 ∷ 14 ∷ [])

-- ACK, with the lent slice xs
abbrev pub AckReads : Type 0
AckReads = (s xs : List ℕ) → ReadsAck s (length xs) (refusal_number (read_ack s xs).answer)

-- the same of the bytes after a type that was read already
pub record ReadsAckAs (kind : ℕ) (s : List ℕ) (room refusal : ℕ) : Type 0 where
  pub three : refusal ≡ 3 ↔ (OneOf kind ack_types → ⊥)
  pub two : refusal ≡ 2 ↔ AfterAs ack_types kind s (λ vs next. ((length vs < asked kind vs) × NotBelow vs) × (read_number s next ≡ Err Ends))
  pub fourteen : refusal ≡ 14 ↔ AfterAs ack_types kind s (λ vs next. (length vs ≤ of_ranges vs) × Below vs)
  pub nine : refusal ≡ 9 ↔ AfterAs ack_types kind s (λ vs next. (length vs ≡ asked kind vs) × NotBelow vs × (room < 2 * (count vs + 1)))
  pub accepted : refusal ≡ 0 ↔ AfterAs ack_types kind s (λ vs next. (length vs ≡ asked kind vs) × NotBelow vs × (2 * (count vs + 1) ≤ room))
  pub others : OneOf refusal (0 ∷ 2 ∷ 3 ∷ 9 ∷ 14 ∷ [])

abbrev pub AckReadsAs : Type 0
AckReadsAs = (kind : ℕ) (s xs : List ℕ) → ReadsAckAs kind s (length xs) (refusal_number (read_ack_as kind s xs).answer)

-- checked without a slice, for a caller who walks over the ranges itself: the same rows, and no 9
pub record ChecksAck (s : List ℕ) (refusal : ℕ) : Type 0 where
  pub three : refusal ≡ 3 ↔ OtherType ack_types s
  pub two : refusal ≡ 2 ↔ Cut ack_types s (λ kind vs. (length vs < asked kind vs) × NotBelow vs)
  pub fourteen : refusal ≡ 14 ↔ After ack_types s (λ kind vs next. (length vs ≤ of_ranges vs) × Below vs)
  pub accepted : refusal ≡ 0 ↔ After ack_types s (λ kind vs next. (length vs ≡ asked kind vs) × NotBelow vs)
  pub others : OneOf refusal (0 ∷ 2 ∷ 3 ∷ 14 ∷ [])

abbrev pub AckChecks : Type 0
AckChecks = (s : List ℕ) → ChecksAck s (refusal_number (check_ack s))

-- one step over the ranges: 2 and 14, and no other
abbrev pub RangeReads : Type 0
RangeReads = (left : ℕ) (s : List ℕ) (at high : ℕ) → OneOf (refusal_number (read_range left s at high)) (0 ∷ 2 ∷ 14 ∷ [])

-- ---- the writers: "5, then 9"

-- ACK_FREQUENCY: 5 for one of its four numbers, 9 where the frame does not fit
abbrev pub FrequencyWrites : Type 0
FrequencyWrites =
    (xs : List ℕ) (q t d r : ℕ) → Writes (refusal_number (put_answer xs 0 (frequency q t d r))) (length xs) (length (encode_all (frequency q t d r))) (q ∷ t ∷ d ∷ r ∷ [])

-- IMMEDIATE_ACK: 9 where there is no byte
abbrev pub ImmediateWrites : Type 0
ImmediateWrites = (xs : List ℕ) → Places (refusal_number (put_answer xs 0 immediate)) (length xs) 1

-- ---- the lent slice

-- a refused call leaves it as it was
abbrev pub AckUnchanged : Type 0
AckUnchanged = (s xs : List ℕ) → (refusal_number (read_ack s xs).answer ≡ 0 → ⊥) → (read_ack s xs).slice ≡ xs

abbrev pub AckUnchangedAs : Type 0
AckUnchangedAs = (kind : ℕ) (s xs : List ℕ) → (refusal_number (read_ack_as kind s xs).answer ≡ 0 → ⊥) → (read_ack_as kind s xs).slice ≡ xs

-- an accepted one "touches no later element"
abbrev pub AckLater : Type 0
AckLater =
    (s xs : List ℕ) (l d ranges used : ℕ) (tail : Option Counts) → (read_ack s xs).answer ≡ ack l d ranges used tail → drop (2 * ranges) (read_ack s xs).slice ≡ drop (2 * ranges) xs

abbrev pub AckLaterAs : Type 0
AckLaterAs =
    (kind : ℕ) (s xs : List ℕ) (l d ranges used : ℕ) (tail : Option Counts) → (read_ack_as kind s xs).answer ≡ ack l d ranges used tail
    → drop (2 * ranges) (read_ack_as kind s xs).slice ≡ drop (2 * ranges) xs
