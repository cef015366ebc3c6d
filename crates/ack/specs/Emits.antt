-- What a written ACK promises, in statements that read alone: its ranges, and its frame read back.
use Rattle.std.specs.Prelude.{ℕ, ◌+◌, ◌-◌, ◌*◌, ◌≤◌, ◌<◌, ◌≡◌, true, List, length, take, get_or, Option, Ok}
use Rattle.wire.specs.Bytes.{splice}
use Rattle.frames.specs.Ack.{read_ack}
use Rattle.frames.specs.declared.Counts.{Counts}
use Rattle.seen.specs.declared.Micros.{Micros}
use Rattle.seen.specs.declared.Seen.{Seen}
use Rattle.seen.specs.Received.{floor, received, seen_consistent, reported}
use Rattle.ack.specs.Ack.{ranges, number_of_ranges, ack_delay, frame, ranges_kept, ack_answer, ack_bytes}

-- ---- the ranges are exactly the maximal runs of received numbers

-- a number of the window, "from the floor [..] up to L", that was received
abbrev pub Received : Seen → ℕ → Type 0
Received s n = (floor s ≤ n) × (n < s.end) × (received s n ≡ true)

-- the smallest and the largest number of the range at i, the newest being at 0
abbrev pub smallest : Seen → ℕ → ℕ
smallest s i = get_or (ranges (reported s)) (2 * i) 0

abbrev pub largest : Seen → ℕ → ℕ
largest s i = get_or (ranges (reported s)) (2 * i + 1) 0

pub record MaximalRuns (s : Seen) : Type 0 where
  pub pairs : 2 * number_of_ranges (reported s) ≡ length (ranges (reported s))
  -- a range holds a number, and every number of it was received
  pub holds : (i : ℕ) → i < number_of_ranges (reported s) → smallest s i ≤ largest s i
  pub run : (i : ℕ) → i < number_of_ranges (reported s) → (n : ℕ) → smallest s i ≤ n → n ≤ largest s i → Received s n
  -- the numbers next to it were not, or are not in the window
  pub above : (i : ℕ) → i < number_of_ranges (reported s) → Received s (largest s i + 1) → ⊥
  pub below : (i : ℕ) → i < number_of_ranges (reported s) → (n : ℕ) → n + 1 ≡ smallest s i → Received s n → ⊥
  -- newest first, with a missing number between one and the next
  pub newest : (i : ℕ) → i + 1 < number_of_ranges (reported s) → largest s (i + 1) + 2 ≤ smallest s i
  -- every received number lies in one
  pub all : (n : ℕ) → Received s n → (i : ℕ) × (i < number_of_ranges (reported s)) × (smallest s i ≤ n) × (n ≤ largest s i)

abbrev pub RangesAreRuns : Type 0
RangesAreRuns = (s : Seen) → seen_consistent s ≡ true → 0 < s.end → MaximalRuns s

-- ---- what is written, the ACK reader reads back

-- an accepted write to xs leaves ys, n bytes of it the frame: k is how many ranges it keeps, and zs a lent slice that has room for them
pub record Emits (s : Seen) (time : Micros) (tail : Option Counts) (xs ys : List ℕ) (n k : ℕ) : Type 0 where
  -- "the first range is always there"
  pub first : (0 < k) × (k ≤ number_of_ranges (reported s))
  -- "as many [..] as fit": one range more, if there is one, would not have fitted
  pub fits : length (frame (reported s) tail (ack_delay s time) k) ≤ length xs
  pub most : k < number_of_ranges (reported s) → length xs < length (frame (reported s) tail (ack_delay s time) (k + 1))
  -- "an ACK with largest L", the delay, exactly the k newest ranges and the tail
  pub back : (zs : List ℕ) → 2 * k ≤ length zs
      → read_ack ys zs ≡ record { answer = Ok (record { largest = s.end - 1; delay = ack_delay s time; ranges = k; used = n; tail = tail }); slice = splice zs 0 (take (2 * k) (ranges (reported s))) }

abbrev pub AckReadBack : Type 0
AckReadBack =
    (s : Seen) (time : Micros) (tail : Option Counts) (xs : List ℕ) (n : ℕ) → ack_answer s time tail xs ≡ Ok n
    → Emits s time tail xs (ack_bytes s time tail xs) n (ranges_kept (reported s) tail (ack_delay s time) (length xs))
