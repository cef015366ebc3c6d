-- Acknowledged: what a written ACK tells after any calls from any opening. Read back, its frame holds the newest maximal runs of the accepted numbers, from the floor up to the largest (02, No. 12: what the sender confirmed is below it), and as many of them as fit.
use Rattle.std.specs.Prelude.{ℕ, ◌+◌, ◌-◌, ◌*◌, ◌≤◌, ◌<◌, ◌≡◌, true, List, length, take, get_or, Option}
use Rattle.wire.specs.Bytes.{splice}
use Rattle.wire.specs.Numbers.{encode_all}
use Rattle.frames.specs.Ack.{ack_numbers, ack, read_ack}
use Rattle.frames.specs.declared.Counts.{Counts}
use Rattle.receiver.specs.declared.Millis.{Millis}
use Rattle.ecn.specs.declared.Kind.{Kind}
use Rattle.seen.specs.declared.Micros.{Micros}
use Rattle.ack.specs.Ack.{ack_delay}
use Rattle.ecn.specs.Totals.{tail_of}
use Rattle.receiver.specs.Write.{write_answer, write_bytes}
use Rattle.promises.specs.Sequence.{write, Calls, accepted, after, replied, opening}
use Rattle.promises.specs.Accepted.{accepted_of, packets}
use Rattle.promises.specs.Told.{largest, among, floor_in, seen_of, totals_of}

-- ---- the runs of the accepted numbers

-- an accepted number "from the floor [..] up to L"
abbrev pub InWindow : Calls → ℕ → Type 0
InWindow cs n = (floor_in cs ≤ n) × (among (packets cs) n ≡ true)

-- the smallest and the largest number of the run at i in a list of such pairs, the first run being at 0
abbrev pub smallest_at : List ℕ → ℕ → ℕ
smallest_at runs i = get_or runs (2 * i) 0

abbrev pub largest_at : List ℕ → ℕ → ℕ
largest_at runs i = get_or runs (2 * i + 1) 0

-- the list holds all the maximal runs, `count` of them, newest first
pub record MaximalRuns (cs : Calls) (count : ℕ) (runs : List ℕ) : Type 0 where
  pub pairs : 2 * count ≡ length runs
  -- a run holds a number, and every number of it was accepted
  pub holds : (i : ℕ) → i < count → smallest_at runs i ≤ largest_at runs i
  pub run : (i : ℕ) → i < count → (n : ℕ) → smallest_at runs i ≤ n → n ≤ largest_at runs i → InWindow cs n
  -- the numbers next to it were not, or are below the floor
  pub above : (i : ℕ) → i < count → InWindow cs (largest_at runs i + 1) → ⊥
  pub below : (i : ℕ) → i < count → (n : ℕ) → n + 1 ≡ smallest_at runs i → InWindow cs n → ⊥
  -- newest first, with a missing number between one and the next
  pub newest : (i : ℕ) → i + 1 < count → largest_at runs (i + 1) + 2 ≤ smallest_at runs i
  -- every accepted number lies in one
  pub all : (n : ℕ) → InWindow cs n → (i : ℕ) × (i < count) × (smallest_at runs i ≤ n) × (n ≤ largest_at runs i)

-- there is only one such list
abbrev pub OneList : Type 0
OneList = (cs : Calls) (a b : ℕ) (xs ys : List ℕ) → MaximalRuns cs a xs → MaximalRuns cs b ys → xs ≡ ys

-- ---- the frame

-- what comes after the ranges of a frame of that type: nothing, or the totals as they stand (02, No. 2)
abbrev pub tail_in : Kind → Calls → Option Counts
tail_in kind cs = tail_of kind (totals_of (packets cs))

-- the bytes of an ACK frame with the k newest of the runs
abbrev pub ack_of : Option Counts → ℕ → List ℕ → ℕ → List ℕ
ack_of tail delay runs k = encode_all (ack_numbers tail delay (take (2 * k) runs))

-- what bytes, `used` of them the frame, tell of accepted calls, where they were written at a time into a room
pub record Acknowledges (cs : Calls) (time : Micros) (kind : Kind) (room : ℕ) (bytes : List ℕ) (used : ℕ) : Type 0 where
  pub count : ℕ
  pub runs : List ℕ
  pub maximal : MaximalRuns cs count runs
  -- how many of the runs it holds: "the first range is always there"
  pub kept : ℕ
  pub first : (0 < kept) × (kept ≤ count)
  -- "as many newest ranges [..] as fit": they fit, and no more of them would
  pub fits : length (ack_of (tail_in kind cs) (ack_delay (seen_of cs) time) runs kept) ≤ room
  pub most : (k : ℕ) → kept < k → k ≤ count → room < length (ack_of (tail_in kind cs) (ack_delay (seen_of cs) time) runs k)
  -- "an ACK with largest L, delay one eighth [..] of the microseconds since L arrived" and exactly these runs; zs is a lent slice that has room for them
  pub back : (zs : List ℕ) → 2 * kept ≤ length zs
      → read_ack bytes zs ≡ record { answer = ack (largest (packets cs) - 1) (ack_delay (seen_of cs) time) kept used (tail_in kind cs); slice = splice zs 0 (take (2 * kept) runs) }

-- an accepted write into any lent buffer xs, after any calls from any opening
abbrev pub Acknowledged : Type 0
Acknowledged =
    (t q : ℕ) (maximum : Millis) (minimum : Micros) (cs : Calls) (time : Micros) (kind : Kind) (xs : List ℕ)
    → replied (opening t q maximum minimum) cs (write time kind (length xs)) ≡ accepted
    → Acknowledges (accepted_of (opening t q maximum minimum) cs) time kind (length xs)
    (write_bytes (after (opening t q maximum minimum) cs) time kind xs) (write_answer (after (opening t q maximum minimum) cs) time kind xs).length
