-- Each way: what a frame's writer wrote its reader reads, an ACK is read as it is checked and walked over, and an accepted frame in shortest form is what its numbers are written as.
use Rattle.std.specs.Prelude.{ℕ, ◌+◌, ◌-◌, ◌*◌, ◌/◌, ◌≤◌, ◌<◌, ◌≡◌, List, Option, Result, Ok, Err, true, length, get_or, take, drop}
use Rattle.wire.specs.Bytes.{splice, Octets}
use Rattle.wire.specs.Numbers.{limit, read_number, encode_all, put_answer, put_bytes}
use Rattle.wire.specs.Fields.{found}
use Rattle.wire.specs.declared.Refusal.{Refusal}
use Rattle.wire.specs.declared.Refusal.TheVariants.{Ends, BelowZero}
use Rattle.frames.specs.Frequency.{thresholds, read_frequency, read_frequency_as, frequency}
use Rattle.frames.specs.Immediate.{read_immediate, immediate}
use Rattle.frames.specs.Ack.{ended, before, ranges_from, step, read_range, ack, AckRead, read_ack, read_ack_as, check_ack, after_check, ack_numbers, AckRanges}
use Rattle.frames.specs.declared.Frequency.{Frequency}
use Rattle.frames.specs.declared.Counts.{Counts}
use Rattle.frames.specs.declared.Ack.{Ack}

-- ---- written, then read

-- ACK_FREQUENCY
abbrev pub FrequencyWriteRead : Type 0
FrequencyWriteRead =
    (xs : List ℕ) (q t d r used : ℕ) → put_answer xs 0 (frequency q t d r) ≡ Ok used → read_frequency (put_bytes xs 0 (frequency q t d r)) ≡ thresholds q t d r used

-- IMMEDIATE_ACK
abbrev pub ImmediateWriteRead : Type 0
ImmediateWriteRead = (xs : List ℕ) (used : ℕ) → put_answer xs 0 immediate ≡ Ok used → read_immediate (put_bytes xs 0 immediate) ≡ Ok used

-- ACK of both types, with room for its ranges
abbrev pub AckWriteRead : Type 0
AckWriteRead =
    (buf xs pairs : List ℕ) (tail : Option Counts) (delay used : ℕ) → AckRanges pairs → delay ≤ limit → length pairs ≤ length xs
    → put_answer buf 0 (ack_numbers tail delay pairs) ≡ Ok used
    → read_ack (put_bytes buf 0 (ack_numbers tail delay pairs)) xs ≡ record { answer = ack (get_or pairs 1 0) delay (length pairs / 2) used tail; slice = splice xs 0 pairs }

-- ---- checked, then read

-- ACK: the check's fault is the reader's; an accepted one is read where there is room for its ranges
abbrev pub CheckThenRoom : Type 0
CheckThenRoom = (s xs : List ℕ) → read_ack s xs ≡ after_check s (check_ack s) xs

-- the ranges one by one: a step's range stands first, and the walk goes on where the step says, or ends there
pub record RangeByRange (left : ℕ) (s : List ℕ) (at largest : ℕ) : Type 0 where
  pub cut : read_range left s at largest ≡ Err Ends → (ranges_from left s at largest).walk ≡ Err Ends
  pub low : read_range left s at largest ≡ Err BelowZero → (ranges_from left s at largest).walk ≡ Err BelowZero
  pub last : (smallest lower next : ℕ) → read_range left s at largest ≡ step smallest lower next → left ≡ 0
      → ranges_from left s at largest ≡ before smallest largest (ended (Ok next))
  pub more : (smallest lower next : ℕ) → read_range left s at largest ≡ step smallest lower next → 0 < left
      → ranges_from left s at largest ≡ before smallest largest (ranges_from (left - 1) s next lower)

-- ---- read, then written

-- the numbers vs, as many bytes as the frame used, are the frame, and writing them over it changes nothing
pub record Encodes (s : List ℕ) (used : ℕ) (vs : List ℕ) : Type 0 where
  pub bytes : take used s ≡ encode_all vs
  pub same : put_bytes s 0 vs ≡ s

-- the frame's numbers are in shortest form: they take no more bytes than the shortest forms
abbrev pub Shortest : List ℕ → ℕ → List ℕ → Type 0
Shortest s used vs = used ≡ length (encode_all vs) → Encodes s used vs

-- ACK_FREQUENCY
abbrev pub FrequencyReadWrite : Type 0
FrequencyReadWrite = (s : List ℕ) (q t d r used : ℕ) → Octets s → read_frequency s ≡ thresholds q t d r used → Shortest s used (frequency q t d r)

-- IMMEDIATE_ACK
abbrev pub ImmediateReadWrite : Type 0
ImmediateReadWrite = (s : List ℕ) (used : ℕ) → Octets s → read_immediate s ≡ Ok used → Shortest s used immediate

-- ACK: the pairs that it wrote to the lent slice are its ranges, newest first and a number missing between two, and with its delay and its tail they are the frame
pub record AckTells (s pairs : List ℕ) (largest delay ranges used : ℕ) (tail : Option Counts) : Type 0 where
  pub many : length pairs ≡ 2 * ranges
  pub descend : AckRanges pairs
  pub first : get_or pairs 1 0 ≡ largest
  pub shortest : Shortest s used (ack_numbers tail delay pairs)

abbrev pub AckReadWrite : Type 0
AckReadWrite =
    (s xs : List ℕ) (largest delay ranges used : ℕ) (tail : Option Counts) → Octets s → (read_ack s xs).answer ≡ ack largest delay ranges used tail
    → AckTells s (take (2 * ranges) (read_ack s xs).slice) largest delay ranges used tail

-- ---- the type read by the reader or by the host: the whole frame is read as what follows its type, and `used` counts the type too

abbrev pub later_frequency : ℕ → Result Frequency Refusal → Result Frequency Refusal
later_frequency n (Ok f) = thresholds f.sequence f.threshold f.delay f.reordering (n + f.used)
later_frequency n (Err refusal) = Err refusal

-- ACK_FREQUENCY
abbrev pub FrequencyAfterType : Type 0
FrequencyAfterType =
    (s : List ℕ) (kind start : ℕ) → read_number s 0 ≡ found kind start true → read_frequency s ≡ later_frequency start (read_frequency_as kind (drop start s))

abbrev pub later_ack : ℕ → Result Ack Refusal → Result Ack Refusal
later_ack n (Ok a) = ack a.largest a.delay a.ranges (n + a.used) a.tail
later_ack n (Err refusal) = Err refusal

abbrev pub later : ℕ → AckRead → AckRead
later n r = record { answer = later_ack n r.answer; slice = r.slice }

-- ACK, and what it leaves in the lent slice
abbrev pub AckAfterType : Type 0
AckAfterType = (s xs : List ℕ) (kind start : ℕ) → read_number s 0 ≡ found kind start true → read_ack s xs ≡ later start (read_ack_as kind (drop start s) xs)
