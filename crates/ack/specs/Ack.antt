-- The ACK frame of what was received: the ranges of the window, as many newest of them as fit, the counts after them, and refusals 1, 5, 8, 9.
use Rattle.std.specs.Prelude.{ℕ, zero, suc, ◌+◌, ◌-◌, ◌*◌, ◌/◌, Bool, true, false, ◌&&◌, List, [], ◌∷◌, leb, eqb, length, take, Option, Result, Ok, Err}
use Rattle.wire.specs.Bytes.{pick, splice}
use Rattle.wire.specs.Numbers.{encode_all, all_small}
use Rattle.wire.specs.declared.Refusal.{Refusal}
use Rattle.wire.specs.declared.Refusal.TheVariants.{Inconsistent, TooLarge, NothingReceived, NoRoom}
use Rattle.window.specs.Window.{places, value_of, run_below}
use Rattle.frames.specs.declared.Counts.{Counts}
use Rattle.frames.specs.Ack.{range_numbers, counts_of, ack_numbers}
use Rattle.seen.specs.declared.Micros.{Micros}
use Rattle.seen.specs.declared.Seen.{Seen}
use Rattle.seen.specs.Numbers.{small}
use Rattle.seen.specs.Received.{seen_consistent, reported}

-- ---- the "ranges of the window": maximal runs of received numbers, smallest and largest of each, newest first

-- the number that a place of the window stands for, where L's end is `end`
abbrev pub number_at : ℕ → ℕ → ℕ
number_at end place = place + end - places

-- the first n ranges below a place: what is missing there is passed over, then comes the run of received numbers, then what is below it
unfoldable pub ranges_below : ℕ → Seen → ℕ → List ℕ
ranges_below zero s place = []
ranges_below (suc n) s place =
    let top = place - run_below false place (value_of s.window) in
    let low = top - run_below true top (value_of s.window) in
    elim top [ zero ↦ [] | suc largest ↦ number_at s.end low ∷ number_at s.end largest ∷ ranges_below n s low ]

-- all of them, from L down
abbrev pub ranges : Seen → List ℕ
ranges s = ranges_below places s places

abbrev pub number_of_ranges : Seen → ℕ
number_of_ranges s = length (ranges s) / 2

-- ---- the frame

-- "delay one eighth (rounded down) of the microseconds since L arrived"; "A clock that went back counts as no time passed"
abbrev pub ack_delay : Seen → Micros → ℕ
ack_delay s time = (time.0 - s.arrived.0) / 8

-- the bytes of the ACK frame with the k newest ranges, and with that tail after them (02, No. 2)
unfoldable pub frame : Seen → Option Counts → ℕ → ℕ → List ℕ
frame s tail delay k = encode_all (ack_numbers tail delay (take (2 * k) (ranges s)))

-- those before the tail
unfoldable pub body : Seen → ℕ → ℕ → ℕ → List ℕ
body s kind delay k = encode_all (range_numbers kind delay (take (2 * k) (ranges s)))

-- whether it fits the room
abbrev pub fits : Seen → Option Counts → ℕ → ℕ → ℕ → Bool
fits s tail delay room k = leb (length (frame s tail delay k)) room

-- the largest of k, k - 1, .., 1 for which the test holds, 0 where it holds for none
unfoldable pub largest_where : (ℕ → Bool) → ℕ → ℕ
largest_where test zero = 0
largest_where test (suc k) = elim (test (suc k)) [ true ↦ suc k | false ↦ largest_where test k ]

-- "as many newest ranges of the window as fit"
unfoldable pub ranges_kept : Seen → Option Counts → ℕ → ℕ → ℕ
ranges_kept s tail delay room = largest_where (fits s tail delay room) (number_of_ranges s)

-- ---- the frame in a lent buffer xs, whose length is the room

-- "Bytes after the frame stay"; a refusal "writes no element of a lent buffer"
abbrev pub laid : ℕ → List ℕ → List ℕ → List ℕ
laid zero xs bytes = splice xs 0 bytes
laid (suc refusal) xs bytes = xs

-- of all marks: 9 where "the smallest permitted output", the frame with the first range only, does not fit
abbrev pub marks_refusal : Seen → Micros → Option Counts → ℕ → ℕ
marks_refusal s time tail room = pick (fits s tail (ack_delay s time) room 1) 0 9

abbrev pub marks_frame : Seen → Micros → Option Counts → ℕ → List ℕ
marks_frame s time tail room = frame s tail (ack_delay s time) (ranges_kept s tail (ack_delay s time) room)

-- the answer: how many bytes the frame takes, or the refusal
unfoldable pub marks_answer : Seen → Micros → Option Counts → List ℕ → Result ℕ Refusal
marks_answer s time tail xs = pick (fits s tail (ack_delay s time) (length xs) 1) (Ok (length (marks_frame s time tail (length xs)))) (Err NoRoom)

unfoldable pub marks_bytes : Seen → Micros → Option Counts → List ℕ → List ℕ
marks_bytes s time tail xs = laid (marks_refusal s time tail (length xs)) xs (marks_frame s time tail (length xs))

-- once what was received is consistent: 5 for the time or a count, 8; then 9, judged by what is reported
abbrev pub refusal_after1 : Seen → Micros → Option Counts → ℕ → ℕ
refusal_after1 s time tail room =
    pick (small time.0 && all_small (counts_of tail)) (pick (eqb s.end 0) 8 (marks_refusal (reported s) time tail room)) 5

unfoldable pub ack_refusal : Seen → Micros → Option Counts → ℕ → ℕ
ack_refusal s time tail room = pick (seen_consistent s) (refusal_after1 s time tail room) 1

-- the frame that is written: its ranges are those from the floor up
abbrev pub ack_frame : Seen → Micros → Option Counts → ℕ → List ℕ
ack_frame s time tail room = marks_frame (reported s) time tail room

-- the answer: how many bytes the frame takes, or the refusal, by its number the one above
unfoldable pub ack_answer : Seen → Micros → Option Counts → List ℕ → Result ℕ Refusal
ack_answer s time tail xs =
    pick (seen_consistent s)
    (pick (small time.0 && all_small (counts_of tail)) (pick (eqb s.end 0) (Err NothingReceived) (marks_answer (reported s) time tail xs)) (Err TooLarge))
    (Err Inconsistent)

-- the lent buffer after it
unfoldable pub ack_bytes : Seen → Micros → Option Counts → List ℕ → List ℕ
ack_bytes s time tail xs = laid (ack_refusal s time tail (length xs)) xs (ack_frame s time tail (length xs))
