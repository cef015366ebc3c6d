-- All the lines of an input, and those of a piece of it.
use Rattle.std.specs.Prelude.{ℕ, zero, suc, ◌+◌, ◌-◌, ◌*◌, ◌/◌, ◌^◌, min, List, [], ◌++◌, length, drop}
use Rattle.wire.specs.Bytes.{splice}
use Rattle.receiver.specs.declared.Receiver.{Receiver}
use Rattle.events.specs.declared.Played.{Played}
use Rattle.events.specs.Events.{record_length, opening, record_call}
use Rattle.events.specs.Lines.{line_of}

-- how many records so many bytes hold; the last may be a short one
abbrev pub records_in : ℕ → ℕ
records_in bytes = (bytes + (record_length - 1)) / record_length

-- the lines of the first n records of s, where the first has the index
unfoldable pub lines_of : ℕ → List ℕ → Receiver → ℕ → List ℕ
lines_of zero s r index = []
lines_of (suc n) s r index =
    let a = record_call s r in
    line_of index a ++ lines_of n (drop record_length s) a.next (index + 1)

-- the receiver after the first n records of s
unfoldable pub receiver_after : ℕ → List ℕ → Receiver → Receiver
receiver_after zero s r = r
receiver_after (suc n) s r = receiver_after n (drop record_length s) (record_call s r).next

-- all that the program prints for an input: "record index from 0"
abbrev pub replay : List ℕ → List ℕ
replay s = lines_of (records_in (length s)) s opening 0

-- ---- a piece, its lines in a lent buffer

-- three numbers of twenty digits, and what ends each
abbrev pub longest_line : ℕ
longest_line = 3 * 21

-- how many records are answered: all, where the room has a longest line for each, and each index is below 2^64 - 1
abbrev pub count_of : ℕ → ℕ → ℕ → ℕ
count_of bytes index room = min (records_in bytes) (min (room / longest_line) (2 ^ 64 - 1 - index))

-- what they come to
unfoldable pub played : List ℕ → Receiver → ℕ → ℕ → Played
played s r index room =
    let n = count_of (length s) index room in
    record { count = n; length = length (lines_of n s r index); next = receiver_after n s r }

-- the lent buffer after them: their lines at its start, and every later byte as it was
unfoldable pub played_bytes : List ℕ → Receiver → ℕ → List ℕ → List ℕ
played_bytes s r index xs = splice xs 0 (lines_of (count_of (length s) index (length xs)) s r index)
