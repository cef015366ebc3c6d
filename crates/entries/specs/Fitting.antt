-- The last records, and how many of them fit a room.
use Rattle.std.specs.Prelude.{ℕ, zero, suc, ◌+◌, ◌-◌, ◌*◌, min, List, length, drop, nat_le}
use Rattle.wire.specs.Bytes.{pick}
use Rattle.wire.specs.Numbers.{width_of}
use Rattle.entries.specs.Profiles.{record_size}
use Rattle.entries.specs.declared.Profile.{Profile}

-- how many bytes k records take with their count, which is a number too
abbrev pub size_of : Profile → ℕ → ℕ
size_of p k = width_of k + record_size p * k

-- the largest k, at most the given one, whose size is within the room; 0 where none is
unfoldable pub largest_within : (ℕ → ℕ) → ℕ → ℕ → ℕ
largest_within size room zero = 0
largest_within size room (suc k) = pick (nat_le (size (suc k)) room) (suc k) (largest_within size room k)

-- "the longest run of last records" that fits, of those given, and at most so many
abbrev pub fitting_of : Profile → ℕ → ℕ → ℕ → ℕ
fitting_of p given most room = largest_within (size_of p) room (min given most)

-- the last k records
abbrev pub last_of : Profile → List ℕ → ℕ → List ℕ
last_of p s k = drop (length s - record_size p * k) s
