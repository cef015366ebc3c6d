-- Which numbers, times and ends obey 5. Assumes nothing.
use Rattle.std.specs.Prelude.{ℕ, ◌+◌, Bool, leb}
use Rattle.wire.specs.Numbers.{limit}

-- a number or time obeys 5
abbrev pub small : ℕ → Bool
small n = leb n limit

-- the number of an end obeys 5; "N is at most 2^62"
abbrev pub small_end : ℕ → Bool
small_end end = leb end (limit + 1)
