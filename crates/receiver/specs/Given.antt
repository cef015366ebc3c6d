-- Times as a host gives them: by plain numbers.
use Rattle.std.specs.Prelude.{ℕ}
use Rattle.seen.specs.declared.Micros.{Micros}
use Rattle.receiver.specs.declared.Millis.{Millis}

-- "these two delays are in different units; each has its own type here": a plain number in milliseconds
abbrev pub millis : ℕ → Millis
millis n = record { 0 = n }

-- and in microseconds
abbrev pub micros : ℕ → Micros
micros n = record { 0 = n }
