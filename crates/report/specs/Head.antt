-- What the header's numbers say of the entries: where they begin, and how many are announced.
use Rattle.std.specs.Prelude.{Result, Ok, Err}
use Rattle.wire.specs.declared.Refusal.{Refusal}
use Rattle.report.specs.Header.{count_of}
use Rattle.report.specs.Reader.{Reading, Whole, Stopped}
use Rattle.report.specs.declared.Announced.{Announced}

-- the place after the numbers and the entry count, or the refusal
unfoldable pub announced : Reading → Result Announced Refusal
announced (Whole ns at) = Ok (record { next = at; entries = count_of ns })
announced (Stopped refusal) = Err refusal
