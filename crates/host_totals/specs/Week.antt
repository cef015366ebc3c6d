-- The week's page, as a host in C gets it.
use Rattle.std.specs.Prelude.{ℕ, Result, Ok, Err}
use Rattle.wire.specs.Refusals.{number_of}
use Rattle.wire.specs.declared.Refusal.{Refusal}
use Rattle.host_totals.specs.declared.PageOut.{PageOut}

-- the length of the page, or the refusal's number
abbrev pub page_out : Result ℕ Refusal → PageOut
page_out (Ok next) = record { result = 0; length = next }
page_out (Err refusal) = record { result = number_of refusal; length = 0 }
