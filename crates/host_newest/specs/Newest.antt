-- The newest lost object for hosts: "this paper's number and values for each of the enum's cases".
use Rattle.std.specs.Prelude.{ℕ, Option, Some, None, Result, Ok, Err}
use Rattle.wire.specs.Refusals.{number_of}
use Rattle.wire.specs.declared.Refusal.{Refusal}
use Rattle.newest.specs.declared.Lost.{Lost}
use Rattle.host_newest.specs.declared.NewestOut.{NewestOut}

abbrev pub no_object : ℕ → NewestOut
no_object number = record { result = number; found = 0; group = 0; object = 0 }

-- the object where one is found, or 0 in its place
abbrev pub newest_out : Result (Option Lost) Refusal → NewestOut
newest_out (Ok (Some lost)) = record { result = 0; found = 1; group = lost.group; object = lost.object }
newest_out (Ok None) = no_object 0
newest_out (Err refusal) = no_object (number_of refusal)
