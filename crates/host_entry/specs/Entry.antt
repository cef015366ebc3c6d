-- One entry: "this paper's number and values for each of the enum's cases".
use Rattle.std.specs.Prelude.{Result, Ok, Err}
use Rattle.wire.specs.Refusals.{number_of}
use Rattle.wire.specs.declared.Refusal.{Refusal}
use Rattle.entries.specs.Entries.{status_number}
use Rattle.entries.specs.declared.Entry.{Entry}
use Rattle.host_entry.specs.declared.EntryOut.{EntryOut}

-- a refused entry has no values
abbrev pub no_entry : Refusal → EntryOut
no_entry refusal = record { result = number_of refusal; group = 0; object = 0; status = 0; age = 0 }

-- the group, which is 0 in profile 1, "object number", "status", "age"
abbrev pub entry_out : Result Entry Refusal → EntryOut
entry_out (Ok e) = record { result = 0; group = e.group; object = e.object; status = status_number e.status; age = e.age }
entry_out (Err refusal) = no_entry refusal
