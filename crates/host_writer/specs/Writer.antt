-- The writer's answer: "this paper's number and values for each of the enum's cases".
use Rattle.std.specs.Prelude.{Result, Ok, Err}
use Rattle.wire.specs.Refusals.{number_of}
use Rattle.wire.specs.declared.Refusal.{Refusal}
use Rattle.report.specs.declared.Written.{Written}
use Rattle.host_writer.specs.declared.WrittenOut.{WrittenOut}

-- the place after the report, and how many records it keeps
unfoldable pub written_out : Result Written Refusal → WrittenOut
written_out (Ok written) = record { result = 0; next = written.next; kept = written.kept }
written_out (Err refusal) = record { result = number_of refusal; next = 0; kept = 0 }
