-- "this paper's number and values for each of the enum's cases": numbers on the wire.
use Rattle.std.specs.Prelude.{ℕ, Result, Ok, Err}
use Rattle.wire.specs.Bytes.{pick}
use Rattle.wire.specs.Refusals.{number_of}
use Rattle.wire.specs.declared.Number.{Number}
use Rattle.wire.specs.declared.Refusal.{Refusal}
use Rattle.host_codec.specs.declared.NumberOut.{NumberOut}
use Rattle.host_codec.specs.declared.PutOut.{PutOut}

-- a value, the place after it, and 1 where "the form was the shortest" (02, No. 5)
unfoldable pub number_out : Result Number Refusal → NumberOut
number_out (Ok n) = record { result = 0; value = n.value; next = n.next; shortest = pick n.shortest 1 0 }
number_out (Err refusal) = record { result = number_of refusal; value = 0; next = 0; shortest = 0 }

-- the place after what was written
unfoldable pub put_out : Result ℕ Refusal → PutOut
put_out (Ok next) = record { result = 0; next = next }
put_out (Err refusal) = record { result = number_of refusal; next = 0 }
