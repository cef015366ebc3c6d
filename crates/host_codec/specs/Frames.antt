-- "this paper's number and values for each of the enum's cases": the three frames.
use Rattle.std.specs.Prelude.{ℕ, Result, Ok, Err, is_some, unwrap_or}
use Rattle.wire.specs.Bytes.{pick}
use Rattle.wire.specs.Refusals.{number_of}
use Rattle.wire.specs.declared.Refusal.{Refusal}
use Rattle.frames.specs.declared.Frequency.{Frequency}
use Rattle.frames.specs.declared.Counts.{Counts}
use Rattle.frames.specs.declared.Ack.{Ack}
use Rattle.host_codec.specs.declared.FrequencyOut.{FrequencyOut}
use Rattle.host_codec.specs.declared.ImmediateOut.{ImmediateOut}
use Rattle.host_codec.specs.declared.AckOut.{AckOut}

-- a refusal of ACK_FREQUENCY has no values
abbrev pub no_frequency : ℕ → FrequencyOut
no_frequency result = record { result = result; sequence = 0; threshold = 0; delay = 0; reordering = 0; used = 0 }

-- "sequence, ack-eliciting threshold, requested maximum delay in microseconds, reordering threshold", and "the length used"
unfoldable pub frequency_out : Result Frequency Refusal → FrequencyOut
frequency_out (Ok f) =
    record { result = 0; sequence = f.sequence; threshold = f.threshold; delay = f.delay; reordering = f.reordering; used = f.used }
frequency_out (Err refusal) = no_frequency (number_of refusal)

-- "the length used"
unfoldable pub immediate_out : Result ℕ Refusal → ImmediateOut
immediate_out (Ok used) = record { result = 0; used = used }
immediate_out (Err refusal) = record { result = number_of refusal; used = 0 }

-- a refusal of ACK has no values
abbrev pub no_ack : ℕ → AckOut
no_ack result = record { result = result; largest = 0; delay = 0; ranges = 0; used = 0; counts = 0; ect0 = 0; ect1 = 0; ce = 0 }

-- "largest, delay", the number of ranges and "the length used"; "the ACK reader takes 03 too and gives its counts" (02, No. 2), and a frame of type 02 has none
unfoldable pub ack_out : Result Ack Refusal → AckOut
ack_out (Ok a) =
    let c : Counts = unwrap_or a.tail (record { ect0 = 0; ect1 = 0; ce = 0 }) in
    record { result = 0; largest = a.largest; delay = a.delay; ranges = a.ranges; used = a.used; counts = pick (is_some a.tail) 1 0; ect0 = c.ect0; ect1 = c.ect1; ce = c.ce }
ack_out (Err refusal) = no_ack (number_of refusal)
