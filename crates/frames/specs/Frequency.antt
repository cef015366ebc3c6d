-- "Three frames": ACK_FREQUENCY (004), read and written.
use Rattle.std.specs.Prelude.{ℕ, List, [], ◌∷◌, Result, Ok, Err}
use Rattle.wire.specs.Fields.{field}
use Rattle.wire.specs.Numbers.{read_number}
use Rattle.frames.specs.Types.{frequency_type, typed, typed_as}
use Rattle.wire.specs.declared.Refusal.{Refusal}
use Rattle.wire.specs.declared.Refusal.TheVariants.{Ends, OtherType}
use Rattle.frames.specs.declared.Frequency.{Frequency}

-- the four numbers of a frame that was read, and the length used
abbrev pub thresholds : ℕ → ℕ → ℕ → ℕ → ℕ → Result Frequency Refusal
thresholds sequence threshold delay reordering used =
    Ok (record { sequence = sequence; threshold = threshold; delay = delay; reordering = reordering; used = used })

-- "sequence, ack-eliciting threshold, requested maximum delay in microseconds, reordering threshold"
abbrev pub read_thresholds : List ℕ → ℕ → Result Frequency Refusal
read_thresholds s at =
    field (read_number s at) (Err Ends) (λ sequence at1.
    field (read_number s at1) (Err Ends) (λ threshold at2.
    field (read_number s at2) (Err Ends) (λ delay at3.
    field (read_number s at3) (Err Ends) (λ reordering used.
    thresholds sequence threshold delay reordering used))))

-- "type 0xaf, written 40 af; then" these four
abbrev pub read_frequency : List ℕ → Result Frequency Refusal
read_frequency s = typed (frequency_type ∷ []) s (Err Ends) (Err OtherType) (λ kind at. read_thresholds s at)

-- the bytes after a type that was read already: these four, from the first byte on
abbrev pub read_frequency_as : ℕ → List ℕ → Result Frequency Refusal
read_frequency_as kind s = typed_as (frequency_type ∷ []) kind (Err OtherType) (read_thresholds s 0)

-- the numbers that its writer writes: the type, "then sequence, [..]"
abbrev pub frequency : ℕ → ℕ → ℕ → ℕ → List ℕ
frequency sequence threshold delay reordering = frequency_type ∷ sequence ∷ threshold ∷ delay ∷ reordering ∷ []
