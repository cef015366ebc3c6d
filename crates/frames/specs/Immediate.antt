-- "Three frames": IMMEDIATE_ACK (004), read and written.
use Rattle.std.specs.Prelude.{ℕ, List, [], ◌∷◌, Result, Ok, Err}
use Rattle.frames.specs.Types.{immediate_type, typed}
use Rattle.wire.specs.declared.Refusal.{Refusal}
use Rattle.wire.specs.declared.Refusal.TheVariants.{Ends, OtherType}

-- "type 1f alone": the length used
abbrev pub read_immediate : List ℕ → Result ℕ Refusal
read_immediate s = typed (immediate_type ∷ []) s (Err Ends) (Err OtherType) (λ kind used. Ok used)

-- the number that its writer writes
abbrev pub immediate : List ℕ
immediate = immediate_type ∷ []
