-- "Three frames": their types, and how a reader begins: at the first byte, and it ignores what follows the frame.
use Rattle.std.specs.Prelude.{ℕ, Bool, true, false, List, [], ◌∷◌, Result, Ok, Err, eqb}
use Rattle.wire.specs.Bytes.{pick}
use Rattle.wire.specs.Fields.{formed}
use Rattle.wire.specs.Numbers.{read_number}
use Rattle.wire.specs.declared.Refusal.{Refusal}
use Rattle.wire.specs.declared.Refusal.TheVariants.{Ends, OtherType}
use Rattle.frames.specs.declared.Kind.{Kind}

-- ACK_FREQUENCY: "type 0xaf, written 40 af"
abbrev pub frequency_type : ℕ
frequency_type = 0xaf

-- IMMEDIATE_ACK: "type 1f"
abbrev pub immediate_type : ℕ
immediate_type = 0x1f

-- ACK: "type 02"
abbrev pub ack_type : ℕ
ack_type = 0x02

-- ACK with the counts: "ACK type 03 of RFC 9000 section 19.3.2" (02, No. 2)
abbrev pub counts_type : ℕ
counts_type = 0x03

-- whether a type is one of those that a reader takes
abbrev pub among : ℕ → List ℕ → Bool
among v [] = false
among v (kind ∷ kinds) = pick (eqb v kind) true (among v kinds)

-- "the ACK reader takes 03 too" (02, No. 2)
abbrev pub ack_types : List ℕ
ack_types = ack_type ∷ counts_type ∷ []

abbrev pub is_ack : ℕ → Bool
is_ack v = among v ack_types

-- 2 inside the type; 3, before later fields are read, where "the frame type is another one, or not in shortest form"
abbrev pub typed : {R : Type 0} → List ℕ → List ℕ → R → R → (ℕ → ℕ → R) → R
typed kinds s ends other f =
    formed (read_number s 0) ends (λ v next shortest. pick (among v kinds) (pick shortest (f v next) other) other)

-- the type by itself, in its shortest form, and the place after it
abbrev pub read_type : List ℕ → Result Kind Refusal
read_type s = formed (read_number s 0) (Err Ends) (λ kind next shortest. pick shortest (Ok (record { kind = kind; next = next })) (Err OtherType))

-- the same where the host's own stack has read the type already and hands it over as a number
abbrev pub typed_as : {R : Type 0} → List ℕ → ℕ → R → R → R
typed_as kinds kind other rest = pick (among kind kinds) rest other
