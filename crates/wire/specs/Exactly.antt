-- The rows of the refusal table for numbers and fixed fields: each number is given exactly when its row says, and no other number.
use Rattle.std.specs.Prelude.{ℕ, ◌+◌, ◌/◌, ◌≤◌, ◌<◌, ◌≡◌, ◌↔◌, ◌⊎◌, Bool, true, List, [], ◌∷◌, ◌++◌, length, get_or}
use Rattle.wire.specs.Bytes.{Octets}
use Rattle.wire.specs.Fields.{read_fixed, found, field, placed, written}
use Rattle.wire.specs.Numbers.{len_of, room_of, limit, width_of, form, encode_all, read_number, length_of, put_answer, put_bytes}
use Rattle.wire.specs.Refusals.{refusal_number}

-- one of these numbers
abbrev pub OneOf : ℕ → List ℕ → Type 0
OneOf n [] = ⊥
OneOf n (x ∷ xs) = (n ≡ x) ⊎ OneOf n xs

-- none of these numbers is above the limit
abbrev pub Small : List ℕ → Type 0
Small [] = Unit
Small (v ∷ vs) = (v ≤ limit) × Small vs

-- a read gives 2 where the bytes end before the field does
pub record Reads (refusal ends end : ℕ) : Type 0 where
  pub two : refusal ≡ 2 ↔ ends < end
  pub accepted : refusal ≡ 0 ↔ end ≤ ends
  pub others : OneOf refusal (0 ∷ 2 ∷ [])

-- a fixed field, of any length
abbrev pub FixedReads : Type 0
FixedReads = (len : ℕ) (s : List ℕ) (at : ℕ) → Reads (refusal_number (read_fixed len s at)) (length s) (at + len)

-- a number, whose first byte says its length
abbrev pub NumberReads : Type 0
NumberReads = (s : List ℕ) (at : ℕ) → Reads (refusal_number (read_number s at)) (length s) (at + len_of (get_or s at 0 / 64))

-- "whether the form was the shortest" (02, No. 5): it takes as many bytes as the writer's
abbrev pub FormsTold : Type 0
FormsTold = (s : List ℕ) (at v next : ℕ) (shortest : Bool) → Octets s → read_number s at ≡ found v next shortest → shortest ≡ true ↔ next ≡ at + width_of v

-- "frame fields accept it": v in the form of any code that holds it, wherever it stands, is a field of the value v
abbrev pub FieldsAccept : Type 1
FieldsAccept =
    (R : Type 0) (k v : ℕ) → k < 4 → v < room_of k → (before behind : List ℕ) (refused : R) (f : ℕ → ℕ → R)
    → field (read_number (before ++ (form k v ++ behind)) (length before)) refused f ≡ f v (length before + len_of k)

-- a write of numbers gives 5 for a number above the limit, then 9 where the room is short
pub record Writes (refusal room end : ℕ) (vs : List ℕ) : Type 0 where
  pub five : refusal ≡ 5 ↔ (Small vs → ⊥)
  pub nine : refusal ≡ 9 ↔ (Small vs × (room < end))
  pub accepted : refusal ≡ 0 ↔ (Small vs × (end ≤ room))
  pub others : OneOf refusal (0 ∷ 5 ∷ 9 ∷ [])

abbrev pub NumbersWrite : Type 0
NumbersWrite = (xs : List ℕ) (at : ℕ) (vs : List ℕ) → Writes (refusal_number (put_answer xs at vs)) (length xs) (at + length (encode_all vs)) vs

-- a write of bytes gives 9 where the room is short
pub record Places (refusal room end : ℕ) : Type 0 where
  pub nine : refusal ≡ 9 ↔ room < end
  pub accepted : refusal ≡ 0 ↔ end ≤ room
  pub others : OneOf refusal (0 ∷ 9 ∷ [])

abbrev pub BytesWrite : Type 0
BytesWrite = (xs : List ℕ) (at : ℕ) (ys : List ℕ) → Places (refusal_number (placed xs at ys)) (length xs) (at + length ys)

-- the length of numbers is refused with 5 for a number above the limit
pub record Measures (refusal : ℕ) (vs : List ℕ) : Type 0 where
  pub five : refusal ≡ 5 ↔ (Small vs → ⊥)
  pub accepted : refusal ≡ 0 ↔ Small vs
  pub others : OneOf refusal (0 ∷ 5 ∷ [])

abbrev pub NumbersMeasured : Type 0
NumbersMeasured = (vs : List ℕ) → Measures (refusal_number (length_of vs)) vs

-- a refused write leaves every element as it was
abbrev pub NumbersUnchanged : Type 0
NumbersUnchanged = (xs : List ℕ) (at : ℕ) (vs : List ℕ) → (refusal_number (put_answer xs at vs) ≡ 0 → ⊥) → put_bytes xs at vs ≡ xs

abbrev pub BytesUnchanged : Type 0
BytesUnchanged = (xs : List ℕ) (at : ℕ) (ys : List ℕ) → (refusal_number (placed xs at ys) ≡ 0 → ⊥) → written xs at ys ≡ xs
