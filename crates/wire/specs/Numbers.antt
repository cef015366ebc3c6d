-- "Numbers on the wire" (RFC 9000 section 16): four lengths, by a code in the top two bits of the first byte.
use Rattle.std.specs.Prelude.{ℕ, zero, suc, ◌-◌, ◌+◌, ◌*◌, ◌/◌, ◌%◌, ◌^◌, List, [], ◌∷◌, ◌++◌, Bool, true, false, Result, Ok, Err, eqb, leb, ltb, length, get_or}
use Rattle.wire.specs.Bytes.{pick}
use Rattle.wire.specs.Fields.{read_fixed, fixed, placed, after}
use Rattle.wire.specs.declared.Fixed.{Fixed}
use Rattle.wire.specs.declared.Number.{Number}
use Rattle.wire.specs.declared.Refusal.{Refusal}
use Rattle.wire.specs.declared.Refusal.TheVariants.{TooLarge}

-- "a length of 1, 2, 4 or 8 bytes": the code k gives 2 ^ k
abbrev pub len_of : ℕ → ℕ
len_of k = 2 ^ k

-- "the other bits are the value": six bits of the first byte and eight of each later one hold so many numbers
abbrev pub room_of : ℕ → ℕ
room_of k = 64 * 256 ^ (len_of k - 1)

-- "Largest values are 63; 16,383; 1,073,741,823; 2^62 - 1"
abbrev pub largest_of : ℕ → ℕ
largest_of k = room_of k - 1

-- what refusal 5 allows
abbrev pub limit : ℕ
limit = 2 ^ 62 - 1

-- ---- the shortest form

-- the first of the n codes from k that holds v, or k + n where none does
unfoldable pub first_from : ℕ → ℕ → ℕ → ℕ
first_from zero k v = k
first_from (suc n) k v = pick (leb v (largest_of k)) k (first_from n (suc k) v)

abbrev pub code_of : ℕ → ℕ
code_of v = first_from 4 0 v

-- how many bytes v takes, or 0 where no form holds it
unfoldable pub width_of : ℕ → ℕ
width_of v = pick (ltb (code_of v) 4) (len_of (code_of v)) 0

-- ---- reading: "Readers accept longer forms"

-- "whether the form was the shortest" (02, No. 5): code k is the first that holds v
abbrev pub is_shortest : ℕ → ℕ → Bool
is_shortest k v = eqb (code_of v) k

-- a field in the form of code k without the code, which stands above the value
abbrev pub below_code : ℕ → Result Fixed Refusal → Result Fixed Refusal
below_code k (Ok field) = Ok (record { value = field.value % room_of k; next = field.next })
below_code k (Err refusal) = Err refusal

-- a value in the form of code k, and whether that is its shortest
abbrev pub with_form : ℕ → Result Fixed Refusal → Result Number Refusal
with_form k (Ok field) = Ok (record { value = field.value; next = field.next; shortest = is_shortest k field.value })
with_form k (Err refusal) = Err refusal

-- the number that a field is in the form of code k
abbrev pub in_form : ℕ → Result Fixed Refusal → Result Number Refusal
in_form k field = with_form k (below_code k field)

-- the number at at in the form of code k
unfoldable pub read_form : ℕ → List ℕ → ℕ → Result Number Refusal
read_form k s at = in_form k (read_fixed (len_of k) s at)

-- "the top two bits of the first byte give" the code
unfoldable pub read_number : List ℕ → ℕ → Result Number Refusal
read_number s at = read_form (get_or s at 0 / 64) s at

-- ---- writing: "Writers use the shortest"

-- v with the code above it, in the form of code k
unfoldable pub form : ℕ → ℕ → List ℕ
form k v = fixed (len_of k) (k * room_of k + v)

-- v in its shortest form
unfoldable pub encode : ℕ → List ℕ
encode v = form (code_of v) v

-- numbers one after the other
unfoldable pub encode_all : List ℕ → List ℕ
encode_all [] = []
encode_all (v ∷ vs) = encode v ++ encode_all vs

-- none of them is above the limit
unfoldable pub all_small : List ℕ → Bool
all_small [] = true
all_small (v ∷ vs) = pick (leb v limit) (all_small vs) false

-- how many bytes they take together
unfoldable pub length_of : List ℕ → Result ℕ Refusal
length_of vs = pick (all_small vs) (Ok (length (encode_all vs))) (Err TooLarge)

-- writing numbers at at: 5, then 9
unfoldable pub put_answer : List ℕ → ℕ → List ℕ → Result ℕ Refusal
put_answer xs at vs = pick (all_small vs) (placed xs at (encode_all vs)) (Err TooLarge)

-- the lent buffer after that
unfoldable pub put_bytes : List ℕ → ℕ → List ℕ → List ℕ
put_bytes xs at vs = after (put_answer xs at vs) xs at (encode_all vs)
