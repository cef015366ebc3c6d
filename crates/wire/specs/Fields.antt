-- Fields of any length: reading one, going on after it or handing its refusal on, and writing at a place.
use Rattle.std.specs.Prelude.{ℕ, ◌+◌, List, [], Bool, Result, Ok, Err, leb, length, take, drop}
use Rattle.wire.specs.Bytes.{pick, be, digits, splice}
use Rattle.wire.specs.declared.Fixed.{Fixed}
use Rattle.wire.specs.declared.Number.{Number}
use Rattle.wire.specs.declared.Refusal.{Refusal}
use Rattle.wire.specs.declared.Refusal.TheVariants.{Ends, NoRoom}

-- the field of len bytes at at, high byte first, or 2 where the bytes end inside it
unfoldable pub read_fixed : ℕ → List ℕ → ℕ → Result Fixed Refusal
read_fixed len s at = pick (leb (at + len) (length s)) (Ok (record { value = be 0 (take len (drop at s)); next = at + len })) (Err Ends)

-- a number that was read: its value, the place after it, and whether its form was the shortest
abbrev pub found : ℕ → ℕ → Bool → Result Number Refusal
found v next shortest = Ok (record { value = v; next = next; shortest = shortest })

-- "Readers go field by field and give the first fault": the refusal x, or what f makes of the value, the next place and
-- "whether the form was the shortest" (02, No. 5)
abbrev pub formed : {R : Type 0} → Result Number Refusal → R → (ℕ → ℕ → Bool → R) → R
formed (Ok n) x f = f n.value n.next n.shortest
formed (Err refusal) x f = x

-- the same where a longer form is accepted: what f makes of the value and the next place
abbrev pub field : {R : Type 0} → Result Number Refusal → R → (ℕ → ℕ → R) → R
field n x f = formed n x (λ v next shortest. f v next)

-- a field of len bytes that holds v
abbrev pub fixed : ℕ → ℕ → List ℕ
fixed len v = digits len v []

-- writing the bytes ys at at: 9 where they do not fit the room, the lent buffer's length
unfoldable pub placed : List ℕ → ℕ → List ℕ → Result ℕ Refusal
placed xs at ys = pick (leb (at + length ys) (length xs)) (Ok (at + length ys)) (Err NoRoom)

-- the lent buffer after that answer: ys from at on, or as it was
unfoldable pub after : Result ℕ Refusal → List ℕ → ℕ → List ℕ → List ℕ
after (Ok next) xs at ys = splice xs at ys
after (Err refusal) xs at ys = xs

abbrev pub written : List ℕ → ℕ → List ℕ → List ℕ
written xs at ys = after (placed xs at ys) xs at ys
