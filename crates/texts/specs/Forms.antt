-- Forms: a text in which each `#` stands for a value, itself a text.
use Rattle.std.specs.Prelude.{ℕ, zero, suc, ◌+◌, Bool, true, false, List, [], ◌∷◌, ◌++◌, eqb}
use Prim.Native.Char.{code}
use Prim.Native.String.{String, [] as none, ◌∷◌ as ◌more◌}
use Rattle.wire.specs.Bytes.{pick}
use Rattle.decimal.specs.Decimal.{decimal}

-- the bytes of a quoted text
abbrev pub bytes : String → List ℕ
bytes none = []
bytes (c more s) = code c ∷ bytes s

-- ---- values

-- a number, in decimal
abbrev pub number : ℕ → List ℕ
number n = decimal n

-- what may be absent, kept as an end: one past the number, and 0 for none
abbrev pub or_null : ℕ → List ℕ
or_null zero = bytes "null"
or_null (suc n) = number n

abbrev pub yes_or_no : Bool → List ℕ
yes_or_no true = bytes "true"
yes_or_no false = bytes "false"

-- the value at a place, nothing past the last
abbrev pub value_at : List (List ℕ) → ℕ → List ℕ
value_at [] i = []
value_at (v ∷ values) zero = v
value_at (v ∷ values) (suc i) = value_at values i

-- ---- a form with its values

-- `#`
abbrev pub hash : ℕ
hash = 35

-- how many values a byte of a form stands for
abbrev pub holes : ℕ → ℕ
holes b = pick (eqb b hash) 1 0

-- what a byte of a form comes to, before tl: the value v, or itself
abbrev pub one : ℕ → List ℕ → List ℕ → List ℕ
one b v tl = pick (eqb b hash) (v ++ tl) (b ∷ tl)

-- the form with its values from a place on, before tl
abbrev pub filled_from : List ℕ → List (List ℕ) → ℕ → List ℕ → List ℕ
filled_from [] values used tl = tl
filled_from (b ∷ form) values used tl = one b (value_at values used) (filled_from form values (used + holes b) tl)

-- the form with its values, before tl
abbrev pub filled : String → List (List ℕ) → List ℕ → List ℕ
filled form values tl = filled_from (bytes form) values 0 tl
