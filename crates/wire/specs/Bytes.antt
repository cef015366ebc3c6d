-- Bytes, as numbers, high byte first, and written over others.
use Rattle.std.specs.Prelude.{ℕ, zero, suc, ◌+◌, ◌*◌, ◌/◌, ◌%◌, ◌<◌, List, [], ◌∷◌, ◌++◌, Bool, true, false, length, get_or, take, drop}

-- every element is a byte
abbrev pub Octets : List ℕ → Type 0
Octets bs = (i : ℕ) → get_or bs i 0 < 256

-- a where the test holds, b where it does not
abbrev pub pick : {A : Type 0} → Bool → A → A → A
pick true a b = a
pick false a b = b

-- the number acc, followed by the bytes
abbrev pub be : ℕ → List ℕ → ℕ
be acc [] = acc
be acc (b ∷ bs) = be (acc * 256 + b) bs

-- the lowest k bytes of n, before tl
abbrev pub digits : ℕ → ℕ → List ℕ → List ℕ
digits zero n tl = tl
digits (suc k) n tl = digits k (n / 256) (n % 256 ∷ tl)

-- xs with ys in the place of what stands from at on
abbrev pub splice : List ℕ → ℕ → List ℕ → List ℕ
splice xs at ys = take at xs ++ (ys ++ drop (at + length ys) xs)
