-- Words of 64 bits read as one natural number, the lowest word first, and the number's words back. Assumes nothing.
use Rattle.std.specs.Prelude.{Bool, true, false, List, [], ◌∷◌, get_or, drop, ℕ, zero, suc, ◌+◌, ◌-◌, ◌*◌, ◌/◌, ◌%◌, ◌^◌}

-- The number that the words make.
unfoldable pub number_of : List ℕ → ℕ
number_of [] = 0
number_of (x ∷ xs) = number_of xs * 2 ^ 64 + x

-- The n lowest words of a number.
unfoldable pub words_of : ℕ → ℕ → List ℕ
words_of zero w = []
words_of (suc n) w = w % 2 ^ 64 ∷ words_of n (w / 2 ^ 64)

-- The n first elements of any list as words: of each its 64 lowest bits, and 0 where the list ends.
unfoldable pub words_in : ℕ → List ℕ → List ℕ
words_in zero xs = []
words_in (suc n) xs = get_or xs 0 0 % 2 ^ 64 ∷ words_in n (drop 1 xs)

-- The bit of a number at a place: 0 or 1.
unfoldable pub bit : ℕ → ℕ → ℕ
bit w p = w / 2 ^ p % 2

-- The word with a 1 where the mark b is not: the inverted word for true, the word itself for false.
abbrev pub other_than : Bool → ℕ → ℕ
other_than true x = 2 ^ 64 - 1 - x
other_than false x = x
