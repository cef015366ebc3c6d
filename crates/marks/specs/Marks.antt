-- Marks of numbers in a ring of sixteen words, and the numbers of which something holds, rising.
use Rattle.std.specs.Prelude.{ℕ, zero, suc, ◌+◌, ◌-◌, ◌*◌, ◌/◌, ◌%◌, Bool, true, false, ◌&&◌, List, [], ◌∷◌, Option, Some, None, leb, ltb, get_or, set}
use Rattle.wire.specs.Bytes.{pick}
use Rattle.window.specs.Window.{is_set, with_bit}

-- number n stands at bit n % 64 of word n / 64 % 16
abbrev pub mark : List ℕ → ℕ → Bool
mark ws n = is_set (get_or ws (n / 64 % 16) 0) (n % 64)

-- the number that stands at bit k of word i, among the 1,024 from floor on
unfoldable pub number_at : ℕ → ℕ → ℕ → ℕ
number_at floor i k = floor + (64 * i + k + 1024 - floor % 1024) % 1024

-- f of each of n indices from i on
unfoldable pub each : (ℕ → ℕ) → ℕ → ℕ → List ℕ
each f zero i = []
each f (suc n) i = f i ∷ each f n (suc i)

-- the number whose n bits are those of which p holds, from k on
unfoldable pub bits_of : (ℕ → Bool) → ℕ → ℕ → ℕ
bits_of p zero k = 0
bits_of p (suc n) k = bits_of p n (suc k) * 2 + pick (p k) 1 0

-- the sixteen words in which those of the 1,024 numbers from floor on are marked of which p holds
abbrev pub ring_of : (ℕ → Bool) → ℕ → List ℕ
ring_of p floor = each (λ i. bits_of (λ k. p (number_at floor i k)) 64 0) 16 0

-- the numbers of which p holds, among k numbers from n on
unfoldable pub listed : (ℕ → Bool) → ℕ → ℕ → List ℕ
listed p zero n = []
listed p (suc k) n = pick (p n) (n ∷ listed p k (suc n)) (listed p k (suc n))

-- the first of them, or the number after the k
unfoldable pub first_in : (ℕ → Bool) → ℕ → ℕ → ℕ
first_in p zero n = n
first_in p (suc k) n = pick (p n) n (first_in p k (suc n))

-- what a search below `to` finds that ends at n
abbrev pub found_below : ℕ → ℕ → Option ℕ
found_below to n = pick (ltb n to) (Some n) None

-- whether there is none
unfoldable pub none_in : (ℕ → Bool) → ℕ → ℕ → Bool
none_in p zero n = true
none_in p (suc k) n = pick (p n) false (none_in p k (suc n))

-- from `from` on and below `to`
abbrev pub between : ℕ → ℕ → ℕ → Bool
between from to n = leb from n && ltb n to

-- the words with number n marked, and with k numbers from n on
abbrev pub with_mark : List ℕ → ℕ → List ℕ
with_mark ws n = set ws (n / 64 % 16) (with_bit (get_or ws (n / 64 % 16) 0) (n % 64))

unfoldable pub with_range : List ℕ → ℕ → ℕ → List ℕ
with_range ws zero n = ws
with_range ws (suc k) n = with_range (with_mark ws n) k (suc n)
