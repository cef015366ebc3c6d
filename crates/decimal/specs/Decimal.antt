-- Numbers in decimal, as text.
use Rattle.std.specs.Prelude.{ℕ, zero, suc, ◌+◌, ◌-◌, ◌*◌, ◌/◌, ◌%◌, ◌≤◌, ◌<◌, ◌≡◌, true, false, List, [], ◌∷◌, ltb, length, get_or}

-- how many digits n has: it takes no more than n steps to find out
unfoldable pub places_from : ℕ → ℕ → ℕ
places_from zero n = 1
places_from (suc steps) n = elim (ltb n 10) [ true ↦ 1 | false ↦ suc (places_from steps (n / 10)) ]

unfoldable pub places_of : ℕ → ℕ
places_of n = places_from n n

-- the last k digits of n as text, before tl; the digit 0 is byte 48
abbrev pub last_digits : ℕ → ℕ → List ℕ → List ℕ
last_digits zero n tl = tl
last_digits (suc k) n tl = last_digits k (n / 10) ((48 + n % 10) ∷ tl)

-- n in decimal
unfoldable pub decimal : ℕ → List ℕ
decimal n = last_digits (places_of n) n []

-- the number that digits spell, after those of acc
abbrev pub spelt : ℕ → List ℕ → ℕ
spelt acc [] = acc
spelt acc (b ∷ bs) = spelt (acc * 10 + (b - 48)) bs

-- every byte is a digit, `0` to `9`
abbrev pub Digits : List ℕ → Type 0
Digits bs = (i : ℕ) → i < length bs → (48 ≤ get_or bs i 0) × (get_or bs i 0 ≤ 57)

-- what a reader of decimal numbers asks of the digits of n; a leading 0 stands alone
pub record Spells (bs : List ℕ) (n : ℕ) : Type 0 where
  pub value : spelt 0 bs ≡ n
  pub digit : Digits bs
  pub some : 0 < length bs
  pub leading : get_or bs 0 0 ≡ 48 → length bs ≡ 1

abbrev pub DecimalSpells : Type 0
DecimalSpells = (n : ℕ) → Spells (decimal n) n
