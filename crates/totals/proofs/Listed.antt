-- A list filled place by place: how long it is, what stands in a place, and one place more.
-- Assumes nothing.
use Prim.Native.Nat.{ℕ, zero, suc, ◌+◌, ◌≤◌, ◌<◌}
use mathlib.Core.Path.{◌≡◌, refl, ◌∙◌}
use mathlib.Core.List.{List, [], ◌∷◌, ◌++◌, append_assoc, append-nil}
use native.Mathlib.Nat.{lt_of_not-le}
use native.Mathlib.Decide.{dec_le}
use native.Mathlib.Numerals.{add-one}
use native.Mathlib.Omega.{arith}
use lib.ListN.{length, get_or, drop, set, length-append, drop_of_length-le, get_or-append}
use lib.Seq.{drop-cons, set_at, get_or_at}
use Rattle.totals.specs.Totals.{listed}

pub length-listed : (n : ℕ) (f : ℕ → ℕ) → length (listed n f) ≡ n
unfolding listed
length-listed zero f = refl
length-listed (suc n) f = length-append (listed n f) (f n ∷ []) ∙ omega (arith, length-listed n f)

pub listed-none : (f : ℕ → ℕ) → listed 0 f ≡ []
unfolding listed
listed-none f = refl

-- the first i places are f's, and the others are as they were
module _ (f : ℕ → ℕ) (xs : List ℕ) (i : ℕ) (h : i < length xs) where
  pub place-next : get_or (listed i f ++ drop i xs) i 0 ≡ get_or xs i 0
  place-next = rw (drop-cons xs i 0 h) (get_or_at (listed i f) (get_or xs i 0) (drop (suc i) xs) 0 i (length-listed i f))

  pub fill-next : (v : ℕ) → v ≡ f i → set (listed i f ++ drop i xs) i v ≡ listed (i + 1) f ++ drop (i + 1) xs
  unfolding listed
  fill-next v e =
      rw (add-one, drop-cons xs i 0 h, set_at (listed i f) (get_or xs i 0) (drop (suc i) xs) v i (length-listed i f), e)
      (simp append_assoc)

  -- of a list so far
  pub held : {ys : List ℕ} → ys ≡ listed i f ++ drop i xs → get_or ys i 0 ≡ get_or xs i 0
  held e = rw e place-next

  pub filled : {ys zs : List ℕ} {v : ℕ} → ys ≡ listed i f ++ drop i xs → v ≡ f i → zs ≡ set ys i v → zs ≡ listed (i + 1) f ++ drop (i + 1) xs
  filled {v = v} e g k = k ∙ rw e (fill-next v g)

  -- a place that keeps what it held
  pub left : {ys : List ℕ} → ys ≡ listed i f ++ drop i xs → get_or xs i 0 ≡ f i → ys ≡ listed (i + 1) f ++ drop (i + 1) xs
  unfolding listed
  left e g = e ∙ rw (add-one, drop-cons xs i 0 h, g) (simp append_assoc)

-- all places are filled
pub fill_done : (f : ℕ → ℕ) (xs ys : List ℕ) (i n : ℕ) → ys ≡ listed i f ++ drop i xs → i ≡ n → length xs ≡ n → ys ≡ listed n f
fill_done f xs ys i n e h l =
    let g : length xs ≤ n = omega arith in
    e ∙ rw (h, drop_of_length-le xs {i = n} g, append-nil)

-- lists that agree place by place
pub listed_same : (n : ℕ) (f g : ℕ → ℕ) → ((i : ℕ) → i < n → f i ≡ g i) → listed n f ≡ listed n g
unfolding listed
listed_same zero f g e = refl
listed_same (suc n) f g e = rw (listed_same n f g (λ i h. e i (omega arith)), e n (omega arith))

pub get_or-listed : (n : ℕ) (f : ℕ → ℕ) (i : ℕ) → i < n → get_or (listed n f) i 0 ≡ f i
unfolding listed
get_or-listed zero f i h = absurd (omega arith)
get_or-listed (suc n) f i h =
    elim (dec_le (suc i) n) [
      | yes g ↦ get_or-append (listed n f) (f n ∷ []) 0 i (omega (arith, length-listed n f)) ∙ get_or-listed n f i g
      | no g ↦ let e : i ≡ n = omega (arith, lt_of_not-le g) in rw e (get_or_at (listed n f) (f n) [] 0 n (length-listed n f))
    ]
