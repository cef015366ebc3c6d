-- The words are read one by one, and what was read is what they say.
-- Assumes nothing.
use Prim.Native.Nat.{ℕ, zero, suc, ◌+◌, ◌%◌, ◌≤◌, ◌<◌}
use mathlib.Core.Path.{◌≡◌, refl, sym, ap, ◌∙◌}
use mathlib.Core.List.{List, ◌++◌}
use native.Mathlib.Nat.{add-zero, zero-add, add-suc, suc-add}
use native.Mathlib.Numerals.{add-one}
use native.Mathlib.Omega.{arith}
use lib.ListN.{length, get_or, take, set}
use Rattle.report.specs.Header.{each}
use lib.Seq.{take-suc, take-suc-set, take_all, paste, length-paste, take-paste}
use Rattle.pieces.specs.Record.{numbers_in, held_in}

-- ---- a list that is read one by one into another

turn : (to from : List ℕ) (i : ℕ) → i < length to → i < length from → take i to ≡ take i from → take (i + 1) (set to i (get_or from i 0)) ≡ take (i + 1) from
turn to from i h l e = rw (add-one, take-suc-set to i (get_or from i 0) h, take-suc from i 0 l, e)

-- ---- one for each place

pub each_long : (n i : ℕ) (f : ℕ → ℕ) → length (each n i f) ≡ n
each_long zero i f = refl
each_long (suc n) i f = ap suc (each_long n (suc i) f)

pub each_at : (n i : ℕ) (f : ℕ → ℕ) (k : ℕ) → k < n → get_or (each n i f) k 0 ≡ f (i + k)
each_at zero i f k h = absurd (omega arith)
each_at (suc n) i f zero h = ap f (sym (add-zero i))
each_at (suc n) i f (suc k) h = each_at n (suc i) f k (omega arith) ∙ ap f (sym (add-suc i k ∙ sym (suc-add i k)))

module _ (w : List ℕ) where
  pub numbers-long : length (numbers_in w) ≡ 25
  unfolding numbers_in
  numbers-long = each_long 25 0 (λ i. get_or w (7 + i) 0)

  pub held-long : length (held_in w) ≡ 24
  unfolding held_in
  held-long = each_long 24 0 (λ i. get_or w (32 + i) 0 % 256)

  pub number_at : (i : ℕ) → i < 25 → get_or (numbers_in w) i 0 ≡ get_or w (7 + i) 0
  unfolding numbers_in
  number_at i l = each_at 25 0 (λ i. get_or w (7 + i) 0) i l ∙ ap (λ (k : ℕ). get_or w (7 + k) 0) (zero-add i)

  pub byte_at : (i : ℕ) → i < 24 → get_or (held_in w) i 0 ≡ get_or w (32 + i) 0 % 256
  unfolding held_in
  byte_at i l = each_at 24 0 (λ i. get_or w (32 + i) 0 % 256) i l ∙ ap (λ (k : ℕ). get_or w (32 + k) 0 % 256) (zero-add i)

  pub held-turn : (to : List ℕ) (i : ℕ) → length to ≡ 24 → i < 24 → take i to ≡ take i (held_in w) → take (i + 1) (set to i (get_or w (32 + i) 0 % 256)) ≡ take (i + 1) (held_in w)
  held-turn to i e l t = ap (λ (x : ℕ). take (i + 1) (set to i x)) (sym (byte_at i l)) ∙ turn to (held_in w) i (omega arith) (omega (arith, held-long)) t

  -- each is a byte
  pub first-octet : get_or (held_in w) 0 0 < 256
  first-octet = omega (arith, byte_at 0 (omega arith))

-- ---- a list laid over another

pub laid-behind : (held : List ℕ) (carried : ℕ) (more : List ℕ) (i : ℕ) (next : List ℕ) → length held ≡ 24 → carried + length more ≤ 24 → i ≤ length more → length more ≤ i → next ≡ paste held carried more i
    → (length next ≡ 24) × (take (carried + length more) next ≡ take carried held ++ more)
laid-behind held carried more i next w h g l e =
    let n : i ≡ length more = omega arith in
    let f : next ≡ paste held carried more (length more) = e ∙ ap (λ (k : ℕ). paste held carried more k) n in
    (ap length f ∙ length-paste held carried more (length more) (omega arith) (omega arith) ∙ w, ap (take (carried + length more)) f ∙ take-paste held carried more (length more) (omega arith) (omega arith) ∙ ap (λ (x : List ℕ). take carried held ++ x) (take_all (length more) more (omega arith)))
