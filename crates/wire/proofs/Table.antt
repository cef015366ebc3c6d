-- A table's rule: one test at each entry and its place, which antt computes over the whole table, gives the rule at any entry.
-- Assumes nothing.
use Prim.Native.Nat.{ℕ, zero, suc, ◌<◌}
use mathlib.Core.List.{List, [], ◌∷◌}
use mathlib.Core.Bool.{Bool, true, false}
use native.Mathlib.Nat.{le_of_suc-le-suc, not-suc-le-zero}
use lib.Dec.{T}
use lib.ListN.{length, get_or}

abbrev pub both : Bool → Bool → Bool
both true b = b
both false b = false

pub both_left : (a b : Bool) → T (both a b) → T a
both_left true b t = tt
both_left false b t = t

pub both_right : (a b : Bool) → T (both a b) → T b
both_right true b t = t
both_right false b t = absurd t

abbrev pub every : {A : Type 0} → (ℕ → A → Bool) → List A → Bool
every f [] = true
every f (x ∷ xs) = both (f 0 x) (every (λ k. f (suc k)) xs)

pub at_entry : {A : Type 0} (f : ℕ → A → Bool) (xs : List A) (d : A) → T (every f xs) → (k : ℕ) → k < length xs → T (f k (get_or xs k d))
at_entry f [] d t k h = absurd (not-suc-le-zero h)
at_entry f (x ∷ xs) d t zero h = both_left (f 0 x) (every (λ k. f (suc k)) xs) t
at_entry f (x ∷ xs) d t (suc k) h = at_entry (λ k. f (suc k)) xs d (both_right (f 0 x) (every (λ k. f (suc k)) xs) t) k (le_of_suc-le-suc h)
