-- A table of refusals as rows, each a number and its condition: a number whose row holds is one of the table's.
-- Assumes nothing.
use Prim.Native.Nat.{ℕ}
use mathlib.Core.Path.{◌≡◌, refl}
use mathlib.Core.Logic.{inl, inr}
use mathlib.Core.Bool.{Bool, true, false}
use mathlib.Core.List.{List, [], ◌∷◌}
use borrow.Author.Tests.{eqb-true}
use lib.Dec.{eqb}
use Rattle.wire.specs.Exactly.{OneOf}

pub data Table : Type 1 where
  end : Table
  row : ℕ → Type 0 → Table → Table

abbrev pub Choose : Bool → Type 0 → Type 0 → Type 0
Choose true A B = A
Choose false A B = B

-- the condition of a number
abbrev pub Row : Table → ℕ → Type 0
Row end n = ⊥
Row (row x A rest) n = Choose (eqb n x) A (Row rest n)

abbrev pub numbers : Table → List ℕ
numbers end = []
numbers (row x A rest) = x ∷ numbers rest

pub one_of : (t : Table) (n : ℕ) → Row t n → OneOf n (numbers t)
one_of end n r = r
one_of (row x A rest) n r = go (eqb n x) refl r (one_of rest n)
  where
    go : (b : Bool) → eqb n x ≡ b → Choose b A (Row rest n) → (Row rest n → OneOf n (numbers rest)) → OneOf n (x ∷ numbers rest)
    go true t r later = inl (eqb-true n x t)
    go false t r later = inr (later r)
