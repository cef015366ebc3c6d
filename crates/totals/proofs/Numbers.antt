-- Every number that a report is given has its place: the reader gives no other than those of its table.
-- Assumes nothing.
use Prim.Native.Nat.{ℕ, ◌≤◌}
use mathlib.Core.Path.{◌≡◌, refl}
use mathlib.Core.Bool.{Bool, true, false}
use mathlib.Core.Logic.{inl, inr}
use mathlib.Core.List.{List, [], ◌∷◌}
use native.Mathlib.Nat.{le_refl, lt_of_not-le}
use native.Mathlib.Decide.{dec_le}
use native.Mathlib.Omega.{arith}
use borrow.Author.Tests.{leb-true}
use lib.Dec.{leb}
use lib.ListN.{length}
use Rattle.wire.specs.Bytes.{pick}
use Rattle.wire.specs.Exactly.{OneOf}
use Rattle.entries.specs.declared.Profile.TheVariants.{One}
use Rattle.report.specs.Reader.{read_report}
use Rattle.report.proofs.Exactly.{report-reads}
use Rattle.totals.specs.Totals.{longest, too_long}
use Rattle.totals.specs.Adding.{brings}
use Rattle.totals.specs.Sums.{NumbersHavePlaces}
use Rattle.totals.proofs.Summing.{number-long, number_read, brings-number}

-- none of the numbers is above 20
abbrev low : List ℕ → Bool
low [] = true
low (x ∷ xs) = pick (leb x too_long) (low xs) false

one-low : (n : ℕ) (xs : List ℕ) → OneOf n xs → low xs ≡ true → n ≤ too_long
one-low n [] o e = elim o [ ]
one-low n (x ∷ xs) o e = go (leb x too_long) refl o e (one-low n xs)
  where
    go : (b : Bool) → leb x too_long ≡ b → OneOf n (x ∷ xs) → pick b (low xs) false ≡ true → (OneOf n xs → low xs ≡ true → n ≤ too_long) → n ≤ too_long
    go true l (inl f) e later = rw f (leb-true x too_long l)
    go true l (inr o) e later = later o e
    go false l o e later = let z : ◌≡◌ {A = ℕ} 0 1 = cc in absurd (omega arith)

-- the numbers of the reader's table
abbrev given : List ℕ
given = 0 ∷ 2 ∷ 10 ∷ 11 ∷ 12 ∷ 13 ∷ 15 ∷ []

pub numbers-have-places : NumbersHavePlaces
numbers-have-places r =
    elim (dec_le (length r) longest) [
      | yes h ↦ rw (number_read r h) (one-low (read_report One r).refusal given (report-reads One r).others refl)
      | no h ↦ rw (number-long r (lt_of_not-le h)) (le_refl too_long)
    ]

pub brings-low : (r : List ℕ) → (brings r).number ≤ too_long
brings-low r = rw (brings-number r) (numbers-have-places r)
