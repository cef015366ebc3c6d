-- The totals of a list of reports.
use Rattle.std.specs.Prelude.{ℕ, ◌≤◌, ◌≡◌, List, [], ◌∷◌}
use Rattle.totals.specs.declared.Totals.{Totals}
use Rattle.totals.specs.Totals.{too_long, number_of, totals_of}
use Rattle.totals.specs.Adding.{added}
use Rattle.totals.specs.Files.{start}

-- one report after the other
abbrev pub added_all : Totals → List (List ℕ) → Totals
added_all t [] = t
added_all t (r ∷ rs) = added_all (added t r) rs

-- the totals that the calls of `add` come to are "defined over the list of accepted reports"
abbrev pub AddsUp : Type 0
AddsUp = (rs : List (List ℕ)) → added_all start.totals rs ≡ totals_of rs

-- "reports refused for each number that occurs": no number occurs that has no place
abbrev pub NumbersHavePlaces : Type 0
NumbersHavePlaces = (r : List ℕ) → number_of r ≤ too_long
