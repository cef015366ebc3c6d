-- That no number of several is above the limit, as the writer's test and as a fact, and over numbers in two parts.
-- Assumes nothing.
use Prim.Native.Nat.{ℕ}
use mathlib.Core.Path.{◌≡◌, refl}
use mathlib.Core.Logic.{◌↔◌}
use mathlib.Core.Bool.{Bool, true, false}
use mathlib.Core.List.{List, [], ◌∷◌, ◌++◌}
use borrow.Author.Tests.{le-leb, leb-true}
use lib.Dec.{leb}
use Rattle.wire.specs.Bytes.{pick}
use Rattle.wire.specs.Numbers.{limit, all_small}
use Rattle.wire.specs.Exactly.{Small}

test-small : (vs : List ℕ) → all_small vs ≡ true → Small vs
unfolding all_small
test-small [] e = tt
test-small (v ∷ vs) e = go (leb v limit) refl e (test-small vs)
  where
    go : (b : Bool) → leb v limit ≡ b → pick b (all_small vs) false ≡ true → (all_small vs ≡ true → Small vs) → Small (v ∷ vs)
    go true t e more = (leb-true v limit t, more e)
    go false t e more = absurd (cc)

small-test : (vs : List ℕ) → Small vs → all_small vs ≡ true
unfolding all_small
small-test [] f = refl
small-test (v ∷ vs) f = rw (le-leb v limit f.0) (small-test vs f.1)

-- the writer's test is the fact
pub all_small_lem : (vs : List ℕ) → all_small vs ≡ true ↔ Small vs
all_small_lem vs = (test-small vs, small-test vs)

-- where the test fails, the fact does
pub not-small : (vs : List ℕ) → all_small vs ≡ false → Small vs → ⊥
not-small vs e f = let s = small-test vs f in cc

pub small-append : (us vs : List ℕ) → Small (us ++ vs) ↔ (Small us × Small vs)
small-append [] vs = (λ f. (tt, f), λ f. f.1)
small-append (u ∷ us) vs =
    let i = small-append us vs in
    (λ f. let g = i.0 f.1 in ((f.0, g.0), g.1), λ f. (f.0.0, i.1 (f.0.1, f.1)))
