-- `report::empty_header` meets its contract: every field's default is 0.
-- Assumes nothing.
use Prim.Native.Nat.{ℕ, zero, suc, ◌<◌, zero-le, suc-le-suc}
use mathlib.Core.Path.{◌≡◌, refl}
use mathlib.Core.List.{List, [], ◌∷◌}
use native.Mathlib.Omega.{arith}
use lib.ListN.{length, get_or}
use Rattle.report.specs.Header.{each, empty_header}
use Rattle.report.proofs.headers.empty_header.Goals as goal

zeros : (n j : ℕ) (xs : List ℕ) → length xs ≡ n → ((i d : ℕ) → i < n → get_or xs i d ≡ 0) → xs ≡ each n j (λ i. 0)
zeros zero j [] l f = refl
zeros zero j (x ∷ xs) l f = absurd (omega arith)
zeros (suc n) j [] l f = absurd (omega arith)
zeros (suc n) j (x ∷ xs) l f = rw (f 0 0 (suc-le-suc zero-le), ← (zeros n (suc j) xs (omega arith) (λ i d h. f (suc i) d (suc-le-suc h)))) refl

pub returns : goal.returns
unfolding empty_header
returns c = let e = c.default.ensures in λ i. record {
  timestamp = e.0 i;
  interval = e.1.0 i;
  total = e.1.1.0 i;
  received = e.1.1.1.0 i;
  late = e.1.1.1.1.0 i;
  lost = e.1.1.1.1.1.0 i;
  average = e.1.1.1.1.1.1.0 i;
  metrics = e.1.1.1.1.1.1.1.0 i;
  kinds = zeros 8 0 _ e.1.1.1.1.1.1.1.1.0.long (λ j d h. e.1.1.1.1.1.1.1.1.0.at j d h) i;
  values = zeros 8 0 _ e.1.1.1.1.1.1.1.1.1.0.long (λ j d h. e.1.1.1.1.1.1.1.1.1.0.at j d h) i;
  entries = e.1.1.1.1.1.1.1.1.1.1 i;
}
