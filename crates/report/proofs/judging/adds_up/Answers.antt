-- `report::adds_up` meets its contract: taking the parts away one by one leaves the last exactly where the sum is the total.
-- Assumes nothing.
use Prim.Native.Nat.{ℕ, ◌+◌, ◌-◌, ◌≤◌}
use mathlib.Core.Path.{◌≡◌, refl, sym}
use mathlib.Core.Bool.{Bool, true, false}
use native.Mathlib.Omega.{arith}
use borrow.Author.Tests.{eq-eqb, ne_eqb, eqb-true, eqb-false}
use lib.Dec.{eqb}
use Rattle.report.proofs.judging.adds_up.Goals as goal

same : (t r l k : ℕ) → r ≤ t → l ≤ t - r → eqb (t - r - l) k ≡ eqb t (r + l + k)
same t r l k p q = go (eqb (t - r - l) k) refl
  where
    go : (b : Bool) → eqb (t - r - l) k ≡ b → b ≡ eqb t (r + l + k)
    go true e = let f : t - r - l ≡ k = eqb-true (t - r - l) k e in sym (eq-eqb t (r + l + k) (omega arith))
    go false e = let f : t - r - l ≡ k → ⊥ = eqb-false (t - r - l) k e in sym (ne_eqb t (r + l + k) (λ g. f (omega arith)))

pub returns-then-total-received : goal.returns-then-total-received
returns-then-total-received c = let a = c.args in sym (ne_eqb a.total (a.received + a.late + a.lost) (λ e. omega arith))

pub returns-then-rest-late : goal.returns-then-rest-late
returns-then-rest-late c = let a = c.args in sym (ne_eqb a.total (a.received + a.late + a.lost) (λ e. omega arith))

pub returns : goal.returns
returns c = let a = c.args in same a.total a.received a.late a.lost (omega arith) (omega arith)
