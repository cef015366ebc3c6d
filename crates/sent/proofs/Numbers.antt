-- The numbers of a record: how large they are where they agree.
-- Assumes nothing.
use Prim.Native.Nat.{ℕ, ◌+◌, ◌-◌, ◌≤◌}
use mathlib.Core.Path.{◌≡◌, refl}
use mathlib.Core.Bool.{Bool, true, false, ◌&&◌}
use native.Mathlib.Omega.{arith}
use borrow.Author.Tests.{eqb-true, leb-true}
use lib.Dec.{leb}
use Rattle.wire.specs.Numbers.{limit}
use Rattle.sent.specs.Record.{numbers_agree}

-- both tests hold
pub left : (a b : Bool) → (a && b) ≡ true → a ≡ true
left true b h = refl
left false b h = h

pub right : (a b : Bool) → (a && b) ≡ true → b ≡ true
right true b h = h
right false b h = absurd (let z : ◌≡◌ {A = ℕ} 0 1 = cc in omega arith)

-- how large they are
pub record Small (next end acked lost : ℕ) : Type 0 where
  pub most : next ≤ limit + 1
  pub sent : end ≤ next
  pub totals : acked + lost ≡ next - 1024

pub agree-says : (next end acked lost : ℕ) → numbers_agree next end acked lost ≡ true → Small next end acked lost
agree-says next end acked lost e = record {
  most = leb-true next (limit + 1) (left (leb next (limit + 1)) _ (left _ _ e));
  sent = leb-true end next (right (leb next (limit + 1)) _ (left _ _ e));
  totals = eqb-true (acked + lost) (next - 1024) (right (leb next (limit + 1) && leb end next) _ e);
}
