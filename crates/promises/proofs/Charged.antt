-- Cause 3 is paid for: a missing number that the order line finds was passed over, and not paid for before.
-- Assumes nothing.
use Prim.Native.Nat.{ℕ, zero, suc, ◌+◌, ◌-◌, ◌≤◌, ◌<◌, min, max}
use mathlib.Core.Path.{◌≡◌, refl}
use mathlib.Core.Bool.{true, false, ◌||◌, false≢true}
use mathlib.Core.List.{List, ◌∷◌}
use mathlib.Core.Logic.{⊎_elim}
use native.Mathlib.Omega.{arith}
use native.Mathlib.Nat.{le-max_right}
use lib.Dec.{ltb}
use borrow.Author.Tests.{ltb-true, leb-true}
use Rattle.std.specs.Prelude.{Option, Some, None}
use Rattle.seen.specs.Received.{is_any}
use Rattle.promises.specs.Accepted.{Packet}
use Rattle.promises.specs.Told.{largest, among}
use Rattle.promises.specs.Order.{smallest_missing, far_below, order_of}
use Rattle.promises.proofs.Truth.{either}
use Rattle.promises.proofs.Order.{Found, found}
use Rattle.promises.proofs.Passed.{late, below, late-mono, late-new, below-mono, below_new}

module _ (floor : ℕ) (p : Packet) (ps : List Packet) (fresh : among ps p.number ≡ false) where
  n : ℕ
  n = p.number

  own_below : n < largest (p ∷ ps)
  unfolding largest n
  own_below = omega (arith, le-max_right (largest ps) (p.number + 1))

  -- R = 1: a number that came late, or one passed over from the earlier H up to this packet
  near : (highest : ℕ) → highest ≤ largest ps → (ltb (n + 1) highest || is_any (smallest_missing floor (p ∷ ps) highest n)) ≡ true
      → late ps + below ps highest + 1 ≤ late (p ∷ ps) + below (p ∷ ps) (max highest (n + 1))
  unfolding n
  near highest h o =
      ⊎_elim
      (λ q.
      let l : n + 1 < highest = ltb-true (n + 1) highest q in
      omega (arith, late-new p ps (omega arith) fresh, below-mono p ps {b = highest} {c = max highest (n + 1)} (omega arith)))
      (λ q. go (smallest_missing floor (p ∷ ps) highest n) refl q)
      (either (ltb (n + 1) highest) (is_any (smallest_missing floor (p ∷ ps) highest n)) o)
    where
      go : (x : Option ℕ) → smallest_missing floor (p ∷ ps) highest n ≡ x → is_any x ≡ true
          → late ps + below ps highest + 1 ≤ late (p ∷ ps) + below (p ∷ ps) (max highest (n + 1))
      go None e q = absurd (false≢true q)
      go (Some m) e q =
          let g : Found (p ∷ ps) highest n m = found floor (p ∷ ps) highest n m e in
          let a : highest ≤ m = g.least in
          let b : m < n = g.most in
          omega (arith, late-mono p ps, below_new p ps highest (max highest (n + 1)) m a (omega arith) (omega (arith, own_below)) g.missing)

  -- R from 2 up: a number that was not yet reported, at least R below U
  far : (reach acknowledged end : ℕ) → end ≤ largest (p ∷ ps)
      → far_below reach end (smallest_missing floor (p ∷ ps) (acknowledged - reach) (end - 1)) ≡ true
      → below ps (acknowledged - reach) + 1 ≤ below (p ∷ ps) (largest (p ∷ ps) - reach)
  far reach acknowledged end h o = go (smallest_missing floor (p ∷ ps) (acknowledged - reach) (end - 1)) refl o
    where
      go : (x : Option ℕ) → smallest_missing floor (p ∷ ps) (acknowledged - reach) (end - 1) ≡ x → far_below reach end x ≡ true
          → below ps (acknowledged - reach) + 1 ≤ below (p ∷ ps) (largest (p ∷ ps) - reach)
      go None e q = absurd (false≢true q)
      go (Some m) e q =
          let g : Found (p ∷ ps) (acknowledged - reach) (end - 1) m = found floor (p ∷ ps) (acknowledged - reach) (end - 1) m e in
          let a : m + reach ≤ end - 1 = leb-true (m + reach) (end - 1) q in
          let b : m < end - 1 = g.most in
          below_new p ps (acknowledged - reach) (largest (p ∷ ps) - reach) m g.least (omega arith) (omega arith) g.missing

  -- either way one number passed over more is charged; R = 0 charges none, for it never sets the cause
  pub rises :
      (r highest acknowledged end : ℕ)
      → highest ≤ largest ps
      → end ≤ largest (p ∷ ps)
      → order_of floor (p ∷ ps) r p.number highest acknowledged end ≡ true
      → (r ≤ 1 → late ps + below ps highest + 1 ≤ late (p ∷ ps) + below (p ∷ ps) (max highest (p.number + 1)))
      × (2 ≤ r → below ps (acknowledged - min r 1023) + 1 ≤ below (p ∷ ps) (largest (p ∷ ps) - min r 1023))
  unfolding order_of n
  rises zero highest acknowledged end hh hu o = absurd (false≢true o)
  rises (suc zero) highest acknowledged end hh hu o = (λ h. near highest hh o, λ h. absurd (omega arith))
  rises (suc (suc r)) highest acknowledged end hh hu o = (λ h. absurd (omega arith), λ h. far (min (suc (suc r)) 1023) acknowledged end hu o)
