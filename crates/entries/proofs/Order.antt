-- One law for comparing two records by group, then object: the test of the definition is the order.
-- Assumes nothing.
use Rattle.std.proofs.Common.{◌≡◌, ℕ, zero, suc, Bool, true, false, eqb, ltb, leb, refl, inl, inr, ⊎_elim, zero-le, arith, ltb-true, lt-ltb, eq-eqb, ne_eqb, eqb-true, le-leb, leb-true}
use Rattle.wire.specs.Bytes.{pick}
use Rattle.entries.specs.Entries.{at_or_above}
use Rattle.entries.specs.Exactly.{Below}

module _ (last object group object' : ℕ) where
  pub below : at_or_above last (suc object) group object' ≡ true → Below last object group object'
  below t = go (eqb group last) refl t
    where
      go : (b : Bool) → eqb group last ≡ b → pick b (leb (suc object) object') (ltb last group) ≡ true → Below last object group object'
      go true e t = let q = eqb-true group last e in let l = leb-true (suc object) object' t in inr (omega arith, omega arith)
      go false e t = inl (ltb-true last group t)

  pub above-below : Below last object group object' → at_or_above last (suc object) group object' ≡ true
  above-below b =
      ⊎_elim
      (λ h. rw (ne_eqb group last (λ e. omega arith), lt-ltb last group h))
      (λ h. let q : group ≡ last = omega (arith, h.0) in
      rw (eq-eqb group last q, le-leb (suc object) object' h.1))
      b

-- nothing comes before the first record
pub first_above : (group object : ℕ) → at_or_above 0 0 group object ≡ true
first_above zero object = le-leb 0 object zero-le
first_above (suc group) object = rw (ne_eqb (suc group) 0 (λ e. omega arith)) (lt-ltb 0 (suc group) (omega arith))
