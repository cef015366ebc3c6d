-- What an accepted packet adds to S: below the end nothing changes, and from the end up to its number each is passed over.
-- Assumes nothing.
use Prim.Native.Nat.{ℕ, zero, suc, ◌+◌, ◌-◌, ◌≤◌, ◌<◌, max, min}
use mathlib.Core.Path.{◌≡◌, refl, sym, ap, ◌∙◌}
use mathlib.Core.Bool.{Bool, true, false, not, ◌&&◌, ◌||◌, and-true, and-false, false≢true}
use mathlib.Core.List.{List, [], ◌∷◌}
use mathlib.Core.Logic.{⊎_elim}
use native.Mathlib.Omega.{arith}
use native.Mathlib.Nat.{add-zero, add-suc, le_refl}
use lib.Dec.{ltb}
use borrow.Author.Tests.{ltb-true, ltb-false}
use Rattle.promises.specs.Accepted.{one_if, Packet}
use Rattle.promises.specs.Told.{largest, among}
use Rattle.promises.specs.Passed.{count, passes, passed, passed_over, PassedBetween}
use Rattle.promises.proofs.Truth.{either, both_left}
use Rattle.promises.proofs.Packets.{none_above}
use Rattle.promises.proofs.Passed.{missing-passed}

passed-under : (ps : List Packet) (m : ℕ) → passed ps m ≡ true → m < largest ps
unfolding passed largest
passed-under [] m h = absurd (false≢true h)
passed-under (p ∷ ps) m h =
    ⊎_elim
    (λ q. omega (arith, passed-under ps m q))
    (λ q. omega (arith, ltb-true m p.number (both_left (ltb m p.number) (not (among ps m)) q)))
    (either (passed ps m) (passes p ps m) h)

module _ (p : Packet) (ps : List Packet) where
  -- the test at m with p: as before below the end; between the end and p it holds
  old-same : (m : ℕ) → m < largest ps → passed (p ∷ ps) m ≡ passed ps m
  unfolding passed
  old-same m l = go (passed ps m) refl (among ps m) refl
    where
      go : (a : Bool) → passed ps m ≡ a → (b : Bool) → among ps m ≡ b → (a || (ltb m p.number && not b)) ≡ a
      go true e b q = refl
      go false e false q = absurd (false≢true (sym e ∙ missing-passed ps m l q))
      go false e true q = and-false (ltb m p.number)

  new-same : (m : ℕ) → largest ps ≤ m → passed (p ∷ ps) m ≡ ltb m p.number
  unfolding passed
  new-same m l = go (passed ps m) refl
    where
      go : (a : Bool) → passed ps m ≡ a → (a || (ltb m p.number && not (among ps m))) ≡ ltb m p.number
      go true e = let h : m < largest ps = passed-under ps m e in absurd (omega arith)
      go false e = rw (none_above ps m l) (and-true (ltb m p.number))

  counted-old : (b : ℕ) → b ≤ largest ps → count (passed (p ∷ ps)) b ≡ count (passed ps) b
  unfolding count
  counted-old zero l = refl
  counted-old (suc b) l = omega (arith, counted-old b (omega arith), ap one_if (old-same b l))

  counted-new : (d : ℕ) → count (passed (p ∷ ps)) (largest ps + d) ≡ passed_over ps + min d (p.number - largest ps)
  unfolding count passed_over
  counted-new zero = rw add-zero (omega (arith, counted-old (largest ps) (le_refl (largest ps))))
  counted-new (suc d) = rw add-suc (go (ltb (largest ps + d) p.number) refl (counted-new d))
    where
      go :
          (b : Bool) → ltb (largest ps + d) p.number ≡ b
          → count (passed (p ∷ ps)) (largest ps + d) ≡ count (passed ps) (largest ps) + min d (p.number - largest ps)
          → count (passed (p ∷ ps)) (largest ps + d) + one_if (passed (p ∷ ps) (largest ps + d)) ≡ count (passed ps) (largest ps) + min (suc d) (p.number - largest ps)
      go true t ih =
          let l : largest ps + d < p.number = ltb-true (largest ps + d) p.number t in
          omega (arith, ap one_if (new-same (largest ps + d) (omega arith) ∙ t))
      go false t ih =
          let l : p.number ≤ largest ps + d = ltb-false (largest ps + d) p.number t in
          omega (arith, ap one_if (new-same (largest ps + d) (omega arith) ∙ t))

-- what an accepted packet adds to S
pub passed-between : PassedBetween
unfolding passed_over largest
passed-between p ps =
    let e : max (largest ps) (p.number + 1) ≡ largest ps + (p.number + 1 - largest ps) = omega arith in
    rw e (counted-new p ps (p.number + 1 - largest ps) ∙ omega arith)
