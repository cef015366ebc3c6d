-- The numbers of which something holds: the first, all of them, and whether there is none, as a search passes over numbers.
-- Assumes nothing.
use Prim.Native.Nat.{ℕ, zero, suc, ◌+◌, ◌-◌, ◌≤◌, ◌<◌}
use mathlib.Core.Path.{◌≡◌, refl, sym, ap, ap₂, ◌∙◌}
use mathlib.Core.Bool.{Bool, true, false}
use mathlib.Core.List.{List, [], ◌∷◌}
use native.Mathlib.Nat.{add-zero, add-suc, suc-add, not-suc-le-zero}
use native.Mathlib.Omega.{arith}
use borrow.Author.Tests.{lt-ltb, le-ltb, ltb-true, ltb-false}
use lib.Dec.{ltb}
use lib.ListN.{length, take, set, length-set}
use lib.Seq.{take-nil}
use Rattle.std.specs.Prelude.{Option, Some, None}
use Rattle.wire.specs.Bytes.{pick, splice}
use Rattle.wire.proofs.Bytes.{store, splice-none}
use Rattle.marks.specs.Marks.{listed, first_in, found_below, none_in}

module _ (p : ℕ → Bool) where
  -- ---- the first

  pub first-stop : (k n : ℕ) → k ≡ 0 → first_in p k n ≡ n
  unfolding first_in
  first-stop k n e = ap (λ (m : ℕ). first_in p m n) e

  pub first-hit : (k n : ℕ) → 0 < k → p n ≡ true → first_in p k n ≡ n
  unfolding first_in
  first-hit zero n h e = absurd (not-suc-le-zero h)
  first-hit (suc k) n h e = rw e

  pub first-skip : (t k n : ℕ) → t ≤ k → ((q : ℕ) → q < t → p (n + q) ≡ false) → first_in p k n ≡ first_in p (k - t) (n + t)
  unfolding first_in
  first-skip zero k n h f =
      let e : n ≡ n + 0 = omega arith in
      let d : k ≡ k - 0 = omega arith in
      ap₂ (first_in p) d e
  first-skip (suc t) zero n h f = absurd (not-suc-le-zero h)
  first-skip (suc t) (suc k) n h f =
      let z : p n ≡ false = ap p (sym (add-zero n)) ∙ f 0 (omega arith) in
      let e : suc n + t ≡ n + suc t = omega arith in
      let d : k - t ≡ suc k - suc t = omega arith in
      rw z (first-skip t k (suc n) (omega arith) (λ q l. ap p (suc-add n q ∙ sym (add-suc n q)) ∙ f (suc q) (omega arith)) ∙ ap₂ (first_in p) d e)

  pub first-none : (k n : ℕ) → ((q : ℕ) → q < k → p (n + q) ≡ false) → first_in p k n ≡ n + k
  first-none k n f = first-skip k k n (omega arith) f ∙ first-stop (k - k) (n + k) (omega arith)

  -- what the first says of those before it, and of itself
  pub first-least : (k n : ℕ) → n ≤ first_in p k n
  unfolding first_in
  first-least zero n = omega arith
  first-least (suc k) n = go (p n) (first-least k (suc n))
    where
      go : (b : Bool) → suc n ≤ first_in p k (suc n) → n ≤ pick b n (first_in p k (suc n))
      go true h = omega arith
      go false h = omega arith

  pub first-most : (k n : ℕ) → first_in p k n ≤ n + k
  unfolding first_in
  first-most zero n = omega arith
  first-most (suc k) n = go (p n) (first-most k (suc n))
    where
      go : (b : Bool) → first_in p k (suc n) ≤ suc n + k → pick b n (first_in p k (suc n)) ≤ n + suc k
      go true h = omega arith
      go false h = omega arith

  pub first-before : (k n q : ℕ) → n ≤ q → q < first_in p k n → p q ≡ false
  unfolding first_in
  first-before zero n q h l = absurd (omega arith)
  first-before (suc k) n q h l = go (first-before k (suc n) q) (p n) refl l
    where
      same : (suc n ≤ q → q < first_in p k (suc n) → p q ≡ false) → p n ≡ false → q < first_in p k (suc n) → (d : ℕ) → q - n ≡ d → p q ≡ false
      same f e m zero z = let i : q ≡ n = omega arith in ap p i ∙ e
      same f e m (suc d) z = f (omega arith) m

      go : (suc n ≤ q → q < first_in p k (suc n) → p q ≡ false) → (b : Bool) → p n ≡ b → q < pick b n (first_in p k (suc n)) → p q ≡ false
      go f true e m = absurd (omega arith)
      go f false e m = same f e m (q - n) refl

  pub first-has : (k n : ℕ) → first_in p k n < n + k → p (first_in p k n) ≡ true
  unfolding first_in
  first-has zero n l = absurd (omega arith)
  first-has (suc k) n l = go (first-has k (suc n)) (p n) refl l
    where
      go : (first_in p k (suc n) < suc n + k → p (first_in p k (suc n)) ≡ true) → (b : Bool) → p n ≡ b → pick b n (first_in p k (suc n)) < n + suc k
          → p (pick b n (first_in p k (suc n))) ≡ true
      go f true e m = e
      go f false e m = f (omega arith)

  -- ---- all of them

  pub list-none : (k n : ℕ) → n + k ≤ first_in p k n → listed p k n ≡ []
  unfolding listed first_in
  list-none zero n h = refl
  list-none (suc k) n h = go (list-none k (suc n)) (p n) h
    where
      go : (suc n + k ≤ first_in p k (suc n) → listed p k (suc n) ≡ []) → (b : Bool) → n + suc k ≤ pick b n (first_in p k (suc n))
          → pick b (n ∷ listed p k (suc n)) (listed p k (suc n)) ≡ []
      go f true m = absurd (omega arith)
      go f false m = f (omega arith)

  -- the first, and those after it
  From : ℕ → ℕ → ℕ → List ℕ
  From k n f = f ∷ listed p (n + k - suc f) (suc f)

  pub list-some : (k n : ℕ) → first_in p k n < n + k → listed p k n ≡ first_in p k n ∷ listed p (n + k - suc (first_in p k n)) (suc (first_in p k n))
  unfolding listed first_in From
  list-some zero n h = absurd (omega arith)
  list-some (suc k) n h = go (list-some k (suc n)) (p n) h
    where
      go : (first_in p k (suc n) < suc n + k → listed p k (suc n) ≡ From k (suc n) (first_in p k (suc n))) → (b : Bool) → pick b n (first_in p k (suc n)) < n + suc k
          → pick b (n ∷ listed p k (suc n)) (listed p k (suc n)) ≡ From (suc k) n (pick b n (first_in p k (suc n)))
      go f true m = let i : k ≡ n + suc k - suc n = omega arith in ap (λ (j : ℕ). n ∷ listed p j (suc n)) i
      go f false m =
          let g : ℕ = first_in p k (suc n) in
          let i : suc n + k - suc g ≡ n + suc k - suc g = omega arith in
          f (omega arith) ∙ ap (λ (j : ℕ). g ∷ listed p j (suc g)) i

  -- ---- none

  pub none-says : (k n q : ℕ) → none_in p k n ≡ true → n ≤ q → q < n + k → p q ≡ false
  unfolding none_in
  none-says zero n q h l m = absurd (omega arith)
  none-says (suc k) n q h l m = go (none-says k (suc n) q) (p n) refl h
    where
      same : (none_in p k (suc n) ≡ true → suc n ≤ q → q < suc n + k → p q ≡ false) → p n ≡ false → none_in p k (suc n) ≡ true → (d : ℕ) → q - n ≡ d → p q ≡ false
      same f e t zero z = let i : q ≡ n = omega arith in ap p i ∙ e
      same f e t (suc d) z = f t (omega arith) (omega arith)

      go : (none_in p k (suc n) ≡ true → suc n ≤ q → q < suc n + k → p q ≡ false) → (b : Bool) → p n ≡ b → pick b false (none_in p k (suc n)) ≡ true → p q ≡ false
      go f true e t = let z : ◌≡◌ {A = ℕ} 0 1 = cc in absurd (omega arith)
      go f false e t = same f e t (q - n) refl

  pub none_is : (k n : ℕ) → ((q : ℕ) → n ≤ q → q < n + k → p q ≡ false) → none_in p k n ≡ true
  unfolding none_in
  none_is zero n f = refl
  none_is (suc k) n f = rw (f n (omega arith) (omega arith)) (none_is k (suc n) (λ q l m. f q (omega arith) (omega arith)))

  pub none-stop : (k n : ℕ) → 0 < k → p n ≡ true → none_in p k n ≡ false
  unfolding none_in
  none-stop zero n h e = absurd (not-suc-le-zero h)
  none-stop (suc k) n h e = rw e

  pub none-next : (k n : ℕ) → 0 < k → p n ≡ false → none_in p k n ≡ none_in p (k - 1) (n + 1)
  unfolding none_in
  none-next zero n h e = absurd (not-suc-le-zero h)
  none-next (suc k) n h e =
      let i : suc n ≡ n + 1 = omega arith in
      let j : k ≡ suc k - 1 = omega arith in
      rw e (ap₂ (none_in p) j i)

-- two searches over tests that agree
pub listed_same : (p q : ℕ → Bool) (k n : ℕ) → ((m : ℕ) → n ≤ m → m < n + k → p m ≡ q m) → listed p k n ≡ listed q k n
unfolding listed
listed_same p q zero n f = refl
listed_same p q (suc k) n f =
    rw (f n (omega arith) (omega arith), listed_same p q k (suc n) (λ m l h. f m (omega arith) (omega arith)))

-- a test is the other where each holds when the other does
pub same_test : (a b : Bool) → (a ≡ true → b ≡ true) → (b ≡ true → a ≡ true) → a ≡ b
same_test true b f g = sym (f refl)
same_test false true f g = g refl
same_test false false f g = refl

-- ---- as a search tells it: r is what is found from at on and below to

pub none-below : (to n : ℕ) → to ≤ n → None ≡ found_below to n
none-below to n h = rw (le-ltb n to h) refl

pub some-below : (to n r : ℕ) → n < to → r ≡ n → Some r ≡ found_below to n
some-below to n r h e = rw (e, lt-ltb n to h) refl

below-none : (to n : ℕ) → found_below to n ≡ None → to ≤ n
below-none to n = go (ltb n to) refl
  where
    go : (b : Bool) → ltb n to ≡ b → pick b (Some n) None ≡ None → to ≤ n
    go true e f = let z : ◌≡◌ {A = ℕ} 0 1 = cc in absurd (omega arith)
    go false e f = let h = ltb-false n to e in omega arith

below-some : (to n r : ℕ) → found_below to n ≡ Some r → (r ≡ n) × (n < to)
below-some to n r = go (ltb n to) refl
  where
    go : (b : Bool) → ltb n to ≡ b → pick b (Some n) None ≡ Some r → (r ≡ n) × (n < to)
    go true e f = (cc, ltb-true n to e)
    go false e f = let z : ◌≡◌ {A = ℕ} 0 1 = cc in absurd (omega arith)

module _ (p : ℕ → Bool) (at to : ℕ) {o : Option ℕ} (e : o ≡ found_below to (first_in p (to - at) at)) where
  pub none_more : o ≡ None → listed p (to - at) at ≡ []
  none_more t =
      let l = below-none to (first_in p (to - at) at) (sym e ∙ t) in
      list-none p (to - at) at (omega (arith, l, first-least p (to - at) at))

  module _ {r : ℕ} (t : o ≡ Some r) where
    pub found-below : r < to
    found-below = let f = below-some to (first_in p (to - at) at) r (sym e ∙ t) in omega (arith, f.0, f.1)

    pub found-least : at ≤ r
    found-least = let f = below-some to (first_in p (to - at) at) r (sym e ∙ t) in omega (arith, f.0, first-least p (to - at) at)

    pub one_more : listed p (to - at) at ≡ r ∷ listed p (to - (r + 1)) (r + 1)
    one_more =
        let f : ℕ = first_in p (to - at) at in
        let s = below-some to f r (sym e ∙ t) in
        let l : at ≤ f = first-least p (to - at) at in
        let d : at + (to - at) - suc f ≡ to - (r + 1) = omega (arith, s.0, s.1) in
        let g : suc f ≡ r + 1 = omega (arith, s.0) in
        list-some p (to - at) at (omega (arith, s.1)) ∙ rw (d, g, ← s.0) refl

-- ---- as a list is written: xs with as many of the numbers l, which are still to write, as fit from i on

abbrev pub fitted : List ℕ → ℕ → List ℕ → List ℕ
fitted xs i l = splice xs i (take (length xs - i) l)

pub none-to-write : (xs l : List ℕ) (i : ℕ) → l ≡ [] → xs ≡ fitted xs i l
none-to-write xs l i e = sym (ap (λ (k : List ℕ). fitted xs i k) e ∙ ap (splice xs i) (take-nil (length xs - i)) ∙ splice-none xs i)

pub wrote_one : (xs l more : List ℕ) (i a : ℕ) → i < length xs → l ≡ a ∷ more → fitted (set xs i a) (i + 1) more ≡ fitted xs i l
wrote_one xs l more i a h e =
    let n : length xs - i ≡ suc (length xs - (i + 1)) = omega arith in
    ap (λ (k : ℕ). splice (set xs i a) (i + 1) (take (k - (i + 1)) more)) (length-set xs i a)
    ∙ store xs (take (length xs - (i + 1)) more) i (i + 1) a refl h
    ∙ sym (ap (λ (k : List ℕ). fitted xs i k) e ∙ ap (λ (k : ℕ). splice xs i (take k (a ∷ more))) n)
