-- Lists of the numbers of which something holds: in two parts, how often each stands there, that they rise, and how three such add up.
-- Assumes nothing.
use Prim.Native.Nat.{ℕ, zero, suc, ◌+◌, ◌-◌, ◌≤◌, ◌<◌}
use mathlib.Core.Path.{◌≡◌, refl, sym, ap, ap₂, ◌∙◌}
use mathlib.Core.Bool.{Bool, true, false}
use mathlib.Core.List.{List, [], ◌∷◌, ◌++◌}
use native.Mathlib.Nat.{suc-add, add-suc}
use native.Mathlib.Omega.{arith}
use borrow.Author.Tests.{ne_eqb, eqb-true, eqb-false}
use lib.Dec.{eqb}
use lib.ListN.{length, length-append}
use Rattle.wire.specs.Bytes.{pick}
use Rattle.marks.specs.Marks.{listed}
use Rattle.sent.specs.Record.{State, Outstanding, Acknowledged, Lost, is_acknowledged, is_lost}
use Rattle.losses.specs.Told.{is_out, count_of, times, Rises}

pub listed-split : (p : ℕ → Bool) (k m n : ℕ) → listed p (k + m) n ≡ listed p k n ++ listed p m (n + k)
unfolding listed
listed-split p zero m n =
    let a : 0 + m ≡ m = omega arith in
    let b : n ≡ n + 0 = omega arith in
    ap₂ (listed p) a b
listed-split p (suc k) m n =
    ap (λ (j : ℕ). listed p j n) (suc-add k m) ∙ go (p n) (listed-split p k m (suc n) ∙ ap (λ (j : ℕ). listed p k (suc n) ++ listed p m j) (suc-add n k ∙ sym (add-suc n k)))
  where
    go : (b : Bool) → listed p (k + m) (suc n) ≡ listed p k (suc n) ++ listed p m (n + suc k)
        → pick b (n ∷ listed p (k + m) (suc n)) (listed p (k + m) (suc n)) ≡ pick b (n ∷ listed p k (suc n)) (listed p k (suc n)) ++ listed p m (n + suc k)
    go true e = ap (λ (l : List ℕ). n ∷ l) e
    go false e = e

pub count_none : (is : State → Bool) (f : ℕ → State) → count_of is f 0 ≡ 0
unfolding listed
count_none is f = refl

-- one number more
pub count_next : (is : State → Bool) (f : ℕ → State) (k : ℕ) → count_of is f (k + 1) ≡ count_of is f k + pick (is (f k)) 1 0
unfolding listed
count_next is f k =
    ap length (listed-split (λ n. is (f n)) k 1 0) ∙ length-append (listed (λ n. is (f n)) k 0) (listed (λ n. is (f n)) 1 (0 + k))
    ∙ ap (λ (x : ℕ). count_of is f k + x) (ap (λ (j : ℕ). length (listed (λ n. is (f n)) 1 j)) zero-plus ∙ go (is (f k)))
  where
    zero-plus : 0 + k ≡ k
    zero-plus = omega arith

    go : (b : Bool) → length (pick b (k ∷ []) []) ≡ pick b 1 0
    go true = refl
    go false = refl

-- those below m, and those from m on
pub count-parts : (is : State → Bool) (f : ℕ → State) (m k : ℕ) → m ≤ k → count_of is f k ≡ count_of is f m + length (listed (λ n. is (f n)) (k - m) m)
count-parts is f m k h =
    let e : k ≡ m + (k - m) = omega arith in
    let z : 0 + m ≡ m = omega arith in
    ap (λ (j : ℕ). count_of is f j) e ∙ ap length (listed-split (λ n. is (f n)) m (k - m) 0) ∙ length-append (listed (λ n. is (f n)) m 0) (listed (λ n. is (f n)) (k - m) (0 + m))
    ∙ ap (λ (j : ℕ). count_of is f m + length (listed (λ n. is (f n)) (k - m) j)) z

-- each number is in one of the three states
pub three_ways : (f : ℕ → State) (k n : ℕ)
    → length (listed (λ m. is_out (f m)) k n) + (length (listed (λ m. is_acknowledged (f m)) k n) + length (listed (λ m. is_lost (f m)) k n)) ≡ k
unfolding listed
three_ways f zero n = refl
three_ways f (suc k) n =
    go (f n) (listed (λ m. is_out (f m)) k (suc n)) (listed (λ m. is_acknowledged (f m)) k (suc n)) (listed (λ m. is_lost (f m)) k (suc n)) (three_ways f k (suc n))
  where
    go : (s : State) (o a l : List ℕ) → length o + (length a + length l) ≡ k → length (pick (is_out s) (n ∷ o) o) + (length (pick (is_acknowledged s) (n ∷ a) a) + length (pick (is_lost s) (n ∷ l) l)) ≡ suc k
    go Outstanding o a l e = omega arith
    go Acknowledged o a l e = omega arith
    go Lost o a l e = omega arith

-- ---- how often a number stands there

pub times_none : (m : ℕ) → times m [] ≡ 0
unfolding times
times_none m = refl

pub times-before : (p : ℕ → Bool) (k n m : ℕ) → m < n → times m (listed p k n) ≡ 0
unfolding listed times
times-before p zero n m h = refl
times-before p (suc k) n m h = go (p n) (times-before p k (suc n) m (omega arith))
  where
    go : (b : Bool) → times m (listed p k (suc n)) ≡ 0 → times m (pick b (n ∷ listed p k (suc n)) (listed p k (suc n))) ≡ 0
    go true e = ap₂ (λ (x : Bool) (y : ℕ). pick x 1 0 + y) (ne_eqb n m (λ q. absurd (omega arith))) e
    go false e = e

pub times-past : (p : ℕ → Bool) (k n m : ℕ) → n + k ≤ m → times m (listed p k n) ≡ 0
unfolding listed times
times-past p zero n m h = refl
times-past p (suc k) n m h = go (p n) (times-past p k (suc n) m (omega arith))
  where
    go : (b : Bool) → times m (listed p k (suc n)) ≡ 0 → times m (pick b (n ∷ listed p k (suc n)) (listed p k (suc n))) ≡ 0
    go true e = ap₂ (λ (x : Bool) (y : ℕ). pick x 1 0 + y) (ne_eqb n m (λ q. absurd (omega arith))) e
    go false e = e

pub times-in : (p : ℕ → Bool) (k n m : ℕ) → n ≤ m → m < n + k → times m (listed p k n) ≡ pick (p m) 1 0
unfolding listed times
times-in p zero n m h l = absurd (omega arith)
times-in p (suc k) n m h l = here (λ u. times-in p k (suc n) m u (omega arith)) (eqb n m) refl
  where
    this : (b : Bool) → times m (listed p k (suc n)) ≡ 0 → eqb n m ≡ true → times m (pick b (n ∷ listed p k (suc n)) (listed p k (suc n))) ≡ pick b 1 0
    this true e t = ap₂ (λ (x : Bool) (y : ℕ). pick x 1 0 + y) t e
    this false e t = e

    that : (b : Bool) → eqb n m ≡ false → times m (pick b (n ∷ listed p k (suc n)) (listed p k (suc n))) ≡ times m (listed p k (suc n))
    that true t = ap (λ (x : Bool). pick x 1 0 + times m (listed p k (suc n))) t ∙ omega arith
    that false t = refl

    here : (suc n ≤ m → times m (listed p k (suc n)) ≡ pick (p m) 1 0) → (c : Bool) → eqb n m ≡ c → times m (pick (p n) (n ∷ listed p k (suc n)) (listed p k (suc n))) ≡ pick (p m) 1 0
    here f true t = let e = eqb-true n m t in this (p n) (times-before p k (suc n) m (omega arith)) t ∙ ap (λ (x : ℕ). pick (p x) 1 0) e
    here f false t = let e = eqb-false n m t in that (p n) t ∙ f (up e)
      where
        up : (n ≡ m → ⊥) → suc n ≤ m
        up e = go (m - n) refl
          where
            go : (d : ℕ) → m - n ≡ d → suc n ≤ m
            go zero z = absurd (e (omega arith))
            go (suc d) z = omega arith

-- ---- they rise

pub none-rises : Rises []
unfolding Rises
none-rises = tt

Above : ℕ → List ℕ → Type 0
Above n [] = Unit
Above n (x ∷ xs) = n ≤ x

cons-rises : (n : ℕ) (l : List ℕ) → Above (suc n) l → Rises l → Rises (n ∷ l)
unfolding Above Rises
cons-rises n [] a r = tt
cons-rises n (x ∷ xs) a r = (a, r)

lower : (n : ℕ) (l : List ℕ) → Above (suc n) l → Above n l
unfolding Above
lower n [] a = tt
lower n (x ∷ xs) a = omega arith

listed_above : (p : ℕ → Bool) (k n : ℕ) → Above n (listed p k n)
unfolding listed Above
listed_above p zero n = tt
listed_above p (suc k) n = go (p n) (listed_above p k (suc n))
  where
    go : (b : Bool) → Above (suc n) (listed p k (suc n)) → Above n (pick b (n ∷ listed p k (suc n)) (listed p k (suc n)))
    go true a = omega arith
    go false a = lower n (listed p k (suc n)) a

pub listed-rises : (p : ℕ → Bool) (k n : ℕ) → Rises (listed p k n)
unfolding listed
listed-rises p zero n = none-rises
listed-rises p (suc k) n = go (p n) (listed-rises p k (suc n))
  where
    go : (b : Bool) → Rises (listed p k (suc n)) → Rises (pick b (n ∷ listed p k (suc n)) (listed p k (suc n)))
    go true r = cons-rises n (listed p k (suc n)) (listed_above p k (suc n)) r
    go false r = r
