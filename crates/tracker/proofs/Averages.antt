-- The average of the paper, by sorted gaps, is the one that the code works out from the spread and the number of arrivals.
-- Assumes nothing.
use Prim.Native.Nat.{ℕ, suc, ◌+◌, ◌≤◌, max, min}
use mathlib.Core.Path.{◌≡◌, refl, sym, ap, ◌∙◌}
use mathlib.Core.List.{List, [], ◌∷◌}
use native.Mathlib.Nat.{max-eq_left, max-eq_right}
use native.Mathlib.Omega.{arith}
use borrow.Author.Tests.{le-leb, lt-leb}
use lib.ListN.{length}
use Rattle.wire.proofs.Lengths.{split}
use Rattle.tracker.specs.Average.{insert, in_order, gaps_of}

-- ---- times in order: the gaps add up to the last less the first

-- the last of x and those after it
abbrev pub last_of : ℕ → List ℕ → ℕ
last_of x [] = x
last_of x (y ∷ ys) = last_of y ys

-- each is at least the one before it
abbrev pub Rising : ℕ → List ℕ → Type 0
Rising x [] = Unit
Rising x (y ∷ ys) = (x ≤ y) × Rising y ys

abbrev pub sum : List ℕ → ℕ
sum [] = 0
sum (x ∷ xs) = x + sum xs

pub gaps-sum : (x : ℕ) (xs : List ℕ) → Rising x xs → sum (gaps_of (x ∷ xs)) + x ≡ last_of x xs
unfolding gaps_of
gaps-sum x [] h = omega arith
gaps-sum x (y ∷ ys) h = omega (arith, h.0, gaps-sum y ys h.1)

pub gaps-many : (x : ℕ) (xs : List ℕ) → length (gaps_of (x ∷ xs)) ≡ length xs
unfolding gaps_of
gaps-many x [] = refl
gaps-many x (y ∷ ys) = ap suc (gaps-many y ys)

pub first-least : (x : ℕ) (xs : List ℕ) → Rising x xs → x ≤ last_of x xs
first-least x [] h = omega arith
first-least x (y ∷ ys) h = omega (arith, h.0, first-least y ys h.1)

-- ---- one time put in its place

insert-rising : (t x : ℕ) (xs : List ℕ) → x ≤ t → Rising x xs → Rising x (insert t xs)
unfolding insert
insert-rising t x [] h r = (h, tt)
insert-rising t x (y ∷ ys) h r =
    split t y
    (λ l. rw (le-leb t y l) (h, (l, r.1)))
    (λ l. rw (lt-leb t y l) (r.0, insert-rising t y ys (omega arith) r.1))

insert-last : (t x : ℕ) (xs : List ℕ) → x ≤ t → Rising x xs → last_of x (insert t xs) ≡ max t (last_of x xs)
unfolding insert
insert-last t x [] h r = sym (max-eq_left h)
insert-last t x (y ∷ ys) h r =
    split t y
    (λ l. rw (le-leb t y l) (sym (max-eq_right (omega (arith, first-least y ys r.1)))))
    (λ l. rw (lt-leb t y l) (insert-last t y ys (omega arith) r.1))

insert-long : (t : ℕ) (xs : List ℕ) → length (insert t xs) ≡ suc (length xs)
unfolding insert
insert-long t [] = refl
insert-long t (x ∷ xs) =
    split t x
    (λ l. rw (le-leb t x l))
    (λ l. rw (lt-leb t x l) (ap suc (insert-long t xs)))

-- ---- all of them: the highest and the lowest

abbrev pub highest : List ℕ → ℕ
highest [] = 0
highest (t ∷ ts) = max t (highest ts)

abbrev pub lowest : ℕ → List ℕ → ℕ
lowest most [] = most
lowest most (t ∷ ts) = min t (lowest most ts)

-- the times t and ts in order
pub record Sorted (t : ℕ) (ts : List ℕ) : Type 0 where
  pub first : ℕ
  pub others : List ℕ
  pub is : in_order (t ∷ ts) ≡ first ∷ others
  pub many : length others ≡ length ts
  pub rising : Rising first others
  pub last : last_of first others ≡ highest (t ∷ ts)
  pub least : (most : ℕ) → min most first ≡ lowest most (t ∷ ts)

-- t before the others, or among them
put : (t u : ℕ) (us : List ℕ) → Sorted u us → Sorted t (u ∷ us)
unfolding in_order insert
put t u us s =
    split t s.first
    (λ l. record {
      first = t;
      others = s.first ∷ s.others;
      is = ap (insert t) s.is ∙ rw (le-leb t s.first l);
      many = ap suc s.many;
      rising = (l, s.rising);
      last = s.last ∙ sym (max-eq_right (omega (arith, s.last, first-least s.first s.others s.rising)));
      least = λ most. omega (arith, s.least most);
    })
    (λ l. record {
      first = s.first;
      others = insert t s.others;
      is = ap (insert t) s.is ∙ rw (lt-leb t s.first l);
      many = insert-long t s.others ∙ ap suc s.many;
      rising = insert-rising t s.first s.others (omega arith) s.rising;
      last = insert-last t s.first s.others (omega arith) s.rising ∙ ap (max t) s.last;
      least = λ most. omega (arith, s.least most);
    })

pub sorted : (t : ℕ) (ts : List ℕ) → Sorted t ts
unfolding in_order insert
sorted t [] =
    record {
      first = t;
      others = [];
      is = refl;
      many = refl;
      rising = tt;
      last = omega arith;
      least = λ most. omega arith;
    }
sorted t (u ∷ us) = put t u us (sorted u us)
