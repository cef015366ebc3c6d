-- The ranges are exactly the maximal runs of received numbers: a chain of runs and gaps from L down, read off range by range, of what is reported.
-- Assumes nothing.
use Prim.Native.Nat.{ℕ, zero, suc, ◌+◌, ◌-◌, ◌*◌, ◌/◌, ◌≤◌, ◌<◌}
use mathlib.Core.Path.{◌≡◌, refl, sym, ap, ◌∙◌}
use mathlib.Core.Bool.{Bool, true, false, ◌&&◌}
use mathlib.Core.List.{List, [], ◌∷◌}
use native.Mathlib.Nat.{le-max_right}
use native.Mathlib.Omega.{arith}
use borrow.Author.Tests.{le-leb, leb-true}
use lib.Dec.{leb}
use lib.ListN.{length, get_or}
use Rattle.wire.proofs.Lengths.{split}
use Rattle.window.specs.Window.{value_of, is_set}
use Rattle.window.proofs.Laws.{run-says}
use Rattle.seen.specs.declared.Seen.{Seen}
use Rattle.seen.specs.Received.{floor, floor_of, received, reported}
use Rattle.ack.specs.Ack.{number_at, ranges}
use Rattle.ack.specs.Emits.{Received, RangesAreRuns}
use Rattle.ack.proofs.Ranges.{both, Begun, Bottom, bottom, missing, top, size, low, missing-pos, size-pos, top-sum, low_sum, first-top, down, down-none, down-some}
use Rattle.ack.proofs.Fitting.{first-bottom, first-down}
use Rattle.ack.proofs.Reporting.{begun-reported, received-reported}

-- ---- numbers and their places

-- a number of the window whose place is marked, below the record's own floor too
abbrev Marked : Seen → ℕ → Type 0
Marked s n = (floor_of s.end ≤ n) × (n < s.end) × (received s n ≡ true)

record Place (s : Seen) (n : ℕ) : Type 0 where
  at : ℕ
  sum : n + 1024 ≡ at + s.end
  within : at < 1024
  marked : is_set (value_of s.window) at ≡ true

module _ (s : Seen) where
  place_of : (n : ℕ) → Marked s n → Place s n
  place_of n r = record { at = n + 1024 - s.end; sum = omega (arith, r.0, r.1); within = omega (arith, r.0, r.1); marked = r.2 }

  received-at : (n q : ℕ) → n + 1024 ≡ q + s.end → q < 1024 → is_set (value_of s.window) q ≡ true → Marked s n
  received-at n q e l m = let f : n + 1024 - s.end ≡ q = omega arith in (omega arith, omega arith, rw f m)

  -- a number whose place is passed over as missing was not received
  not-missing : (p : ℕ) {n : ℕ} (r : Place s n) → top s p ≤ r.at → r.at < p → ⊥
  not-missing p r i j =
      let f : true ≡ false = sym r.marked ∙ (run-says false p (value_of s.window) (missing s p) refl).has r.at i j in
      let z : ◌≡◌ {A = ℕ} 0 1 = cc in omega arith

  -- a number whose place is in the run was
  in-run : (p n q : ℕ) → p ≤ 1024 → n + 1024 ≡ q + s.end → low s p ≤ q → q < top s p → Marked s n
  in-run p n q l e i j =
      received-at n q e (omega arith) ((run-says true (top s p) (value_of s.window) (size s p) refl).has q i j)

-- ---- runs and gaps, downwards: below `above` no number is received but those of the ranges, and between two ranges one is missing

data Falls (s : Seen) : ℕ → List ℕ → Type 0 where
  over : {above : ℕ} → ((n : ℕ) → n < above → Marked s n → ⊥) → Falls s above []
  run : {above lo hi : ℕ} {l : List ℕ} → lo ≤ hi → hi + 2 ≤ above → ((n : ℕ) → hi < n → n < above → Marked s n → ⊥)
      → ((n : ℕ) → lo ≤ n → n ≤ hi → Marked s n) → Falls s lo l → Falls s above (lo ∷ hi ∷ l)

module _ {s : Seen} (b : Begun s) where
  number-sum : (p : ℕ) → 1024 ≤ p + s.end → number_at s.end p + 1024 ≡ p + s.end
  number-sum p h = omega arith

  -- the numbers of a run were received
  run-received : (p : ℕ) → p ≤ 1024 → 0 < top s p → (n : ℕ) → number_at s.end (low s p) ≤ n → n ≤ number_at s.end (top s p - 1) → Marked s n
  run-received p l h n i j =
      let x = number-sum (low s p) (bottom b p l h).inside in
      let z = low_sum s p h in
      let g = size-pos s p h in
      let y = number-sum (top s p - 1) (omega (arith, (bottom b p l h).inside)) in
      in-run s p n (n + 1024 - s.end) l (omega arith) (omega arith) (omega arith)

  -- those between a run and the place above it were not
  gap-missing : (p n : ℕ) → p ≤ 1024 → 0 < top s p → number_at s.end (top s p - 1) < n → n + 1024 < p + s.end → Marked s n → ⊥
  gap-missing p n l h i j r =
      let q = place_of s n r in
      let x = (bottom b p l h).inside in
      let z = low_sum s p h in
      let g = size-pos s p h in
      let y = number-sum (top s p - 1) (omega arith) in
      not-missing s p q (omega (arith, q.sum)) (omega (arith, q.sum))

  run-order : (p : ℕ) → p ≤ 1024 → 0 < top s p → number_at s.end (low s p) ≤ number_at s.end (top s p - 1)
  run-order p l h = omega (arith, low_sum s p h, size-pos s p h)

  -- and none is where nothing is left
  none_left : (p n : ℕ) → Bottom s p → top s p ≡ 0 → n < number_at s.end p → Marked s n → ⊥
  none_left p n u e i r =
      let q = place_of s n r in
      not-missing s p q (omega arith) (omega (arith, q.sum, number-sum p u.inside))

  next-gap : (p : ℕ) → Bottom s p → 0 < top s p → number_at s.end (top s p - 1) + 2 ≤ number_at s.end p
  next-gap p u h =
      let z = (bottom b p (omega (arith, u.below)) h).inside in
      let g = size-pos s p h in
      let m = low_sum s p h in
      omega (arith, top-sum s p h, missing-pos u (omega arith), number-sum p u.inside, number-sum (top s p - 1) (omega arith))

  more : (p : ℕ) → Bottom s p → 0 < top s p → Falls s (number_at s.end (low s p)) (down s (low s p)) → Falls s (number_at s.end p) (down s p)
  more p u h f =
      let l : p ≤ 1024 = omega (arith, u.below) in
      let a = number-sum p u.inside in
      rw (down-some s p l h)
      (run (run-order p l h) (next-gap p u h) (λ (n : ℕ) (i : number_at s.end (top s p - 1) < n) (j : n < number_at s.end p). gap-missing p n l h i (omega arith)) (run-received p l h) f)

  falls : (k p : ℕ) → p ≤ k → Bottom s p → Falls s (number_at s.end p) (down s p)
  falls zero p l u = rw (down-none s p (omega arith)) (over (λ (n : ℕ). none_left p n u (omega arith)))
  falls (suc k) p l u =
      split (top s p) 0
      (λ h. rw (down-none s p (omega arith)) (over (λ (n : ℕ). none_left p n u (omega arith))))
      (λ h. more p u h (falls k (low s p) (omega (arith, size-pos s p h)) (bottom b p (omega (arith, u.below)) h)))

  -- all of them, below the number after L
  whole : Falls s (s.end + 1) (ranges s)
  whole =
      let t = first-top b in
      let h : 0 < top s 1024 = omega arith in
      let l : 1024 ≤ 1024 = omega arith in
      let o = b.some in
      let g : number_at s.end (top s 1024 - 1) + 2 ≤ s.end + 1 = omega arith in
      rw (first-down b)
      (run (run-order 1024 l h) g
      (λ (n : ℕ) (i : number_at s.end (top s 1024 - 1) < n) (j : n < s.end + 1) (r : Marked s n). gap-missing 1024 n l h i (omega (arith, r.1)) r) (run-received 1024 l h) (falls 1024 (low s 1024) (omega (arith, (first-bottom b).below)) (first-bottom b)))

-- ---- range by range

module _ (x y : ℕ) (l : List ℕ) (i : ℕ) where
  evens : get_or (x ∷ y ∷ l) (2 * suc i) 0 ≡ get_or l (2 * i) 0
  evens = let e : 2 * suc i ≡ suc (suc (2 * i)) = omega arith in rw e

  odds : get_or (x ∷ y ∷ l) (2 * suc i + 1) 0 ≡ get_or l (2 * i + 1) 0
  odds = let e : 2 * suc i + 1 ≡ suc (suc (2 * i + 1)) = omega arith in rw e

record Item (s : Seen) (lo hi : ℕ) : Type 0 where
  holds : lo ≤ hi
  all : (n : ℕ) → lo ≤ n → n ≤ hi → Marked s n
  above : Marked s (hi + 1) → ⊥
  below : (n : ℕ) → n + 1 ≡ lo → Marked s n → ⊥

pairs_of : {s : Seen} {a : ℕ} {l : List ℕ} → Falls s a l → 2 * (length l / 2) ≡ length l
pairs_of (over f) = refl
pairs_of (run o g m r f) = omega (arith, pairs_of f)

below_of : {s : Seen} {a : ℕ} {l : List ℕ} → Falls s a l → (n : ℕ) → n + 1 ≡ a → Marked s n → ⊥
below_of (over f) n e r = f n (omega arith) r
below_of (run o g m x f) n e r = m n (omega arith) (omega arith) r

item : {s : Seen} {a : ℕ} {l : List ℕ} → Falls s a l → (i : ℕ) → i < length l / 2 → Item s (get_or l (2 * i) 0) (get_or l (2 * i + 1) 0)
item (over f) i h = absurd (omega arith)
item (run {hi = hi} o g m r f) zero h = record { holds = o; all = r; above = m (hi + 1) (omega arith) (omega arith); below = below_of f }
item (run {lo = lo} {hi = hi} {l = l} o g m r f) (suc i) h = rw (evens lo hi l i, odds lo hi l i) (item f i (omega arith))

newest-of : {s : Seen} {a : ℕ} {l : List ℕ} → Falls s a l → (i : ℕ) → i + 1 < length l / 2 → get_or l (2 * (i + 1) + 1) 0 + 2 ≤ get_or l (2 * i) 0
newest-of (over f) i h = absurd (omega arith)
newest-of (run o g m r (over f)) zero h = absurd (omega arith)
newest-of (run o g m r (run p k x y f)) zero h = k
newest-of (run {lo = lo} {hi = hi} {l = l} o g m r f) (suc i) h =
    let e : suc i + 1 ≡ suc (i + 1) = omega arith in
    rw (evens lo hi l i, e, odds lo hi l (i + 1)) (newest-of f i (omega arith))

all_of : {s : Seen} {a : ℕ} {l : List ℕ} → Falls s a l → (n : ℕ) → n < a → Marked s n
    → (i : ℕ) × (i < length l / 2) × (get_or l (2 * i) 0 ≤ n) × (n ≤ get_or l (2 * i + 1) 0)
all_of (over f) n h r = absurd (f n h r)
all_of (run {lo = lo} {hi = hi} {l = l} o g m x f) n h r =
    split n hi
    (λ i. split lo n
    (λ j. (0, omega arith, j, i))
    (λ j.
    let t = all_of f n j r in
    (suc t.0, omega (arith, t.1), rw (evens lo hi l t.0) t.2, rw (odds lo hi l t.0) t.3)))
    (λ i. absurd (m n i h r))

-- ---- of what is reported

-- the marks that are reported are those of the numbers from the floor up
is-received : (s : Seen) (n : ℕ) → Marked (reported s) n → Received s n
is-received s n (l, h, m) =
    let a = both (leb (floor s) n) (received s n) (sym (received-reported s n l h) ∙ m) in
    (leb-true (floor s) n a.0, h, a.1)

is-marked : (s : Seen) (n : ℕ) → Received s n → Marked (reported s) n
is-marked s n (l, h, m) =
    let f : floor_of s.end ≤ n = omega (arith, le-max_right s.confirmed (floor_of s.end)) in
    (f, h, received-reported s n f h ∙ ap (λ (b : Bool). b && received s n) (le-leb (floor s) n l) ∙ m)

pub ranges-are-runs : RangesAreRuns
ranges-are-runs s e h =
    let f = whole (begun-reported s e h) in
    record {
      pairs = pairs_of f;
      holds = λ i j. (item f i j).holds;
      run = λ i j n a b. is-received s n ((item f i j).all n a b);
      above = λ i j r. (item f i j).above (is-marked s _ r);
      below = λ i j n g r. (item f i j).below n g (is-marked s n r);
      newest = newest-of f;
      all = λ n r. all_of f n (omega (arith, r.1)) (is-marked s n r);
    }
