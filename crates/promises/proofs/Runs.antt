-- There is one list of maximal runs: a run of one list is a run of the other, and both go down, so that they agree run by run.
-- Assumes nothing.
use Prim.Native.Nat.{ℕ, zero, suc, ◌+◌, ◌-◌, ◌*◌, ◌/◌, ◌≤◌, ◌<◌}
use mathlib.Core.Path.{◌≡◌, sym, ap, ◌∙◌}
use mathlib.Core.List.{List}
use native.Mathlib.Nat.{le_refl}
use native.Mathlib.Omega.{arith}
use native.Mathlib.Numerals.{add-one}
use lib.ListN.{length, get_or}
use lib.Seq.{ext_get_or}
use Rattle.wire.proofs.Lengths.{split}
use Rattle.promises.specs.Sequence.{Calls}
use Rattle.promises.specs.Acknowledged.{smallest_at, largest_at, MaximalRuns, OneList}
use Rattle.promises.proofs.Truth.{by-same}

-- two runs with the same numbers
record Same (xs : List ℕ) (i : ℕ) (ys : List ℕ) (j : ℕ) : Type 0 where
  smallest : smallest_at xs i ≡ smallest_at ys j
  largest : largest_at xs i ≡ largest_at ys j

-- a later run lies below
below : {cs : Calls} {a : ℕ} {xs : List ℕ} → MaximalRuns cs a xs → (i j : ℕ) → i < j → j < a → largest_at xs j < smallest_at xs i
below v i zero l k = absurd (omega arith)
below {xs = xs} v i (suc j) l k =
    let next : largest_at xs (suc j) + 2 ≤ smallest_at xs j = rw (add-one j) at (v.newest j (omega arith)) in
    by-same i j
    (λ e. rw e (omega arith))
    (λ e. omega (arith, below v i j (omega (arith, e)) (omega arith), v.holds j (omega arith)))

-- a run of the one is a run of the other
matched : {cs : Calls} {a b : ℕ} {xs ys : List ℕ} → MaximalRuns cs a xs → MaximalRuns cs b ys → (i : ℕ) → i < a → (j : ℕ) × (j < b) × Same xs i ys j
matched {xs = xs} {ys = ys} v w i l =
    let top : ℕ = largest_at xs i in
    let f = w.all top (v.run i l top (v.holds i l) (le_refl top)) in
    let j : ℕ = f.0 in
    let k = f.1 in
    let low : smallest_at ys j ≤ top = f.2 in
    let high : top ≤ largest_at ys j = f.3 in (
      j,
      k,
      record {
        smallest =
            split (smallest_at ys j) (smallest_at xs i)
            (λ h. split (smallest_at xs i) (smallest_at ys j)
            (λ g. omega arith)
            (λ g. absurd (v.below i l (smallest_at xs i - 1) (omega arith) (w.run j k (smallest_at xs i - 1) (omega arith) (omega (arith, v.holds i l))))))
            (λ h. absurd (w.below j k (smallest_at ys j - 1) (omega arith) (v.run i l (smallest_at ys j - 1) (omega arith) (omega arith))));
        largest =
            split (largest_at ys j) top
            (λ h. omega arith)
            (λ h. absurd (v.above i l (w.run j k (top + 1) (omega arith) (omega arith))));
      },
    )

-- the k-th is the k-th, where all before it are
module _ {cs : Calls} {a b : ℕ} {xs ys : List ℕ} (v : MaximalRuns cs a xs) (w : MaximalRuns cs b ys) where
  next : (k : ℕ) → ((i : ℕ) → i < k → Same xs i ys i) → k < a → (k < b) × Same xs k ys k
  next k same l =
      let f = matched v w k l in
      let j : ℕ = f.0 in
      let s : Same xs k ys j = f.2 in
      split k j
      (λ h.
      let kb : k < b = omega (arith, f.1) in
      let g = matched w v k kb in
      let i : ℕ = g.0 in
      let r : Same ys k xs i = g.2 in
      by-same k j
      (λ e. (kb, rw (← e) at s))
      (λ e.
      let lower : largest_at ys j < smallest_at ys k = below w k j (omega (arith, e)) f.1 in
      absurd (split k i
      (λ t. by-same k i
      (λ c. let z : largest_at ys k ≡ largest_at xs k = rw (← c) at r.largest in omega (arith, s.largest, w.holds k kb))
      (λ c. omega (arith, below v k i (omega (arith, c)) g.1, r.largest, s.largest, v.holds k l, w.holds k kb)))
      (λ t. omega (arith, below w i k t kb, (same i t).largest, r.largest, w.holds k kb, (same i t).smallest, r.smallest)))))
      (λ h. absurd (omega (arith, below v j k h l, (same j h).largest, s.largest, v.holds k l, (same j h).smallest, s.smallest)))

  each : (n : ℕ) → n ≤ a → (i : ℕ) → i < n → (i < b) × Same xs i ys i
  each zero l i h = absurd (omega arith)
  each (suc k) l i h =
      by-same i k
      (λ e. rw e (next k (λ j t. (each k (omega arith) j t).1) l))
      (λ e. each k (omega arith) i (omega (arith, e)))

  no_more : a ≤ b
  no_more = split a b (λ h. h) (λ h. absurd (omega (arith, (each a (le_refl a) b h).0)))

pub one_list : OneList
one_list ps a b xs ys v w = ext_get_or 0 xs ys (omega (arith, no_more v w, no_more w v, v.pairs, w.pairs)) same
  where
    same : (p : ℕ) → p < length xs → get_or xs p 0 ≡ get_or ys p 0
    same p h =
        let i : ℕ = p / 2 in
        let s : Same xs i ys i = (each v w a (le_refl a) i (omega (arith, v.pairs))).1 in
        by-same p (2 * i)
        (λ e. ap (λ (k : ℕ). get_or xs k 0) e ∙ s.smallest ∙ ap (λ (k : ℕ). get_or ys k 0) (sym e))
        (λ e. let o : p ≡ 2 * i + 1 = omega (arith, e) in ap (λ (k : ℕ). get_or xs k 0) o ∙ s.largest ∙ ap (λ (k : ℕ). get_or ys k 0) (sym o))
