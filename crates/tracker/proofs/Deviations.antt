-- The sum of gaps less the interval each is the spread less as many intervals, and what it comes to when divided toward zero.
-- Assumes nothing.
use Prim.Native.Nat.{ℕ, suc, ◌+◌, ◌-◌, ◌*◌, ◌/◌, ◌%◌, ◌≤◌, ◌<◌}
use mathlib.Core.Path.{◌≡◌, sym, ap, ◌∙◌}
use mathlib.Core.List.{List, [], ◌∷◌}
use native.Mathlib.Nat.{add-mul, mul-suc, mul-le-mul_right, div-add-mod', mod-lt, mul-add-div_right, div-eq_of_lt, add-zero}
use native.Mathlib.Omega.{arith}
use borrow.Author.Tests.{le-leb, lt-leb, lt-ltb, le-ltb, eq-eqb, ne_eqb}
use lib.IntN.{pos, negsuc, neg_ℤ, sub_ℕ, ◌+ℤ◌}
use lib.ListN.{length}
use Rattle.wire.proofs.Lengths.{split}
use Rattle.tracker.specs.Average.{deviation, toward_zero}
use Rattle.tracker.specs.Counting.{rounded_up, mean_by}
use Rattle.tracker.proofs.Averages.{sum}

-- ---- differences of naturals

below : (a b : ℕ) → a < b → sub_ℕ a b ≡ negsuc (b - suc a)
below a b h = rw (lt-ltb a b h)

above : (a b : ℕ) → b ≤ a → sub_ℕ a b ≡ pos (a - b)
above a b h = rw (le-ltb a b h)

-- equal differences
same : (a b c d : ℕ) → a + d ≡ c + b → sub_ℕ a b ≡ sub_ℕ c d
same a b c d e =
    split b a
    (λ h. above a b h ∙ ap pos (omega arith) ∙ sym (above c d (omega arith)))
    (λ h. below a b h ∙ ap negsuc (omega arith) ∙ sym (below c d (omega arith)))

-- differences add up
add-up : (a b c d : ℕ) → sub_ℕ a b +ℤ sub_ℕ c d ≡ sub_ℕ (a + c) (b + d)
add-up a b c d =
    split b a
    (λ h. split d c
    (λ k. rw (le-ltb a b h, le-ltb c d k, le-ltb (a + c) (b + d) (omega arith)) (ap pos (omega arith)))
    (λ k. rw (le-ltb a b h, lt-ltb c d k) (same (a - b) (suc (d - suc c)) (a + c) (b + d) (omega arith))))
    (λ h. split d c
    (λ k. rw (lt-ltb a b h, le-ltb c d k) (same (c - d) (suc (b - suc a)) (a + c) (b + d) (omega arith)))
    (λ k. rw (lt-ltb a b h, lt-ltb c d k, lt-ltb (a + c) (b + d) (omega arith)) (ap negsuc (omega arith))))

pub deviation-sum : (interval : ℕ) (gaps : List ℕ) → deviation interval gaps ≡ sub_ℕ (sum gaps) (interval * length gaps)
unfolding deviation
deviation-sum interval [] = rw (le-ltb 0 (interval * 0) (omega arith)) (ap pos (omega arith))
deviation-sum interval (gap ∷ gaps) =
    ap (◌+ℤ◌ (sub_ℕ gap interval)) (deviation-sum interval gaps)
    ∙ add-up gap interval (sum gaps) (interval * length gaps)
    ∙ ap (sub_ℕ (gap + sum gaps)) (omega (arith, mul-suc interval (length gaps)))

-- ---- divided toward zero

quotient : (n k g rest : ℕ) → n ≡ k * g + rest → rest < g → n / g ≡ k
quotient n k g rest e h = rw (e, mul-add-div_right {m = g} (omega arith) k rest, div-eq_of_lt h) (add-zero k)

pub mean-is : (spread g interval : ℕ) → 0 < g → toward_zero (sub_ℕ spread (interval * g)) g ≡ (mean_by spread g interval)
unfolding mean_by
mean-is spread g interval h =
    let q : ℕ = spread / g in
    let m : ℕ = spread % g in
    let e : q * g + m ≡ spread = div-add-mod' spread g in
    let l : m < g = mod-lt spread h in
    rw (ne_eqb g 0 (λ z. absurd (omega arith)))
    (split interval q
    (λ k.
    let s : (q - interval + interval) * g ≡ (q - interval) * g + interval * g = add-mul (q - interval) interval g in
    let t : q - interval + interval ≡ q = omega arith in
    let u : q * g ≡ (q - interval) * g + interval * g = rw t at s in
    rw (le-leb interval q k, le-ltb spread (interval * g) (omega arith)) (ap pos (quotient (spread - interval * g) (q - interval) g m (omega arith) l)))
    (λ k.
    let b : (q + 1) * g ≤ interval * g = mul-le-mul_right {m = q + 1} {n = interval} g (omega arith) in
    let c : (q + 1) * g ≡ q * g + 1 * g = add-mul q 1 g in
    let w : suc (interval * g - suc spread) / g ≡ interval - rounded_up spread g =
    split m 0
    (λ z.
    let y : m ≡ 0 = omega arith in
    let s : (interval - q + q) * g ≡ (interval - q) * g + q * g = add-mul (interval - q) q g in
    let t : interval - q + q ≡ interval = omega arith in
    let u : interval * g ≡ (interval - q) * g + q * g = rw t at s in
    rw (eq-eqb m 0 y) (quotient (suc (interval * g - suc spread)) (interval - q) g 0 (omega arith) h))
    (λ z.
    let s : (interval - (q + 1) + (q + 1)) * g ≡ (interval - (q + 1)) * g + (q + 1) * g = add-mul (interval - (q + 1)) (q + 1) g in
    let t : interval - (q + 1) + (q + 1) ≡ interval = omega arith in
    let u : interval * g ≡ (interval - (q + 1)) * g + (q + 1) * g = rw t at s in
    rw (ne_eqb m 0 (λ y. absurd (omega arith))) (quotient (suc (interval * g - suc spread)) (interval - (q + 1)) g (g - m) (omega arith) (omega arith))) in
    rw (lt-leb interval q k, lt-ltb spread (interval * g) (omega arith)) (ap (λ (n : ℕ). neg_ℤ (pos n)) w)))
