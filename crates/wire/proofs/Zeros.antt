-- The shortest form by leading zeros: a number has 64 bits less its zeros, and a form of m bits holds it exactly where it has no more. Assumes nothing.
use Prim.Native.Nat.{ℕ, suc, ◌-◌, ◌^◌, ◌≤◌, ◌<◌}
use mathlib.Core.Path.{◌≡◌, refl, sym, ap, ◌∙◌}
use native.Mathlib.Nat.{lt_of_lt_of_le, pow-suc}
use native.Mathlib.Omega.{arith}
use borrow.Author.Tests.{le-leb, lt-leb}
use lib.Count.{count_leading_zeros, leading_length}
use lib.Pow.{pow_mono}
use Rattle.wire.specs.Numbers.{len_of, room_of, largest_of, limit, first_from, code_of, width_of}
use Rattle.wire.proofs.Lengths.{room-pos, code-large, width-found}

-- how many bits a number has
abbrev pub bits_of : ℕ → ℕ
bits_of v = 64 - count_leading_zeros 64 v

-- m bits or fewer
few_bits : (m v : ℕ) → v < 2 ^ 64 → bits_of v ≤ m → v < 2 ^ m
few_bits m v h z = let b = leading_length 64 v h in lt_of_lt_of_le b.2 (pow_mono (omega (arith, b.1)))

-- more than m
many-bits : (m v : ℕ) → v < 2 ^ 64 → m < bits_of v → 2 ^ m ≤ v
many-bits m v h z =
    let b = leading_length 64 v h in
    let l : 2 ^ suc m ≤ 2 ^ b.0 = pow_mono (omega (arith, b.1)) in
    omega (arith, pow-suc 2 m, b.3)

-- code k, whose form has m bits, holds v
holds : (k m v : ℕ) → room_of k ≡ 2 ^ m → v < 2 ^ 64 → bits_of v ≤ m → v ≤ largest_of k
holds k m v e h z = omega (arith, few_bits m v h z, room-pos k)

-- it does not
too_short : (k m v : ℕ) → room_of k ≡ 2 ^ m → v < 2 ^ 64 → m < bits_of v → largest_of k < v
too_short k m v e h z = omega (arith, many-bits m v h z, room-pos k)

-- the search over the codes goes on, or ends
on : (n k v : ℕ) → largest_of k < v → first_from (suc n) k v ≡ first_from n (suc k) v
unfolding first_from
on n k v h = rw (lt-leb v (largest_of k) h)

here : (n k v : ℕ) → v ≤ largest_of k → first_from (suc n) k v ≡ k
unfolding first_from
here n k v h = rw (le-leb v (largest_of k) h)

ended : (k v : ℕ) → first_from 0 k v ≡ k
unfolding first_from
ended k v = refl

-- 1, 2, 4 and 8 bytes hold 6, 14, 30 and 62 bits
module _ (v : ℕ) (h : v < 2 ^ 64) where
  past_one : 6 < bits_of v → code_of v ≡ first_from 3 1 v
  past_one z = on 3 0 v (too_short 0 6 v refl h z)

  past_two : 14 < bits_of v → code_of v ≡ first_from 2 2 v
  past_two z = past_one (omega arith) ∙ on 2 1 v (too_short 1 14 v refl h z)

  past-four : 30 < bits_of v → code_of v ≡ first_from 1 3 v
  past-four z = past_two (omega arith) ∙ on 1 2 v (too_short 2 30 v refl h z)

  pub one : bits_of v ≤ 6 → code_of v ≡ 0
  one z = here 3 0 v (holds 0 6 v refl h z)

  pub two : 6 < bits_of v → bits_of v ≤ 14 → code_of v ≡ 1
  two l z = past_one l ∙ here 2 1 v (holds 1 14 v refl h z)

  pub four : 14 < bits_of v → bits_of v ≤ 30 → code_of v ≡ 2
  four l z = past_two l ∙ here 1 2 v (holds 2 30 v refl h z)

  pub eight : 30 < bits_of v → bits_of v ≤ 62 → code_of v ≡ 3
  eight l z = past-four l ∙ here 0 3 v (holds 3 62 v refl h z)

  pub no-form : 62 < bits_of v → code_of v ≡ 4
  no-form z = past-four (omega arith) ∙ (on 0 3 v (too_short 3 62 v refl h z) ∙ ended 4 v)

-- the form of the code that was found
pub found : (v k : ℕ) → code_of v ≡ k → k < 4 → (k ≡ code_of v) × (k < 4) × (len_of k ≡ width_of v)
found v k e h = (sym e, h, sym (width-found v (omega arith) ∙ ap len_of e))

pub none : (v : ℕ) → code_of v ≡ 4 → limit < v
none v e = code-large v (omega arith)
