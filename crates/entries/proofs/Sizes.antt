-- Records of one size in a row, whatever the size is: where one ends, which are there, and what stands before the last of them.
-- Assumes nothing.
use Rattle.std.proofs.Common.{◌≡◌, ℕ, ◌+◌, ◌-◌, ◌*◌, ◌/◌, ◌%◌, ◌<◌, ◌≤◌, sym, ap, ◌∙◌, mul_comm, div-lt_iff_lt-mul, add-mul, mul-le-mul_left, one-mul, div-add-mod', le-div_iff_mul-le, mul-one, mul-add, mul-div_cancel, arith}
use native.Mathlib.Nat.{mul-sub, mul-mod_left}

module _ (size : ℕ) where
  -- one record more
  pub step : (i : ℕ) → i * size + size ≡ (i + 1) * size
  step i = sym (add-mul i 1 size ∙ ap (λ (n : ℕ). i * size + n) (one-mul size))

  pub further : (d i : ℕ) → d * size + i * size ≡ (d + i) * size
  further d i = sym (add-mul d i size)

  pub no_less : (k m : ℕ) → k ≤ m → size * k ≤ size * m
  no_less k m h = mul-le-mul_left size h

  pub one_fewer : (k : ℕ) → 0 < k → size * (k - 1) + size ≡ size * k
  one_fewer k h =
      let e : k - 1 + 1 ≡ k = omega arith in
      let m : size * (k - 1 + 1) ≡ size * (k - 1) + size * 1 = mul-add size (k - 1) 1 in
      ap (λ (n : ℕ). size * (k - 1) + n) (sym (mul-one size)) ∙ sym m ∙ ap (λ (n : ℕ). size * n) e

  module _ (z : 0 < size) where
    -- record i is there, or the bytes end before it does
    pub there : (n i : ℕ) → i < n / size → (i + 1) * size ≤ n
    there n i h = let l : i + 1 ≤ n / size = omega arith in (le-div_iff_mul-le z).0 l

    pub not_there : (n i : ℕ) → n / size ≤ i → n < (i + 1) * size
    not_there n i h = let l : n / size < i + 1 = omega arith in (div-lt_iff_lt-mul z).0 l

    -- k records are held, or more than are
    pub held : (n k : ℕ) → k ≤ n / size → size * k ≤ n
    held n k h = rw (mul_comm size k) ((le-div_iff_mul-le z).0 h)

    pub not-held : (n k : ℕ) → n / size < k → n < size * k
    not-held n k h = rw (mul_comm size k) ((div-lt_iff_lt-mul z).0 h)

    -- the records before the last k of them
    pub before_last : (n k : ℕ) → n % size ≡ 0 → n - size * k ≡ (n / size - k) * size
    before_last n k e =
        let w : n / size * size + n % size ≡ n = div-add-mod' n size in
        let m : size * (n / size - k) ≡ size * (n / size) - size * k = mul-sub size (n / size) k in
        let c : size * (n / size - k) ≡ (n / size - k) * size = mul_comm size (n / size - k) in
        let d : size * (n / size) ≡ n / size * size = mul_comm size (n / size) in
        omega arith

    -- behind the first d records
    pub later : (n d i : ℕ) → i < (n - d * size) / size → d + i < n / size
    later n d i h =
        let a : (i + 1) * size ≤ n - d * size = there (n - d * size) i h in
        let b : d * size + (i + 1) * size ≡ (d + (i + 1)) * size = further d (i + 1) in
        let q : 0 < (i + 1) * size = omega (arith, add-mul i 1 size, one-mul size) in
        let l : (d + (i + 1)) * size ≤ n = omega arith in
        let r : d + (i + 1) ≤ n / size = (le-div_iff_mul-le z).1 l in
        omega arith

    -- so many records are held
    pub holds : (n k : ℕ) → size * k ≤ n → k ≤ n / size
    holds n k h = (le-div_iff_mul-le z).1 (rw (mul_comm size k) at h)

    -- records and nothing else
    pub whole-many : (n k : ℕ) → n ≡ size * k → n / size ≡ k
    whole-many n k e = ap (λ (m : ℕ). m / size) (e ∙ mul_comm size k) ∙ mul-div_cancel k z

    pub whole-even : (n k : ℕ) → n ≡ size * k → n % size ≡ 0
    whole-even n k e = ap (λ (m : ℕ). m % size) (e ∙ mul_comm size k) ∙ mul-mod_left k size
