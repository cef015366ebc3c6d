-- Two digits from the end are written together.
-- Assumes nothing.
use Prim.Native.Nat.{ℕ, zero, suc, ◌+◌, ◌-◌, ◌/◌, ◌%◌, ◌≤◌, ◌<◌}
use mathlib.Core.Path.{◌≡◌, refl}
use mathlib.Core.List.{List, [], ◌∷◌}
use native.Mathlib.Nat.{not-suc-le-zero, le_of_suc-le-suc}
use native.Mathlib.Omega.{arith}
use lib.ListN.{length, drop, set, length-set}
use Rattle.decimal.specs.Decimal.{last_digits}

drop-set : (l : List ℕ) (i b : ℕ) → i < length l → drop i (set l i b) ≡ b ∷ drop (suc i) l
drop-set [] i b h = absurd (not-suc-le-zero h)
drop-set (x ∷ l) zero b h = refl
drop-set (x ∷ l) (suc i) b h = drop-set l i b (le_of_suc-le-suc h)

pub two_digits : (buf : List ℕ) (i n : ℕ) → 2 ≤ i → i ≤ length buf
    → last_digits (i - 2) (n / 100) (drop (i - 2) (set (set buf (i - 1) (48 + n % 100 % 10)) (i - 2) (48 + n % 100 / 10))) ≡ last_digits i n (drop i buf)
two_digits buf zero n h l = absurd (omega arith)
two_digits buf (suc zero) n h l = absurd (omega arith)
two_digits buf (suc (suc i)) n h l =
    let a : suc (suc i) - 2 ≡ i = omega arith in
    let b : suc (suc i) - 1 ≡ suc i = omega arith in
    let p : n % 100 / 10 ≡ n / 10 % 10 = omega arith in
    let q : n % 100 % 10 ≡ n % 10 = omega arith in
    let r : n / 100 ≡ n / 10 / 10 = omega arith in
    let x = 48 + n / 10 % 10 in
    let y = 48 + n % 10 in
    let s : i < length (set buf (suc i) y) = rw length-set (omega arith) in
    rw (a, b, p, q, r, drop-set (set buf (suc i) y) i x s, drop-set buf (suc i) y (omega arith))

pub one-digit : (buf : List ℕ) (i n : ℕ) → i ≡ 1 → i ≤ length buf → set buf 0 (48 + n % 10) ≡ last_digits i n (drop i buf)
one-digit buf i n e l = rw e (drop-set buf 0 (48 + n % 10) (omega arith))
