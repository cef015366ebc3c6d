-- Laws of a number's bits, at every place and width. Assumes nothing.
use mathlib.Core.Path.{◌≡◌, refl, sym, ap, ◌∙◌}
use Prim.Native.Nat.{ℕ, zero, suc, ◌+◌, ◌-◌, ◌*◌, ◌/◌, ◌%◌, ◌^◌, ◌≤◌, ◌<◌, suc-le-suc}
use native.Mathlib.Nat.{pow-suc, not-suc-le-zero, le_of_suc-le-suc, div-one, div-eq_of_lt, lt_of_lt_of_le, mod-lt}
use native.Mathlib.Numerals.{one-add}
use native.Mathlib.Omega.{arith}
use lib.Pow.{shr-shr, shl-shr, split, pow_mono, pow_pos}
use lib.Bits.{block_half, block_odd}
use Rattle.window.specs.Words.{bit}

-- the lowest bit
pub bit-zero : (w : ℕ) → bit w 0 ≡ w % 2
unfolding bit
bit-zero w = ap (λ (x : ℕ). x % 2) (div-one w)

-- the bits of w above p are those of w / 2 ^ p
pub bit-add : (w p q : ℕ) → bit w (p + q) ≡ bit (w / 2 ^ p) q
unfolding bit
bit-add w p q = ap (λ (x : ℕ). x % 2) (sym (shr-shr w p q))

-- those above the lowest
pub bit-suc : (w p : ℕ) → bit w (suc p) ≡ bit (w / 2) p
bit-suc w p = ap (bit w) (sym (one-add p)) ∙ bit-add w 1 p

-- a bit is 0 or 1
pub bit-lt : (w p : ℕ) → bit w p < 2
unfolding bit
bit-lt w p = mod-lt (w / 2 ^ p) (pow_pos 1)

-- no bit is set from n on in a number of n bits
pub bit-above : (w n p : ℕ) → w < 2 ^ n → n ≤ p → bit w p ≡ 0
unfolding bit
bit-above w n p h l = ap (λ (x : ℕ). x % 2) (div-eq_of_lt (lt_of_lt_of_le h (pow_mono l)))

-- the n low bits of a number
pub bit-cat : (n a b p : ℕ) → p < n → bit (a * 2 ^ n + b) p ≡ bit b p
bit-cat zero a b p h = absurd (not-suc-le-zero h)
bit-cat (suc n) a b zero h = bit-zero (a * 2 ^ suc n + b) ∙ block_odd a n b ∙ sym (bit-zero b)
bit-cat (suc n) a b (suc p) h =
    bit-suc (a * 2 ^ suc n + b) p ∙ ap (λ (x : ℕ). bit x p) (block_half a n b)
    ∙ bit-cat n a (b / 2) p (le_of_suc-le-suc h) ∙ sym (bit-suc b p)

-- the k low bits of a number are those of what a division by 2 ^ k leaves
pub bit-low : (w k q : ℕ) → q < k → bit (w % 2 ^ k) q ≡ bit w q
bit-low w k q l = sym (bit-cat k (w / 2 ^ k) (w % 2 ^ k) q l) ∙ ap (λ (x : ℕ). bit x q) (split w k)

-- the bits of a number shifted up by c
pub bit_up : (x c q : ℕ) → bit (x * 2 ^ c) (c + q) ≡ bit x q
bit_up x c q = bit-add (x * 2 ^ c) c q ∙ ap (λ (y : ℕ). bit y q) (shl-shr x c)

half : {a : ℕ} (n : ℕ) → a < 2 ^ suc n → a / 2 < 2 ^ n
half n h = omega (arith, pow-suc 2 n)

-- the bits of `!a`, for an a of n bits
pub bit_not : (n a p : ℕ) → a < 2 ^ n → p < n → bit ((2 ^ n - 1) - a) p ≡ 1 - bit a p
bit_not zero a p h l = absurd (not-suc-le-zero l)
bit_not (suc n) a zero h l =
    let e : (2 ^ suc n - 1 - a) % 2 ≡ 1 - a % 2 = omega (arith, pow-suc 2 n) in
    bit-zero (2 ^ suc n - 1 - a) ∙ e ∙ sym (ap (λ (x : ℕ). 1 - x) (bit-zero a))
bit_not (suc n) a (suc p) h l =
    let e : (2 ^ suc n - 1 - a) / 2 ≡ 2 ^ n - 1 - a / 2 = omega (arith, pow-suc 2 n) in
    bit-suc (2 ^ suc n - 1 - a) p ∙ ap (λ (x : ℕ). bit x p) e
    ∙ bit_not n (a / 2) p (half n h) (le_of_suc-le-suc l) ∙ sym (ap (λ (x : ℕ). 1 - x) (bit-suc a p))

-- the highest bit of a number is set
pub bit-top : (j a : ℕ) → 2 ^ j ≤ a → a < 2 ^ suc j → bit a j ≡ 1
bit-top zero a l h = let e : a % 2 ≡ 1 = omega arith in bit-zero a ∙ e
bit-top (suc j) a l h =
    let m : 2 ^ j ≤ a / 2 = omega (arith, pow-suc 2 j) in bit-suc a j ∙ bit-top j (a / 2) m (half (suc j) h)

-- two numbers of k bits with the same bits are equal
pub same_bits : (k v w : ℕ) → v < 2 ^ k → w < 2 ^ k → ((q : ℕ) → q < k → bit v q ≡ bit w q) → v ≡ w
same_bits zero v w hv hw h = omega arith
same_bits (suc k) v w hv hw h =
    let r : v / 2 ≡ w / 2
    = same_bits k (v / 2) (w / 2) (half k hv) (half k hw) (λ q l. sym (bit-suc v q) ∙ h (suc q) (suc-le-suc l) ∙ bit-suc w q) in
    let z : v % 2 ≡ w % 2 = sym (bit-zero v) ∙ h 0 (omega arith) ∙ bit-zero w in omega arith

-- a clear bit can be added
pub bit-room : (n a p : ℕ) → a < 2 ^ n → p < n → bit a p ≡ 0 → a + 2 ^ p < 2 ^ n
bit-room zero a p h l e = absurd (not-suc-le-zero l)
bit-room (suc n) a zero h l e =
    let z : a % 2 ≡ 0 = sym (bit-zero a) ∙ e in omega (arith, pow-suc 2 n)
bit-room (suc n) a (suc p) h l e =
    let r : a / 2 + 2 ^ p < 2 ^ n = bit-room n (a / 2) p (half n h) (le_of_suc-le-suc l) (sym (bit-suc a p) ∙ e) in
    omega (arith, pow-suc 2 n, pow-suc 2 p)

-- a clear bit added is set
pub bit_added : (w p : ℕ) → bit w p ≡ 0 → bit (w + 2 ^ p) p ≡ 1
bit_added w zero e =
    let z : w % 2 ≡ 0 = sym (bit-zero w) ∙ e in
    let o : (w + 1) % 2 ≡ 1 = omega arith in bit-zero (w + 1) ∙ o
bit_added w (suc p) e =
    let h : (w + 2 ^ suc p) / 2 ≡ w / 2 + 2 ^ p = omega (arith, pow-suc 2 p) in
    bit-suc (w + 2 ^ suc p) p ∙ ap (λ (x : ℕ). bit x p) h ∙ bit_added (w / 2) p (sym (bit-suc w p) ∙ e)

-- and no other bit changes
pub bit-added-other : (w p q : ℕ) → bit w p ≡ 0 → (q ≡ p → ⊥) → bit (w + 2 ^ p) q ≡ bit w q
bit-added-other w zero zero e n = absurd (n refl)
bit-added-other w zero (suc q) e n =
    let z : w % 2 ≡ 0 = sym (bit-zero w) ∙ e in
    let h : (w + 1) / 2 ≡ w / 2 = omega arith in bit-suc (w + 1) q ∙ ap (λ (x : ℕ). bit x q) h ∙ sym (bit-suc w q)
bit-added-other w (suc p) zero e n =
    let h : (w + 2 ^ suc p) % 2 ≡ w % 2 = omega (arith, pow-suc 2 p) in bit-zero (w + 2 ^ suc p) ∙ h ∙ sym (bit-zero w)
bit-added-other w (suc p) (suc q) e n =
    let h : (w + 2 ^ suc p) / 2 ≡ w / 2 + 2 ^ p = omega (arith, pow-suc 2 p) in
    bit-suc (w + 2 ^ suc p) q ∙ ap (λ (x : ℕ). bit x q) h
    ∙ bit-added-other (w / 2) p q (sym (bit-suc w p) ∙ e) (λ g. n (ap suc g)) ∙ sym (bit-suc w q)
