-- The four lengths and the shortest of them, over the code: the code found holds the number, and no smaller one does.
-- Assumes nothing.
use Prim.Native.Nat.{ℕ, zero, suc, ◌+◌, ◌-◌, ◌^◌, ◌≤◌, ◌<◌, zero-le}
use mathlib.Core.Path.{◌≡◌, sym, ap, ◌∙◌}
use mathlib.Core.Bool.{true}
use native.Mathlib.Nat.{le_of_suc-le-suc, mul-le-mul_left, lt_of_not-le, pow-le-pow_right, one-le-pow}
use native.Mathlib.Decide.{dec_le}
use native.Mathlib.Omega.{arith}
use borrow.Author.Tests.{le-leb, lt-leb, lt-ltb, le-ltb, eq-eqb, ne_eqb}
use lib.Dec.{ltb, lit<}
use lib.Pow.{pow_pos}
use lib.Arith.{lt_of_le-ne}
use Rattle.wire.specs.Numbers.{len_of, room_of, largest_of, limit, first_from, code_of, width_of, is_shortest}

pub len-le : (k : ℕ) → k < 4 → len_of k ≤ 8
len-le k h = pow-le-pow_right {n = 2} (lit< tt) (le_of_suc-le-suc h)

pub room-le : (k : ℕ) → k < 4 → room_of k ≤ 2 ^ 62
room-le k h = mul-le-mul_left 64 (pow-le-pow_right {n = 256} (lit< tt) {j = 7} (omega (arith, len-le k h)))

pub room-pos : (k : ℕ) → 0 < room_of k
room-pos k = omega (arith, one-le-pow (2 ^ k - 1) 256 (lit< tt))

-- a longer form holds no fewer
pub room-mono : (i j : ℕ) → i ≤ j → room_of i ≤ room_of j
room-mono i j h = mul-le-mul_left 64 (pow-le-pow_right {n = 256} (lit< tt) {j = len_of j - 1} (omega (arith, pow-le-pow_right {n = 2} (lit< tt) h)))

-- the largest number and one more
pub room_of_lem : (k big : ℕ) → big ≡ largest_of k → big + 1 ≡ room_of k
room_of_lem k big e = omega (arith, room-pos k)

pub split : {P : Type 0} (a b : ℕ) → (a ≤ b → P) → (b < a → P) → P
split a b f g = elim (dec_le a b) [ yes h ↦ f h | no h ↦ g (lt_of_not-le h) ]

-- the code that is found holds v
first_fits : (n k v : ℕ) → first_from n k v < k + n → v ≤ largest_of (first_from n k v)
unfolding first_from
first_fits zero k v h = omega arith
first_fits (suc n) k v h =
    split v (largest_of k)
    (λ l. rw (le-leb v (largest_of k) l) l)
    (λ l. rw (lt-leb v (largest_of k) l) (first_fits n (suc k) v (omega (arith, rw (lt-leb v (largest_of k) l) at h))))

-- no code that holds v comes before it
first-least : (n k v j : ℕ) → k ≤ j → j < k + n → v ≤ largest_of j → first_from n k v ≤ j
unfolding first_from
first-least zero k v j p q h = p
first-least (suc n) k v j p q h =
    split v (largest_of k)
    (λ l. rw (le-leb v (largest_of k) l) p)
    (λ l. rw (lt-leb v (largest_of k) l) (first-least n (suc k) v j (lt_of_le-ne p (λ e. omega (arith, ap largest_of e))) (omega arith) h))

pub code_fits : (v : ℕ) → code_of v < 4 → v < room_of (code_of v)
code_fits v h = omega (arith, first_fits 4 0 v h, room-pos (code_of v))

pub code-least : (v j : ℕ) → j < 4 → v ≤ largest_of j → code_of v ≤ j
code-least v j p h = first-least 4 0 v j zero-le p h

-- a form is the shortest where the next shorter one does not hold the number
pub shortest-code : (k v : ℕ) → 0 < k → k < 4 → v < room_of k → ltb (largest_of (k - 1)) v ≡ is_shortest k v
shortest-code k v p h l =
    let least : code_of v ≤ k = code-least v k h (omega arith) in
    split v (largest_of (k - 1))
    (λ s. le-ltb (largest_of (k - 1)) v s ∙ sym (ne_eqb (code_of v) k (λ e. omega (arith, code-least v (k - 1) (omega arith) s))))
    (λ s. lt-ltb (largest_of (k - 1)) v s
    ∙ sym (eq-eqb (code_of v) k (split k (code_of v) (λ q. omega arith) (λ q. omega (arith, code_fits v (omega arith), room-mono (code_of v) (k - 1) (omega arith))))))

-- the form of one byte always is
pub shortest-one : (v : ℕ) → v ≤ largest_of 0 → true ≡ is_shortest 0 v
shortest-one v h = sym (eq-eqb (code_of v) 0 (omega (arith, code-least v 0 (lit< tt) h)))

-- a code was found exactly where the number is not above the limit
pub code-large : (v : ℕ) → 4 ≤ code_of v → limit < v
code-large v h = split v limit (λ l. omega (arith, code-least v 3 (lit< tt) l)) (λ l. l)

pub code-small : (v : ℕ) → code_of v < 4 → v ≤ limit
code-small v h = omega (arith, code_fits v h, room-le (code_of v) h)

pub small-code : (v : ℕ) → v ≤ limit → code_of v < 4
small-code v h = omega (arith, code-least v 3 (lit< tt) h)

pub width-found : (v : ℕ) → code_of v < 4 → width_of v ≡ len_of (code_of v)
unfolding width_of
width-found v h = rw (lt-ltb (code_of v) 4 h)

pub width-none : (v : ℕ) → 4 ≤ code_of v → width_of v ≡ 0
unfolding width_of
width-none v h = rw (le-ltb (code_of v) 4 h)

pub width-pos : (v : ℕ) → v ≤ limit → 0 < width_of v
width-pos v h = rw (width-found v (small-code v h)) (pow_pos (code_of v))

pub width-le : (v : ℕ) → width_of v ≤ 8
width-le v = split 4 (code_of v) (λ h. omega (arith, width-none v h)) (λ h. omega (arith, width-found v h, len-le (code_of v) h))

pub width-large : (v : ℕ) → limit < v → width_of v ≡ 0
width-large v h = width-none v (split 4 (code_of v) (λ q. q) (λ q. absurd (omega (arith, code-small v q))))

-- the length is the least that holds the number
pub width-least : (v j : ℕ) → j < 4 → v ≤ largest_of j → width_of v ≤ len_of j
width-least v j p h =
    let l = code-least v j p h in
    rw (width-found v (omega arith)) (pow-le-pow_right {n = 2} (lit< tt) l)
