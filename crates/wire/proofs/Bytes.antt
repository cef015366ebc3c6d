-- Laws of bytes as numbers and of bytes written over others, each over the length and proved once.
-- Assumes nothing.
use Prim.Native.Nat.{ℕ, zero, suc, ◌+◌, ◌*◌, ◌/◌, ◌%◌, ◌^◌, ◌≤◌, ◌<◌}
use mathlib.Core.Path.{◌≡◌, refl, ap, ◌∙◌}
use mathlib.Core.List.{List, [], ◌∷◌, ◌++◌, append_assoc}
use native.Mathlib.Nat.{add-zero, add_assoc, le_refl, le_trans, lt_of_lt_of_le, mul-le-mul_right, mul_assoc, pow-suc, pow-succ', pow-le-pow_right, one-le-pow, div-div-eq-div-mul, mod-eq_of_lt, zero-mul, zero-add, div-eq_of_lt-le}
use native.Mathlib.Numerals.{add-one}
use native.Mathlib.Omega.{arith}
use lib.Dec.{lit<}
use mir.Syntax.{w8}
use mir.Val.{Fits}
use lib.Arith.{mod-mul}
use lib.ListN.{length, get_or, take, drop, set, length-take, length-append, take-append-drop}
use lib.Seq.{drop-drop, drop_at, take_at, get_or-drop, take-suc-set, drop-set-lt}
use Rattle.wire.specs.Bytes.{be, digits, splice}
pub use Rattle.wire.specs.Bytes.{Octets}

-- the bytes of a number are that number, as far as they reach
pub be-digits : (k n : ℕ) (tl : List ℕ) (acc : ℕ) → be acc (digits k n tl) ≡ be (acc * 256 ^ k + n % 256 ^ k) tl
be-digits zero n tl acc = ap (λ (a : ℕ). be a tl) (omega arith)
be-digits (suc k) n tl acc =
    be-digits k (n / 256) (n % 256 ∷ tl) acc
    ∙ ap (λ (a : ℕ). be a tl)
    (rw (pow-suc, mod-mul n {m = 256 ^ k} {c = 256} (one-le-pow k 256 (lit< tt)) (lit< tt), ← mul_assoc) (omega arith))

pub grows : (bs : List ℕ) (acc : ℕ) → acc ≤ be acc bs
grows [] acc = le_refl acc
grows (b ∷ bs) acc = le_trans (omega arith) (grows bs (acc * 256 + b))

pub bound : (bs : List ℕ) (acc : ℕ) → Octets bs → be acc bs < suc acc * 256 ^ length bs
bound [] acc h = omega arith
bound (b ∷ bs) acc h =
    rw (pow-succ', ← mul_assoc)
    (lt_of_lt_of_le (bound bs (acc * 256 + b) (λ i. h (suc i))) (mul-le-mul_right (256 ^ length bs) (omega (arith, h 0))))

pub lower : (bs : List ℕ) (acc : ℕ) → acc * 256 ^ length bs ≤ be acc bs
lower [] acc = omega arith
lower (b ∷ bs) acc = rw (pow-succ', ← mul_assoc) (le_trans (mul-le-mul_right (256 ^ length bs) (omega arith)) (lower bs (acc * 256 + b)))

-- the first bytes are what stands above the others
pub be-above : (bs : List ℕ) (acc : ℕ) → Octets bs → be acc bs / 256 ^ length bs ≡ acc
be-above bs acc h = div-eq_of_lt-le (256 ^ length bs) (lower bs acc) (rw add-one (bound bs acc h))

-- eight bytes fit a word
pub join-lt : (bs : List ℕ) → ((i : ℕ) → Fits w8 (get_or bs i 0)) → length bs ≤ 8 → be 0 bs < 2 ^ 64
join-lt bs h l = omega (arith, bound bs 0 (λ i. (h i).fits), pow-le-pow_right {n = 256} (lit< tt) l)

pub length_digits : (k n : ℕ) (tl : List ℕ) → length (digits k n tl) ≡ k + length tl
length_digits zero n tl = omega arith
length_digits (suc k) n tl = omega (arith, length_digits k (n / 256) (n % 256 ∷ tl))

pub length-fixed : (k n : ℕ) → length (digits k n []) ≡ k
length-fixed k n = length_digits k n [] ∙ add-zero k

pub digits-head : (t n : ℕ) (tl : List ℕ) → get_or (digits (suc t) n tl) 0 0 ≡ n / 256 ^ t % 256
digits-head zero n tl = omega arith
digits-head (suc t) n tl = digits-head t (n / 256) (n % 256 ∷ tl) ∙ rw (pow-succ', div-div-eq-div-mul)

-- one write after another is one write
pub splice-splice : (xs ys zs : List ℕ) (at : ℕ) → at + length ys ≤ length xs
    → splice (splice xs at ys) (at + length ys) zs ≡ splice xs at (ys ++ zs)
splice-splice xs ys zs at h =
    let d : List ℕ = drop (at + length ys) xs in
    let n : length (take at xs ++ ys) ≡ at + length ys = simp (length-append, length-take) (omega arith) in
    rw (← append_assoc (take at xs) ys d, take_at (take at xs ++ ys) d (at + length ys) n, ← drop-drop (length zs) (at + length ys) ((take at xs ++ ys) ++ d), drop_at (take at xs ++ ys) d (at + length ys) n, drop-drop, length-append)
    (simp (append_assoc, add_assoc))

-- one store at the start of what is still to write
pub store : (xs ps : List ℕ) (i j a : ℕ) → j ≡ i + 1 → i < length xs → splice (set xs i a) j ps ≡ splice xs i (a ∷ ps)
store xs ps i j a e h =
    let d : drop (i + 1 + length ps) (set xs i a) ≡ drop (i + 1 + length ps) xs = drop-set-lt (i + 1 + length ps) xs i a (omega arith) in
    let n : i + 1 + length ps ≡ i + suc (length ps) = omega arith in
    rw (e, d, n, add-one, take-suc-set xs i a h, append_assoc)

pub splice-none : (xs : List ℕ) (i : ℕ) → splice xs i [] ≡ xs
splice-none xs i = rw add-zero (take-append-drop i xs)

-- ---- bytes are the digits of their number

pub octets-digits : (k n : ℕ) (tl : List ℕ) → Octets tl → Octets (digits k n tl)
octets-digits zero n tl h = h
octets-digits (suc k) n tl h = octets-digits k (n / 256) (n % 256 ∷ tl) more
  where
    more : Octets (n % 256 ∷ tl)
    more zero = omega arith
    more (suc i) = h i

-- the same number of bytes with the same number are the same bytes
pub be-one : (xs ys : List ℕ) (a b : ℕ) → Octets xs → Octets ys → length xs ≡ length ys → be a xs ≡ be b ys → (a ≡ b) × (xs ≡ ys)
be-one [] [] a b hx hy l e = (e, refl)
be-one [] (y ∷ ys) a b hx hy l e = absurd (omega arith)
be-one (x ∷ xs) [] a b hx hy l e = absurd (omega arith)
be-one (x ∷ xs) (y ∷ ys) a b hx hy l e =
    let r = be-one xs ys (a * 256 + x) (b * 256 + y) (λ i. hx (suc i)) (λ i. hy (suc i)) (omega arith) e in
    let p : a ≡ b = omega (arith, r.0, hx 0, hy 0) in
    let q : x ≡ y = omega (arith, r.0, hx 0, hy 0) in
    (p, rw (q, r.1))

pub digits-be : (bs : List ℕ) → Octets bs → digits (length bs) (be 0 bs) [] ≡ bs
digits-be bs h =
    let n : be 0 bs < 256 ^ length bs = omega (arith, bound bs 0 h) in
    (be-one (digits (length bs) (be 0 bs) []) bs 0 0 (octets-digits (length bs) (be 0 bs) [] (λ i. lit< tt)) h (length-fixed (length bs) (be 0 bs))
    (be-digits (length bs) (be 0 bs) [] 0 ∙ rw (mod-eq_of_lt n, zero-mul, zero-add))).1

-- a part of bytes
octets-take : (n : ℕ) (l : List ℕ) → Octets l → Octets (take n l)
octets-take zero l h i = lit< tt
octets-take (suc n) [] h i = lit< tt
octets-take (suc n) (x ∷ xs) h zero = h 0
octets-take (suc n) (x ∷ xs) h (suc i) = octets-take n xs (λ j. h (suc j)) i

pub octets-part : (s : List ℕ) (at len : ℕ) → Octets s → Octets (take len (drop at s))
octets-part s at len h = octets-take len (drop at s) (λ i. rw get_or-drop (h (at + i)))
