-- Words by the marks in them: sixteen words are those of a test where each mark is what the test says, and they say it.
-- Assumes nothing.
use Prim.Native.Nat.{ℕ, zero, suc, ◌+◌, ◌*◌, ◌/◌, ◌%◌, ◌^◌, ◌≤◌, ◌<◌}
use mathlib.Core.Path.{◌≡◌, refl, sym, ap, ap₂, ◌∙◌}
use mathlib.Core.Bool.{Bool, true, false}
use mathlib.Core.List.{List, [], ◌∷◌, ◌++◌}
use native.Mathlib.Nat.{add-zero, add-suc, suc-add, not-suc-le-zero, pow-suc}
use native.Mathlib.Omega.{arith}
use lib.Dec.{eqb}
use lib.ListN.{length, get_or}
use Rattle.wire.specs.Bytes.{pick}
use Rattle.window.specs.Window.{is_set}
use Rattle.window.proofs.Bits.{bit-zero, bit-suc}
use Rattle.window.proofs.Laws.{same-marks}
use Rattle.marks.specs.Marks.{mark, number_at, each, bits_of, ring_of}

-- ---- lists of each index

pub each_same : (f g : ℕ → ℕ) (n i : ℕ) → ((j : ℕ) → i ≤ j → j < i + n → f j ≡ g j) → each f n i ≡ each g n i
unfolding each
each_same f g zero i h = refl
each_same f g (suc n) i h = rw (h i (omega arith) (omega arith), each_same f g n (suc i) (λ j l m. h j (omega arith) (omega arith)))

-- a list is that of its elements
pub each-element : (xs : List ℕ) (k : ℕ) (ys : List ℕ) → ((j : ℕ) → get_or ys (k + j) 0 ≡ get_or xs j 0) → each (λ j. get_or ys j 0) (length xs) k ≡ xs
unfolding each
each-element [] k ys h = refl
each-element (x ∷ xs) k ys h =
    let e : get_or ys k 0 ≡ x = ap (λ (j : ℕ). get_or ys j 0) (sym (add-zero k)) ∙ h 0 in
    ap₂ ◌∷◌ e (each-element xs (suc k) ys (λ j. ap (λ (i : ℕ). get_or ys i 0) (suc-add k j ∙ sym (add-suc k j)) ∙ h (suc j)))

pub each-split : (f : ℕ → ℕ) (m n i : ℕ) → each f (m + n) i ≡ each f m i ++ each f n (i + m)
unfolding each
each-split f zero n i =
    let a : 0 + n ≡ n = omega arith in
    let b : i ≡ i + 0 = omega arith in
    ap₂ (each f) a b
each-split f (suc m) n i =
    let b : suc i + m ≡ i + suc m = omega arith in
    ap (λ (k : ℕ). each f k i) (suc-add m n) ∙ ap (λ (l : List ℕ). f i ∷ l) (each-split f m n (suc i) ∙ ap (λ (k : ℕ). each f m (suc i) ++ each f n k) b)

pub each-moved : (f : ℕ → ℕ) (d n i : ℕ) → each f n (d + i) ≡ each (λ j. f (d + j)) n i
unfolding each
each-moved f d zero i = refl
each-moved f d (suc n) i = ap (λ (l : List ℕ). f (d + i) ∷ l) (ap (each f n) (sym (add-suc d i)) ∙ each-moved f d n (suc i))

pub get_or-each : (f : ℕ → ℕ) (n i j : ℕ) (ys : List ℕ) → j < n → get_or (each f n i ++ ys) j 0 ≡ f (i + j)
unfolding each
get_or-each f zero i j ys h = absurd (not-suc-le-zero h)
get_or-each f (suc n) i zero ys h = ap f (sym (add-zero i))
get_or-each f (suc n) i (suc j) ys h = get_or-each f n (suc i) j ys (omega arith) ∙ ap f (suc-add i j ∙ sym (add-suc i j))

pub get_d_after : (f : ℕ → ℕ) (n i j : ℕ) (ys : List ℕ) → get_or (each f n i ++ ys) (n + j) 0 ≡ get_or ys j 0
unfolding each
get_d_after f zero i j ys = let z : 0 + j ≡ j = omega arith in ap (λ (k : ℕ). get_or ys k 0) z
get_d_after f (suc n) i j ys = ap (λ (k : ℕ). get_or (f i ∷ (each f n (suc i) ++ ys)) k 0) (suc-add n j) ∙ get_d_after f n (suc i) j ys

-- ---- a word of bits

pub bits-lt : (p : ℕ → Bool) (n k : ℕ) → bits_of p n k < 2 ^ n
unfolding bits_of
bits-lt p zero k = omega arith
bits-lt p (suc n) k = let h = bits-lt p n (suc k) in let e = pow-suc 2 n in go (p k) h e
  where
    go : (b : Bool) → bits_of p n (suc k) < 2 ^ n → 2 ^ suc n ≡ 2 ^ n * 2 → bits_of p n (suc k) * 2 + pick b 1 0 < 2 ^ suc n
    go true h e = omega arith
    go false h e = omega arith

bits_at : (p : ℕ → Bool) (n k q : ℕ) → q < n → is_set (bits_of p n k) q ≡ p (k + q)
unfolding bits_of
bits_at p zero k q h = absurd (not-suc-le-zero h)
bits_at p (suc n) k zero h = ap (λ (x : ℕ). eqb x 1) (bit-zero (bits_of p (suc n) k)) ∙ go (p k) ∙ ap p (sym (add-zero k))
  where
    go : (b : Bool) → eqb ((bits_of p n (suc k) * 2 + pick b 1 0) % 2) 1 ≡ b
    go true = let e : (bits_of p n (suc k) * 2 + 1) % 2 ≡ 1 = omega arith in ap (λ (x : ℕ). eqb x 1) e
    go false = let e : (bits_of p n (suc k) * 2 + 0) % 2 ≡ 0 = omega arith in ap (λ (x : ℕ). eqb x 1) e
bits_at p (suc n) k (suc q) h =
    ap (λ (x : ℕ). eqb x 1) (bit-suc (bits_of p (suc n) k) q) ∙ ap (λ (x : ℕ). is_set x q) (half (p k))
    ∙ bits_at p n (suc k) q (omega arith) ∙ ap p (suc-add k q ∙ sym (add-suc k q))
  where
    half : (b : Bool) → (bits_of p n (suc k) * 2 + pick b 1 0) / 2 ≡ bits_of p n (suc k)
    half true = omega arith
    half false = omega arith

-- a word is that of its bits
word-is : (x : ℕ) (p : ℕ → Bool) → x < 2 ^ 64 → ((q : ℕ) → q < 64 → is_set x q ≡ p q) → x ≡ bits_of p 64 0
word-is x p h f = same-marks 64 x (bits_of p 64 0) h (bits-lt p 64 0) (λ q l. f q l ∙ sym (bits_at p 64 0 q l ∙ ap p (omega arith)))

-- ---- the ring

place-word : (floor i k : ℕ) → i < 16 → k < 64 → number_at floor i k / 64 % 16 ≡ i
unfolding number_at
place-word floor i k h l = omega arith

place-bit : (floor i k : ℕ) → i < 16 → k < 64 → number_at floor i k % 64 ≡ k
unfolding number_at
place-bit floor i k h l = omega arith

place_in : (floor i k : ℕ) → (floor ≤ number_at floor i k) × (number_at floor i k < floor + 1024)
unfolding number_at
place_in floor i k = (omega arith, omega arith)

place_of : (floor n : ℕ) → floor ≤ n → n < floor + 1024 → number_at floor (n / 64 % 16) (n % 64) ≡ n
unfolding number_at
place_of floor n h l = omega arith

-- sixteen words w, each of 64 bits, in which each mark is what the test says
pub ring-is : (w : ℕ → ℕ) (p : ℕ → Bool) (floor : ℕ) → ((i : ℕ) → i < 16 → w i < 2 ^ 64) → ((n : ℕ) → floor ≤ n → n < floor + 1024 → is_set (w (n / 64 % 16)) (n % 64) ≡ p n)
    → each w 16 0 ≡ ring_of p floor
ring-is w p floor fits f = each_same w (λ i. bits_of (λ k. p (number_at floor i k)) 64 0) 16 0 (λ i l m.
    word-is (w i) (λ k. p (number_at floor i k)) (fits i (omega arith)) (λ k h.
    ap₂ (λ (x y : ℕ). is_set (w x) y) (sym (place-word floor i k (omega arith) h)) (sym (place-bit floor i k (omega arith) h))
    ∙ f (number_at floor i k) (place_in floor i k).0 (place_in floor i k).1))

pub ring-says : (p : ℕ → Bool) (floor n : ℕ) (ys : List ℕ) → floor ≤ n → n < floor + 1024 → mark (ring_of p floor ++ ys) n ≡ p n
ring-says p floor n ys h l =
    ap (λ (x : ℕ). is_set x (n % 64)) (get_or-each (λ i. bits_of (λ k. p (number_at floor i k)) 64 0) 16 0 (n / 64 % 16) ys (omega arith))
    ∙ bits_at (λ k. p (number_at floor (0 + n / 64 % 16) k)) 64 0 (n % 64) (omega arith)
    ∙ ap p (ap₂ (number_at floor) (omega arith) (omega arith) ∙ place_of floor n h l)
