-- Laws of words read as one number: the words determine the number and the number its words. Assumes nothing.
use mathlib.Core.Path.{◌≡◌, refl, sym, ap, ap₂, ◌∙◌, subst}
use mathlib.Core.List.{List, [], ◌∷◌}
use Prim.Native.Nat.{ℕ, zero, suc, ◌+◌, ◌*◌, ◌/◌, ◌%◌, ◌^◌, ◌<◌}
use native.Mathlib.Nat.{not-suc-le-zero, le_of_suc-le-suc, div-one, zero-div, mul_assoc, mod-lt, mod-eq_of_lt, add-zero}
use native.Mathlib.Omega.{arith}
use lib.Arith.{digits_div, digits_mod, digits_lt}
use lib.Pow.{shr-shr, pow-add, pow_pos, mod-pow-add}
use lib.ListN.{length, get_or, set, drop}
use lib.Seq.{get_or-drop}
use Rattle.window.specs.Words.{number_of, words_of, words_in, bit}
use Rattle.window.proofs.Bits.{bit-add, bit-cat}

-- each element is a word
abbrev pub Words : List ℕ → Type 0
Words xs = (i : ℕ) → get_or xs i 0 < 2 ^ 64

pow-word : (i : ℕ) → 2 ^ (64 * suc i) ≡ 2 ^ (64 * i) * 2 ^ 64
pow-word i = let e : 64 * suc i ≡ 64 * i + 64 = omega arith in ap (λ (x : ℕ). 2 ^ x) e ∙ pow-add 2 (64 * i) 64

pub number_lt : (xs : List ℕ) → Words xs → number_of xs < 2 ^ (64 * length xs)
unfolding number_of
number_lt [] h = omega arith
number_lt (x ∷ xs) h =
    subst (λ (m : ℕ). number_of xs * 2 ^ 64 + x < m) (sym (pow-word (length xs))) (digits_lt (number_lt xs (λ j. h (suc j))) (h 0))

-- the words back
pub words-number : (xs : List ℕ) → Words xs → words_of (length xs) (number_of xs) ≡ xs
unfolding words_of number_of
words-number [] h = refl
words-number (x ∷ xs) h =
    ap₂ (λ (a : ℕ) (l : List ℕ). a ∷ l) (digits_mod (number_of xs) (h 0))
    (ap (words_of (length xs)) (digits_div (number_of xs) (h 0)) ∙ words-number xs (λ j. h (suc j)))

pub length-words : (n w : ℕ) → length (words_of n w) ≡ n
unfolding words_of
length-words zero w = refl
length-words (suc n) w = ap suc (length-words n (w / 2 ^ 64))

pub number-words : (n w : ℕ) → number_of (words_of n w) ≡ w % 2 ^ (64 * n)
unfolding words_of number_of
number-words zero w = let e : w % 1 ≡ 0 = omega arith in sym e
number-words (suc n) w =
    let e : 64 * suc n ≡ 64 * n + 64 = omega arith in
    ap (λ (v : ℕ). v * 2 ^ 64 + w % 2 ^ 64) (number-words n (w / 2 ^ 64))
    ∙ sym (ap (λ (x : ℕ). w % 2 ^ x) e ∙ mod-pow-add w (64 * n) 64)

shift_suc : (w i : ℕ) → w / 2 ^ (64 * suc i) ≡ w / 2 ^ 64 / 2 ^ (64 * i)
shift_suc w i =
    let e : 64 * suc i ≡ 64 + 64 * i = omega arith in ap (λ (x : ℕ). w / 2 ^ x) e ∙ sym (shr-shr w 64 (64 * i))

-- the words of a number, each by itself
pub get_d_words : (n w i : ℕ) → i < n → get_or (words_of n w) i 0 ≡ w / 2 ^ (64 * i) % 2 ^ 64
unfolding words_of
get_d_words zero w i h = absurd (not-suc-le-zero h)
get_d_words (suc n) w zero h = ap (λ (x : ℕ). x % 2 ^ 64) (sym (div-one w))
get_d_words (suc n) w (suc i) h =
    get_d_words n (w / 2 ^ 64) i (le_of_suc-le-suc h) ∙ ap (λ (x : ℕ). x % 2 ^ 64) (sym (shift_suc w i))

pub words-words : (n w : ℕ) → Words (words_of n w)
unfolding words_of
words-words zero w i = omega arith
words-words (suc n) w zero = mod-lt w (pow_pos 64)
words-words (suc n) w (suc i) = words-words n (w / 2 ^ 64) i

-- a number without its i low words
pub number-drop : (xs : List ℕ) → Words xs → (i : ℕ) → number_of xs / 2 ^ (64 * i) ≡ number_of (drop i xs)
unfolding number_of
number-drop xs h zero = div-one (number_of xs)
number-drop [] h (suc i) = zero-div (2 ^ (64 * suc i))
number-drop (x ∷ xs) h (suc i) =
    shift_suc (number_of xs * 2 ^ 64 + x) i ∙ ap (λ (v : ℕ). v / 2 ^ (64 * i)) (digits_div (number_of xs) (h 0))
    ∙ number-drop xs (λ j. h (suc j)) i

-- each word by itself
pub number_word : (xs : List ℕ) → Words xs → (i : ℕ) → number_of xs / 2 ^ (64 * i) % 2 ^ 64 ≡ get_or xs i 0
unfolding number_of
number_word [] h i = ap (λ (v : ℕ). v % 2 ^ 64) (zero-div (2 ^ (64 * i)))
number_word (x ∷ xs) h zero = ap (λ (v : ℕ). v % 2 ^ 64) (div-one (number_of xs * 2 ^ 64 + x)) ∙ digits_mod (number_of xs) (h 0)
number_word (x ∷ xs) h (suc i) =
    ap (λ (v : ℕ). v % 2 ^ 64) (shift_suc (number_of xs * 2 ^ 64 + x) i ∙ ap (λ (v : ℕ). v / 2 ^ (64 * i)) (digits_div (number_of xs) (h 0)))
    ∙ number_word xs (λ j. h (suc j)) i

-- a bit of the number is a bit of a word
head-bit : (ys : List ℕ) (p : ℕ) → p < 64 → bit (number_of ys) p ≡ bit (get_or ys 0 0) p
unfolding number_of
head-bit [] p l = refl
head-bit (y ∷ ys) p l = bit-cat 64 (number_of ys) y p l

pub number_bit : (xs : List ℕ) → Words xs → (i p : ℕ) → p < 64 → bit (number_of xs) (64 * i + p) ≡ bit (get_or xs i 0) p
number_bit xs h i p l =
    bit-add (number_of xs) (64 * i) p ∙ ap (λ (v : ℕ). bit v p) (number-drop xs h i) ∙ head-bit (drop i xs) p l
    ∙ ap (λ (x : ℕ). bit x p) (get_or-drop i xs 0 0 ∙ ap (λ (j : ℕ). get_or xs j 0) (add-zero i))

pub words-drop : (xs : List ℕ) → Words xs → (i : ℕ) → Words (drop i xs)
words-drop xs h i k = subst (λ (x : ℕ). x < 2 ^ 64) (sym (get_or-drop i xs k 0)) (h (i + k))

pub words-set : (xs : List ℕ) → Words xs → (i x : ℕ) → x < 2 ^ 64 → Words (set xs i x)
words-set [] h i x l j = h j
words-set (y ∷ ys) h zero x l zero = l
words-set (y ∷ ys) h zero x l (suc j) = h (suc j)
words-set (y ∷ ys) h (suc i) x l zero = h zero
words-set (y ∷ ys) h (suc i) x l (suc j) = words-set ys (λ k. h (suc k)) i x l j

-- more in one word
pub number-set : (xs : List ℕ) (i v : ℕ) → i < length xs → number_of (set xs i (get_or xs i 0 + v)) ≡ number_of xs + v * 2 ^ (64 * i)
unfolding number_of
number-set [] i v h = absurd (not-suc-le-zero h)
number-set (x ∷ xs) zero v h = omega arith
number-set (x ∷ xs) (suc i) v h =
    let r : number_of (set xs i (get_or xs i 0 + v)) ≡ number_of xs + v * 2 ^ (64 * i) = number-set xs i v (le_of_suc-le-suc h) in
    let e : v * 2 ^ (64 * suc i) ≡ v * 2 ^ (64 * i) * 2 ^ 64 = ap (λ (m : ℕ). v * m) (pow-word i) ∙ sym (mul_assoc v (2 ^ (64 * i)) (2 ^ 64)) in
    omega arith

-- only the n low words of a number count in its n low words
pub words-low : (n w : ℕ) → words_of n (w % 2 ^ (64 * n)) ≡ words_of n w
words-low n w =
    ap (words_of n) (sym (number-words n w))
    ∙ subst (λ (m : ℕ). words_of m (number_of (words_of n w)) ≡ words_of n w) (length-words n w) (words-number (words_of n w) (words-words n w))

-- ---- the words in any list

pub length-in : (n : ℕ) (xs : List ℕ) → length (words_in n xs) ≡ n
unfolding words_in
length-in zero xs = refl
length-in (suc n) xs = ap suc (length-in n (drop 1 xs))

pub word_in : (n : ℕ) (xs : List ℕ) (i : ℕ) → i < n → get_or (words_in n xs) i 0 ≡ get_or xs i 0 % 2 ^ 64
unfolding words_in
word_in zero xs i l = absurd (not-suc-le-zero l)
word_in (suc n) xs zero l = refl
word_in (suc n) xs (suc i) l =
    let e : 1 + i ≡ suc i = omega arith in
    word_in n (drop 1 xs) i (le_of_suc-le-suc l) ∙ ap (λ (x : ℕ). x % 2 ^ 64) (get_or-drop 1 xs i 0 ∙ ap (λ (j : ℕ). get_or xs j 0) e)

pub words-in : (n : ℕ) (xs : List ℕ) → Words (words_in n xs)
unfolding words_in
words-in zero xs i = pow_pos 64
words-in (suc n) xs zero = mod-lt (get_or xs 0 0) (pow_pos 64)
words-in (suc n) xs (suc i) = words-in n (drop 1 xs) i

-- of words they are the words themselves
pub in_words : (xs : List ℕ) → Words xs → words_in (length xs) xs ≡ xs
unfolding words_in
in_words [] h = refl
in_words (x ∷ xs) h = ap₂ (λ (a : ℕ) (l : List ℕ). a ∷ l) (mod-eq_of_lt (h 0)) (in_words xs (λ j. h (suc j)))
