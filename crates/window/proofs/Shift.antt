-- A number divided by 2 ^ d, word by word: the words move down, or each takes its high bits and the low bits of the next. Assumes nothing.
use mathlib.Core.Path.{◌≡◌, sym, ap, ap₂, ◌∙◌, subst}
use mathlib.Core.List.{List}
use Prim.Native.Nat.{ℕ, ◌+◌, ◌-◌, ◌*◌, ◌/◌, ◌%◌, ◌^◌, ◌≤◌, ◌<◌}
use native.Mathlib.Nat.{lt_of_lt_of_le, lt_of_le_of_lt, div-eq_of_lt, mod-eq_of_lt, div-one, add-zero, add_comm, mul_assoc, mul-add-div_right, zero-mul}
use native.Mathlib.Decide.{dec_lt}
use native.Mathlib.Omega.{arith}
use lib.Arith.{digits_div, digits_mod}
use lib.Pow.{pow-add, pow_pos, pow_mono, shr_le, shr_lt, shr-shr, mod-pow-add, mod-mod-pow, field}
use lib.ListN.{length, get_or, drop, get_or-eq_default}
use lib.Seq.{get_or-drop, ext_get_or}
use Rattle.window.specs.Words.{number_of, words_of}
use Rattle.window.proofs.Words.{Words, number-drop, number_word, number-words, length-words, get_d_words}
use Rattle.window.proofs.Sixteen.{Sixteen, bounded}

-- a word of a number
abbrev pub word_at : ℕ → ℕ → ℕ
word_at w i = w / 2 ^ (64 * i) % 2 ^ 64

-- sixteen words that are each a number's are its words
pub word-by-word : (ys : List ℕ) (w : ℕ) → length ys ≡ 16 → ((k : ℕ) → k < 16 → get_or ys k 0 ≡ word_at w k) → ys ≡ words_of 16 w
word-by-word ys w n h =
    ext_get_or 0 ys (words_of 16 w) (n ∙ sym (length-words 16 w)) (λ k l. h k (omega arith) ∙ sym (get_d_words 16 w k (omega arith)))

-- the words of a number moved down by q words
moved : (ws : List ℕ) → Words ws → (q k : ℕ) → get_or ws (q + k) 0 ≡ word_at (number_of ws / 2 ^ (64 * q)) k
moved ws h q k =
    let e : 64 * (q + k) ≡ 64 * q + 64 * k = omega arith in
    sym (number_word ws h (q + k)) ∙ ap (λ (x : ℕ). x % 2 ^ 64) (ap (λ (x : ℕ). number_of ws / 2 ^ x) e ∙ sym (shr-shr (number_of ws) (64 * q) (64 * k)))

-- how far the words have moved: those below i stand q places down, and above them is 0
pub record Moving (ws next : List ℕ) (q i : ℕ) : Type 0 where
  pub long : length next ≡ 16
  pub done : (k : ℕ) → k + q < i → get_or next k 0 ≡ get_or ws (q + k) 0
  pub rest : (k : ℕ) → i ≤ k + q → get_or next k 0 ≡ 0

-- and at the end
pub moving-all : (ws next : List ℕ) (q i : ℕ) → Sixteen ws → Moving ws next q i → 16 ≤ i → next ≡ words_of 16 (number_of ws / 2 ^ (64 * q))
moving-all ws next q i h m a = word-by-word next (number_of ws / 2 ^ (64 * q)) m.long (λ k l. at-word k ∙ moved ws h.words q k)
  where
    at-word : (k : ℕ) → get_or next k 0 ≡ get_or ws (q + k) 0
    at-word k =
        elim (dec_lt (k + q) i) [
          | yes g ↦ m.done k g
          | no g ↦ m.rest k (omega arith) ∙ sym (get_or-eq_default ws 0 (omega (arith, h.long)))
        ]

-- a number shifted up by k bits keeps its s low bits in s + k bits
pub up : (s k a r : ℕ) → r < 2 ^ k → (a * 2 ^ k + r) % 2 ^ (s + k) ≡ a % 2 ^ s * 2 ^ k + r
up s k a r h = mod-pow-add (a * 2 ^ k + r) s k ∙ ap₂ (λ (x y : ℕ). x % 2 ^ s * 2 ^ k + y) (digits_div a h) (digits_mod a h)

-- what the code joins, at every width: `(lo >> s) + (hi << k)` of words of s + k bits
joined : (s k lo hi : ℕ) → lo < 2 ^ (s + k) → lo / 2 ^ s + (hi * 2 ^ k) % 2 ^ (s + k) ≡ (hi * 2 ^ (s + k) + lo) / 2 ^ s % 2 ^ (s + k)
joined s k lo hi h =
    let m : 2 ^ (s + k) ≡ 2 ^ k * 2 ^ s = ap (λ (x : ℕ). 2 ^ x) (add_comm s k) ∙ pow-add 2 k s in
    let r : lo / 2 ^ s < 2 ^ k = shr_lt k s (subst (λ (x : ℕ). lo < 2 ^ x) (add_comm s k) h) in
    let a : (hi * 2 ^ (s + k) + lo) / 2 ^ s ≡ hi * 2 ^ k + lo / 2 ^ s
    = ap (λ (x : ℕ). (hi * x + lo) / 2 ^ s) m ∙ ap (λ (x : ℕ). (x + lo) / 2 ^ s) (sym (mul_assoc hi (2 ^ k) (2 ^ s)))
    ∙ mul-add-div_right (pow_pos s) (hi * 2 ^ k) lo in
    let b : (hi * 2 ^ k) % 2 ^ (s + k) ≡ hi % 2 ^ s * 2 ^ k
    = ap (λ (x : ℕ). x % 2 ^ (s + k)) (sym (add-zero (hi * 2 ^ k))) ∙ up s k hi 0 (pow_pos k) ∙ add-zero (hi % 2 ^ s * 2 ^ k) in
    ap (λ (x : ℕ). lo / 2 ^ s + x) b ∙ add_comm (lo / 2 ^ s) (hi % 2 ^ s * 2 ^ k) ∙ sym (ap (λ (x : ℕ). x % 2 ^ (s + k)) a ∙ up s k hi (lo / 2 ^ s) r)

-- n bits of w from s on lie in the n + k low bits, where s is at most k
inside : (w n s k : ℕ) → s ≤ k → w / 2 ^ s % 2 ^ n ≡ w % 2 ^ (n + k) / 2 ^ s % 2 ^ n
inside w n s k l =
    let e : k - s + (n + s) ≡ n + k = omega arith in
    sym (field w n s)
    ∙ ap (λ (x : ℕ). x / 2 ^ s) (sym (mod-mod-pow w (k - s) (n + s)) ∙ ap (λ (x : ℕ). w % 2 ^ x % 2 ^ (n + s)) e)
    ∙ field (w % 2 ^ (n + k)) n s

-- the two low words of a number
two-words : (ys : List ℕ) → Words ys → number_of ys % 2 ^ 128 ≡ get_or ys 1 0 * 2 ^ 64 + get_or ys 0 0
two-words ys h =
    mod-pow-add (number_of ys) 64 64
    ∙ ap₂ (λ (x y : ℕ). x * 2 ^ 64 + y) (number_word ys h 1) (ap (λ (v : ℕ). v % 2 ^ 64) (sym (div-one (number_of ys))) ∙ number_word ys h 0)

module _ (ws : List ℕ) (h : Sixteen ws) (s : ℕ) (small : s < 64) where
  -- the words of a number shifted down by s bits
  pub shifted : (i : ℕ) → get_or ws i 0 / 2 ^ s + (get_or ws (i + 1) 0 * 2 ^ (64 - s)) % 2 ^ 64 ≡ word_at (number_of ws / 2 ^ s) i
  shifted i =
      let d : s + (64 - s) ≡ 64 = omega arith in
      let l : s ≤ 64 = omega arith in
      let j : get_or ws i 0 / 2 ^ s + (get_or ws (i + 1) 0 * 2 ^ (64 - s)) % 2 ^ 64 ≡ (get_or ws (i + 1) 0 * 2 ^ 64 + get_or ws i 0) / 2 ^ s % 2 ^ 64
      = subst (λ (n : ℕ). get_or ws i 0 < 2 ^ n → get_or ws i 0 / 2 ^ s + (get_or ws (i + 1) 0 * 2 ^ (64 - s)) % 2 ^ n ≡ (get_or ws (i + 1) 0 * 2 ^ n + get_or ws i 0) / 2 ^ s % 2 ^ n) d
      (joined s (64 - s) (get_or ws i 0) (get_or ws (i + 1) 0)) (h.words i) in
      let v : number_of ws / 2 ^ s / 2 ^ (64 * i) ≡ number_of (drop i ws) / 2 ^ s
      = shr-shr (number_of ws) s (64 * i) ∙ ap (λ (x : ℕ). number_of ws / 2 ^ x) (add_comm s (64 * i)) ∙ sym (shr-shr (number_of ws) (64 * i) s)
      ∙ ap (λ (x : ℕ). x / 2 ^ s) (number-drop ws h.words i) in
      let g : (k : ℕ) → get_or (drop i ws) k 0 ≡ get_or ws (i + k) 0 = λ k. get_or-drop i ws k 0 in
      let t : number_of (drop i ws) % 2 ^ 128 ≡ get_or ws (i + 1) 0 * 2 ^ 64 + get_or ws i 0
      = two-words (drop i ws) (λ k. subst (λ (x : ℕ). x < 2 ^ 64) (sym (g k)) (h.words (i + k)))
      ∙ ap₂ (λ (x y : ℕ). x * 2 ^ 64 + y) (g 1) (g 0 ∙ ap (λ (x : ℕ). get_or ws x 0) (add-zero i)) in
      j ∙ sym (ap (λ (x : ℕ). x % 2 ^ 64) v ∙ inside (number_of (drop i ws)) 64 s 64 l ∙ ap (λ (x : ℕ). x / 2 ^ s % 2 ^ 64) t)

  -- the last word, above which there is none
  pub shifted-last : get_or ws 15 0 / 2 ^ s ≡ word_at (number_of ws / 2 ^ s) 15
  shifted-last =
      let z : get_or ws 16 0 ≡ 0 = get_or-eq_default ws 0 (omega (arith, h.long)) in
      let o : (get_or ws 16 0 * 2 ^ (64 - s)) % 2 ^ 64 ≡ 0
      = ap (λ (x : ℕ). (x * 2 ^ (64 - s)) % 2 ^ 64) z ∙ ap (λ (x : ℕ). x % 2 ^ 64) (zero-mul (2 ^ (64 - s))) in
      sym (ap (λ (x : ℕ). get_or ws 15 0 / 2 ^ s + x) o ∙ add-zero (get_or ws 15 0 / 2 ^ s)) ∙ shifted 15

-- ---- the number of sixteen words, divided

module _ (ws : List ℕ) (h : Sixteen ws) (d : ℕ) where
  -- by so much that nothing is left
  pub shifted-out : 1024 ≤ d → number_of ws / 2 ^ d ≡ 0
  shifted-out l = div-eq_of_lt (lt_of_lt_of_le (bounded ws h) (pow_mono l))

  -- by whole words, and then by the bits that are left
  pub in_two : number_of (words_of 16 (number_of ws / 2 ^ (64 * (d / 64)))) / 2 ^ (d % 64) ≡ number_of ws / 2 ^ d
  in_two =
      let e : 64 * (d / 64) + d % 64 ≡ d = omega arith in
      ap (λ (x : ℕ). x / 2 ^ (d % 64)) (number-words 16 _ ∙ mod-eq_of_lt (lt_of_le_of_lt (shr_le (number_of ws) (64 * (d / 64))) (bounded ws h)))
      ∙ shr-shr (number_of ws) (64 * (d / 64)) (d % 64) ∙ ap (λ (x : ℕ). number_of ws / 2 ^ x) e
