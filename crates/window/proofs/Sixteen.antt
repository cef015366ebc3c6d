-- Sixteen words as one number below 2 ^ 1024. Assumes nothing.
use mathlib.Core.Path.{◌≡◌, sym, ap, ◌∙◌, subst}
use mathlib.Core.List.{List}
use Prim.Native.Nat.{ℕ, ◌+◌, ◌-◌, ◌*◌, ◌/◌, ◌%◌, ◌^◌, ◌≤◌, ◌<◌}
use native.Mathlib.Nat.{mod-eq_of_lt, one-mul, zero-mul, add-zero, add-mul-mod_self_right}
use native.Mathlib.Omega.{arith}
use lib.Pow.{pow-add, pow-lt}
use lib.ListN.{length, get_or, set, length-set}
use Rattle.window.specs.Words.{number_of, words_of, words_in, bit}
use Rattle.window.specs.Window.{lent_value, with_bit}
use Rattle.window.specs.declared.Window.{Window}
use Rattle.window.proofs.Bits.{bit-above, bit-room}
use Rattle.window.proofs.Words.{Words, number_lt, number_bit, words-number, words-low, number-set, words-set, length-in, words-in, in_words}

-- what owning a `[u64; 16]` tells of its list
pub record Sixteen (ws : List ℕ) : Type 0 where
  pub long : length ws ≡ 16
  pub words : Words ws

-- what sixteen words in any list are, and that a window's own words are these
pub lent : (xs : List ℕ) → Sixteen (words_in 16 xs)
lent xs = record { long = length-in 16 xs; words = words-in 16 xs }

pub lent_same : (ws : List ℕ) → Sixteen ws → words_in 16 ws ≡ ws
lent_same ws h = subst (λ (n : ℕ). words_in n ws ≡ ws) h.long (in_words ws h.words)

-- sixteen words that are told to be such
pub told : (ws : List ℕ) → words_in 16 ws ≡ ws → Sixteen ws
told ws e = subst Sixteen e (lent ws)

pub lent-value : (ws : List ℕ) → Sixteen ws → lent_value ws ≡ number_of ws
lent-value ws h = ap number_of (lent_same ws h)

-- equal words are equal windows
pub as-window : (l m : List ℕ) → l ≡ m → ◌≡◌ {A = Window} (record { words = l }) (record { words = m })
as-window l m e = ap {B = Window} (λ (x : List ℕ). record { words = x }) e

module _ (ws : List ℕ) (h : Sixteen ws) where
  -- the number has 1,024 bits
  pub bounded : number_of ws < 2 ^ 1024
  bounded = subst (λ (n : ℕ). number_of ws < 2 ^ (64 * n)) h.long (number_lt ws h.words)

  -- its words are the words again
  pub whole : words_of 16 (number_of ws) ≡ ws
  whole = subst (λ (n : ℕ). words_of n (number_of ws) ≡ ws) h.long (words-number ws h.words)

  -- a bit of it is a bit of one word
  pub at_place : (p : ℕ) → bit (number_of ws) p ≡ bit (get_or ws (p / 64) 0) (p % 64)
  at_place p =
      let e : p ≡ 64 * (p / 64) + p % 64 = omega arith in
      let l : p % 64 < 64 = omega arith in ap (bit (number_of ws)) e ∙ number_bit ws h.words (p / 64) (p % 64) l

  -- no bit is set from 1,024 on
  pub past : (p : ℕ) → 1024 ≤ p → bit (number_of ws) p ≡ 0
  past p l = bit-above (number_of ws) 1024 p bounded l

-- a word stored
stored : (ws : List ℕ) → Sixteen ws → (i x v : ℕ) → x < 2 ^ 64 → number_of (set ws i x) ≡ v → set ws i x ≡ words_of 16 v
stored ws h i x v l e =
    sym (whole (set ws i x) (record { long = length-set ws i x ∙ h.long; words = words-set ws h.words i x l })) ∙ ap (words_of 16) e

-- `1 << k`
pub one_at : (k : ℕ) → k < 64 → (1 * 2 ^ k) % 2 ^ 64 ≡ 2 ^ k
one_at k i = ap (λ (x : ℕ). x % 2 ^ 64) (one-mul (2 ^ k)) ∙ mod-eq_of_lt (pow-lt i)

-- ---- a place marked, in the words of the code

module _ (ws : List ℕ) (h : Sixteen ws) (p : ℕ) where
  -- a bit that is set already, a bit past the last, and a clear bit
  pub marked-already : bit (number_of ws) p ≡ 1 → ws ≡ words_of 16 (with_bit (number_of ws) p)
  marked-already e =
      let z : with_bit (number_of ws) p ≡ number_of ws
      = ap (λ (b : ℕ). number_of ws + (1 - b) * 2 ^ p) e ∙ ap (λ (x : ℕ). number_of ws + x) (zero-mul (2 ^ p)) ∙ add-zero (number_of ws) in
      sym (ap (words_of 16) z ∙ whole ws h)

  pub marked-past : 1024 ≤ p → ws ≡ words_of 16 (with_bit (number_of ws) p)
  marked-past l =
      let e : p ≡ p - 1024 + 1024 = omega arith in
      let m : 1 * 2 ^ p ≡ 2 ^ (p - 1024) * 2 ^ 1024 = one-mul (2 ^ p) ∙ ap (λ (x : ℕ). 2 ^ x) e ∙ pow-add 2 (p - 1024) 1024 in
      let r : (number_of ws + 1 * 2 ^ p) % 2 ^ 1024 ≡ number_of ws
      = ap (λ (x : ℕ). (number_of ws + x) % 2 ^ 1024) m ∙ add-mul-mod_self_right (number_of ws) (2 ^ (p - 1024)) (2 ^ 1024) ∙ mod-eq_of_lt (bounded ws h) in
      sym (ap (λ (b : ℕ). words_of 16 (number_of ws + (1 - b) * 2 ^ p)) (past ws h p l) ∙ sym (words-low 16 (number_of ws + 1 * 2 ^ p)) ∙ ap (words_of 16) r ∙ whole ws h)

  -- what the code adds to the word of a clear bit
  one-there : (1 * 2 ^ (p % 64)) % 2 ^ 64 ≡ 2 ^ (p % 64)
  one-there = one_at (p % 64) (omega arith)

  pub room : bit (number_of ws) p ≡ 0 → get_or ws (p / 64) 0 + (1 * 2 ^ (p % 64)) % 2 ^ 64 < 2 ^ 64
  room e =
      let i : p % 64 < 64 = omega arith in
      subst (λ (x : ℕ). get_or ws (p / 64) 0 + x < 2 ^ 64) (sym one-there)
      (bit-room 64 (get_or ws (p / 64) 0) (p % 64) (h.words (p / 64)) i (sym (at_place ws h p) ∙ e))

  pub marked-now : p < 1024 → bit (number_of ws) p ≡ 0
      → set ws (p / 64) (get_or ws (p / 64) 0 + (1 * 2 ^ (p % 64)) % 2 ^ 64) ≡ words_of 16 (with_bit (number_of ws) p)
  marked-now l e =
      let q : p % 64 + 64 * (p / 64) ≡ p = omega arith in
      let i : p / 64 < length ws = omega (arith, h.long) in
      let a : (1 * 2 ^ (p % 64)) % 2 ^ 64 * 2 ^ (64 * (p / 64)) ≡ (1 - bit (number_of ws) p) * 2 ^ p
      = ap (λ (x : ℕ). x * 2 ^ (64 * (p / 64))) one-there ∙ sym (pow-add 2 (p % 64) (64 * (p / 64))) ∙ ap (λ (x : ℕ). 2 ^ x) q
      ∙ sym (one-mul (2 ^ p)) ∙ ap (λ (b : ℕ). (1 - b) * 2 ^ p) (sym e) in
      stored ws h (p / 64) _ _ (room e) (number-set ws (p / 64) ((1 * 2 ^ (p % 64)) % 2 ^ 64) i ∙ ap (λ (x : ℕ). number_of ws + x) a)
