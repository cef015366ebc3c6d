-- A range marked number by number is what the code stores a word at a time, and what it says in a window of 1,024 that holds the range.
-- Assumes nothing.
use Prim.Native.Nat.{ℕ, zero, suc, ◌+◌, ◌-◌, ◌*◌, ◌/◌, ◌%◌, ◌^◌, ◌≤◌, ◌<◌}
use mathlib.Core.Path.{◌≡◌, refl, sym, ap, ap₂, ◌∙◌}
use mathlib.Core.Bool.{Bool, true, false, ◌||◌}
use mathlib.Core.List.{List}
use native.Mathlib.Nat.{pow-suc, mod-lt, le_trans, zero-mul}
use native.Mathlib.Decide.{dec_le}
use native.Mathlib.Omega.{arith}
use borrow.Author.Tests.{eqb-true, eqb-false}
use lib.Bits.{bit_or, or_lt, or_zero_r}
use lib.Dec.{eqb}
use lib.ListN.{length, get_or, set, length-set}
use lib.Pow.{pow_pos, pow_mono}
use lib.Seq.{get_or-set_same, set_out, set-set}
use Rattle.window.specs.Window.{is_set, with_bit}
use Rattle.window.proofs.Laws.{mark-there, mark-elsewhere, mark-below, rest-mark, same-marks}
use Rattle.marks.specs.Marks.{mark, between, with_mark, with_range}
use Rattle.marks.proofs.Bits.{set-or, set-run}
use Rattle.marks.proofs.Ring.{or-none, between-same, empty, meet, run-marked}

-- ---- a run of bits, one by one

-- the run of ones that the code stores
abbrev pub run : ℕ → ℕ → ℕ
run len k = (2 ^ 64 - 1) / 2 ^ (64 - len) * 2 ^ k % 2 ^ 64

below_power : (n : ℕ) → n < 2 ^ n
below_power zero = omega arith
below_power (suc n) = omega (arith, below_power n, pow-suc 2 n)

or-all : (x : Bool) → (x || true) ≡ true
or-all true = refl
or-all false = refl

module _ (w len k : ℕ) (one : k + suc len ≤ 64) where
  alike : (q : ℕ) → is_set (bit_or (with_bit w k) (run len (k + 1))) q ≡ is_set (bit_or w (run (suc len) k)) q
  alike q = set-or (with_bit w k) (run len (k + 1)) q ∙ go (eqb q k) refl ∙ sym (set-or w (run (suc len) k) q)
    where
      go : (b : Bool) → eqb q k ≡ b → (is_set (with_bit w k) q || is_set (run len (k + 1)) q) ≡ (is_set w q || is_set (run (suc len) k) q)
      go true e =
          let h : q ≡ k = eqb-true q k e in
          let t : between k (k + suc len) q ≡ between 0 1 0 = between-same k (k + suc len) q 0 1 0 (λ a b. (omega arith, omega arith)) (λ a b. (omega arith, omega arith)) in
          ap (λ (x : Bool). x || is_set (run len (k + 1)) q) (ap (is_set (with_bit w k)) h ∙ mark-there w k)
          ∙ sym (ap (λ (x : Bool). is_set w q || x) (set-run (suc len) k q one (omega arith) ∙ t) ∙ or-all (is_set w q))
      go false e =
          let f : q ≡ k → ⊥ = eqb-false q k e in
          ap₂ ◌||◌ (mark-elsewhere w k q f) (elim (dec_le 64 q) [
            | yes h ↦ rest-mark ((2 ^ 64 - 1) / 2 ^ (64 - len) * 2 ^ (k + 1)) 64 q h ∙ sym (rest-mark ((2 ^ 64 - 1) / 2 ^ (64 - suc len) * 2 ^ k) 64 q h)
            | no h ↦
                set-run len (k + 1) q (omega arith) (omega arith)
                ∙ between-same (k + 1) (k + 1 + len) q k (k + suc len) q (λ a b. (omega arith, omega arith)) (λ a b. (low f a, omega arith))
                ∙ sym (set-run (suc len) k q one (omega arith))
          ])
        where
          low : (q ≡ k → ⊥) → k ≤ q → k + 1 ≤ q
          low f a = elim (dec_le (k + 1) q) [ yes h ↦ h | no h ↦ absurd (f (omega arith)) ]

  -- the first bit, then the others
  run-first : bit_or (with_bit w k) (run len (k + 1)) ≡ bit_or w (run (suc len) k)
  run-first =
      let n : ℕ = 64 + w in
      let small : w < 2 ^ n = le_trans (below_power w) (pow_mono {i = w} {j = n} (omega arith)) in
      let fits : (x : ℕ) → x % 2 ^ 64 < 2 ^ n = λ x. le_trans (mod-lt x (pow_pos 64)) (pow_mono {i = 64} {j = n} (omega arith)) in
      same-marks n (bit_or (with_bit w k) (run len (k + 1))) (bit_or w (run (suc len) k))
      (or_lt n (with_bit w k) (run len (k + 1)) (mark-below n w k small (omega arith)) (fits ((2 ^ 64 - 1) / 2 ^ (64 - len) * 2 ^ (k + 1))))
      (or_lt n w (run (suc len) k) small (fits ((2 ^ 64 - 1) / 2 ^ (64 - suc len) * 2 ^ k)))
      (λ q h. alike q)

-- ---- numbers of one word

-- the word of at, with len numbers from at on
abbrev run_in : List ℕ → ℕ → ℕ → List ℕ
run_in ws len at = set ws (at / 64 % 16) (bit_or (get_or ws (at / 64 % 16) 0) (run len (at % 64)))

pub run_is : (len : ℕ) (ws : List ℕ) (at : ℕ) → at % 64 + suc len ≤ 64 → with_range ws (suc len) at ≡ run_in ws (suc len) at
unfolding with_range
run_is zero ws at one =
    let w : ℕ = get_or ws (at / 64 % 16) 0 in
    ap (set ws (at / 64 % 16)) (sym (or_zero_r (with_bit w (at % 64))) ∙ ap (bit_or (with_bit w (at % 64))) (nothing (at % 64 + 1)) ∙ run-first w 0 (at % 64) one)
  where
    nothing : (k : ℕ) → 0 ≡ run 0 k
    nothing k = sym (ap (λ (x : ℕ). x % 2 ^ 64) (zero-mul (2 ^ k)))
run_is (suc len) ws at one =
    run_is len (with_mark ws at) (suc at) (omega arith)
    ∙ ap₂ (λ (i k : ℕ). set (with_mark ws at) i (bit_or (get_or (with_mark ws at) i 0) (run (suc len) k))) same_word same_bit
    ∙ elim (dec_le (length ws) (at / 64 % 16)) [
      | yes h ↦ set_out (with_mark ws at) (at / 64 % 16) _ (rw (length-set ws (at / 64 % 16) (with_bit w (at % 64))) h) ∙ set_out ws (at / 64 % 16) _ h ∙ sym (set_out ws (at / 64 % 16) _ h)
      | no h ↦
          set-set ws (at / 64 % 16) (with_bit w (at % 64)) _
          ∙ ap (set ws (at / 64 % 16)) (ap (λ (x : ℕ). bit_or x (run (suc len) (at % 64 + 1))) (get_or-set_same ws (at / 64 % 16) (with_bit w (at % 64)) 0 (omega arith)) ∙ run-first w (suc len) (at % 64) one)
    ]
  where
    w : ℕ
    w = get_or ws (at / 64 % 16) 0

    same_word : suc at / 64 % 16 ≡ at / 64 % 16
    same_word = omega arith

    same_bit : suc at % 64 ≡ at % 64 + 1
    same_bit = omega arith

-- ---- ranges one after the other

pub range-more : (ws : List ℕ) (k len n at : ℕ) → at ≡ n + k → with_range (with_range ws k n) len at ≡ with_range ws (k + len) n
unfolding with_range
range-more ws zero len n at e =
    let j : len ≡ 0 + len = omega arith in
    let m : at ≡ n = omega arith in
    ap₂ (with_range ws) j m
range-more ws (suc k) len n at e =
    let j : suc (k + len) ≡ suc k + len = omega arith in
    range-more (with_mark ws n) k len (suc n) at (omega arith) ∙ ap (λ (j : ℕ). with_range ws j n) j

-- a run behind a range
pub range-run : (ws now : List ℕ) (from at len : ℕ) → from ≤ at → 0 < len → at % 64 + len ≤ 64 → now ≡ with_range ws (at - from) from → run_in now len at ≡ with_range ws (at + len - from) from
range-run ws now from at zero start some one e = absurd (omega arith)
range-run ws now from at (suc len) start some one e =
    let j : at - from + suc len ≡ at + suc len - from = omega arith in
    sym (run_is len now at one) ∙ ap (λ (l : List ℕ). with_range l (suc len) at) e ∙ range-more ws (at - from) (suc len) from at (omega arith) ∙ ap (λ (j : ℕ). with_range ws j from) j

pub range_none : (ws : List ℕ) (from to : ℕ) → to ≤ from → ws ≡ with_range ws (to - from) from
unfolding with_range
range_none ws from to h = let z : 0 ≡ to - from = omega arith in ap (λ (k : ℕ). with_range ws k from) z

pub range-long : (ws : List ℕ) (k n : ℕ) → length (with_range ws k n) ≡ length ws
unfolding with_range
range-long ws zero n = refl
range-long ws (suc k) n = range-long (with_mark ws n) k (suc n) ∙ length-set ws (n / 64 % 16) (with_bit (get_or ws (n / 64 % 16) 0) (n % 64))

-- ---- in a window of 1,024 that holds the range

counted-marks : (ws : List ℕ) (k n floor m : ℕ) → length ws ≡ 16 → floor ≤ n → n + k ≤ floor + 1024 → floor ≤ m → m < floor + 1024 → mark (with_range ws k n) m ≡ (mark ws m || between n (n + k) m)
unfolding with_range
counted-marks ws zero n floor m long low high above below = sym (ap (λ (x : Bool). mark ws m || x) (empty n (n + 0) m (λ a b. omega arith)) ∙ or-none (mark ws m))
counted-marks ws (suc k) n floor m long low high above below =
    let a : suc n ≡ n + 1 = omega arith in
    let b : suc n + k ≡ n + suc k = omega arith in
    counted-marks (with_mark ws n) k (suc n) floor m (length-set ws (n / 64 % 16) (with_bit (get_or ws (n / 64 % 16) 0) (n % 64)) ∙ long) (omega arith) (omega arith) above below
    ∙ ap₂ (λ (x y : Bool). x || y) (ap (λ (l : List ℕ). mark l m) (run_is 0 ws n (omega arith)) ∙ run-marked ws n 1 floor m long (omega arith) low (omega arith) above below) (ap₂ (λ (a b : ℕ). between a b m) a b)
    ∙ meet (mark ws m) n (n + 1) (n + suc k) m (omega arith) (omega arith)

pub range-marks : (ws : List ℕ) (from to floor m : ℕ) → length ws ≡ 16 → floor ≤ from → to ≤ floor + 1024 → floor ≤ m → m < floor + 1024 → mark (with_range ws (to - from) from) m ≡ (mark ws m || between from to m)
range-marks ws from to floor m long low high above below =
    elim (dec_le from to) [
      | yes h ↦ let b : from + (to - from) ≡ to = omega arith in counted-marks ws (to - from) from floor m long low (omega arith) above below ∙ ap (λ (b : ℕ). mark ws m || between from b m) b
      | no h ↦ ap (λ (l : List ℕ). mark l m) (sym (range_none ws from to (omega arith))) ∙ sym (ap (λ (x : Bool). mark ws m || x) (empty from to m (λ a b. omega arith)) ∙ or-none (mark ws m))
    ]
