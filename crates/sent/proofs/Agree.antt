-- Which records are consistent: the marks as they are judged by words, and by numbers.
-- Assumes nothing.
use Prim.Native.Nat.{ℕ, zero, suc, ◌+◌, ◌-◌, ◌/◌, ◌%◌, ◌^◌, ◌≤◌, ◌<◌}
use mathlib.Core.Path.{◌≡◌, refl, sym, ap, ap₂, ◌∙◌}
use mathlib.Core.Bool.{Bool, true, false, not, ◌&&◌, ◌||◌}
use mathlib.Core.List.{List}
use native.Mathlib.Decide.{dec_le}
use native.Mathlib.Omega.{arith}
use borrow.Author.Tests.{eqb-true, eqb-false, le-leb, lt-leb, lt-ltb, le-ltb, not-false}
use lib.Bits.{bit_and, bit_or, and_lt, or_lt}
use lib.Dec.{leb, ltb, eqb}
use lib.ListN.{get_or, replicate, get_or-replicate}
use lib.Pow.{pow_pos}
use Rattle.window.specs.Words.{bit}
use Rattle.window.specs.Window.{is_set}
use Rattle.window.proofs.Bits.{bit-lt, bit-above, same_bits}
use Rattle.marks.specs.Marks.{mark, number_at, none_in, between, with_range}
use Rattle.sent.specs.Record.{DueMarks, next_of, end_of, is_due, wrong_at, wrong_bit, word_wrong}
use Rattle.marks.proofs.Listing.{none-says, none_is, same_test}
use Rattle.marks.proofs.Bits.{set-and, set-or, set-not, set-zero}
use Rattle.marks.proofs.Ranges.{range-marks}

-- ---- one word

-- a word with no bit set is 0
no_bits : (x : ℕ) → x < 2 ^ 64 → ((k : ℕ) → k < 64 → is_set x k ≡ false) → x ≡ 0
no_bits x h f = same_bits 64 x 0 h (pow_pos 64) (λ k l. clear k (f k l) ∙ sym (bit-above 0 0 k (omega arith) (omega arith)))
  where
    clear : (k : ℕ) → is_set x k ≡ false → bit x k ≡ 0
    clear k e = let n = eqb-false (bit x k) 1 e in let l = bit-lt x k in zero_is (bit x k) n l
      where
        zero_is : (b : ℕ) → (b ≡ 1 → ⊥) → b < 2 → b ≡ 0
        zero_is zero n l = refl
        zero_is (suc zero) n l = absurd (n refl)
        zero_is (suc (suc b)) n l = absurd (omega arith)

pub some-wrong : (p : ℕ → Bool) (x : ℕ) → x < 2 ^ 64 → (x ≡ 0 → ⊥) → ((k : ℕ) → k < 64 → is_set x k ≡ true → p k ≡ true) → false ≡ none_in p 64 0
some-wrong p x h n f = go (none_in p 64 0) refl
  where
    off : none_in p 64 0 ≡ true → (k : ℕ) → k < 64 → (b : Bool) → is_set x k ≡ b → is_set x k ≡ false
    off e k l true t = let z : true ≡ false = sym (f k l t) ∙ none-says p 64 0 k e (omega arith) (omega arith) in t ∙ z
    off e k l false t = t

    go : (b : Bool) → none_in p 64 0 ≡ b → false ≡ none_in p 64 0
    go true e = absurd (n (no_bits x h (λ k l. off e k l (is_set x k) refl)))
    go false e = sym e

zero_clear : (x k : ℕ) → x ≡ 0 → is_set x k ≡ false
zero_clear x k e = ap (λ (y : ℕ). is_set y k) e ∙ set-zero k

module _ (a l d o : ℕ) (ha : a < 2 ^ 64) (hl : l < 2 ^ 64) (hd : d < 2 ^ 64) (ho : o < 2 ^ 64) where
  either : ℕ → Bool
  either k = is_set a k || is_set l k

  due-bit : (k : ℕ) → k < 64 → is_set (bit_and d (2 ^ 64 - 1 - bit_or a l)) k ≡ (is_set d k && not (is_set a k || is_set l k))
  due-bit k m =
      set-and d (2 ^ 64 - 1 - bit_or a l) k
      ∙ ap (λ (x : Bool). is_set d k && x) (set-not (bit_or a l) k (or_lt 64 a l ha hl) m ∙ ap not (set-or a l k))

  outside-bit : (k : ℕ) → is_set (bit_and o (bit_or a l)) k ≡ (is_set o k && (is_set a k || is_set l k))
  outside-bit k = set-and o (bit_or a l) k ∙ ap (λ (x : Bool). is_set o k && x) (set-or a l k)

  first-true : (x y z : Bool) → x ≡ true → ((x || y) || z) ≡ true
  first-true x y z e = ap (λ (b : Bool). (b || y) || z) e

  second-true : (x y z : Bool) → y ≡ true → ((x || y) || z) ≡ true
  second-true true y z e = refl
  second-true false y z e = ap (λ (b : Bool). b || z) e

  third-true : (x y o e : Bool) → (o && e) ≡ true → ((x || y) || (o && not (not e))) ≡ true
  third-true true y o e t = refl
  third-true false true o e t = refl
  third-true false false true true t = refl
  third-true false false true false t = t
  third-true false false false e t = t

  all-false : (x y o e : Bool) → x ≡ false → y ≡ false → (o && e) ≡ false → ((x || y) || (o && not (not e))) ≡ false
  all-false x y true true p q t = absurd (let z : ◌≡◌ {A = ℕ} 0 1 = cc in omega arith)
  all-false x y true false p q t = rw (p, q) refl
  all-false x y false e p q t = rw (p, q) refl

  abbrev wrong : ℕ → Bool
  wrong = wrong_bit a l d o

  pub both-wrong : (bit_and a l ≡ 0 → ⊥) → false ≡ none_in wrong 64 0
  both-wrong n = some-wrong wrong (bit_and a l) (and_lt 64 a l ha hl) n (λ k m t. first-true _ _ _ (sym (set-and a l k) ∙ t))

  pub due-wrong : (bit_and d (2 ^ 64 - 1 - bit_or a l) ≡ 0 → ⊥) → false ≡ none_in wrong 64 0
  due-wrong n =
      some-wrong wrong (bit_and d (2 ^ 64 - 1 - bit_or a l)) (and_lt 64 d (2 ^ 64 - 1 - bit_or a l) hd (omega (arith, pow_pos 64))) n
      (λ k m t. second-true (is_set a k && is_set l k) _ _ (sym (due-bit k m) ∙ t))

  pub outside-judged : bit_and a l ≡ 0 → bit_and d (2 ^ 64 - 1 - bit_or a l) ≡ 0 → eqb (bit_and o (bit_or a l)) 0 ≡ none_in wrong 64 0
  outside-judged p q = go (eqb (bit_and o (bit_or a l)) 0) refl
    where
      go : (b : Bool) → eqb (bit_and o (bit_or a l)) 0 ≡ b → eqb (bit_and o (bit_or a l)) 0 ≡ none_in wrong 64 0
      go true e =
          e ∙ sym (none_is wrong 64 0 (λ k h m.
          all-false (is_set a k && is_set l k) (is_set d k && not (is_set a k || is_set l k)) (is_set o k) (is_set a k || is_set l k)
          (sym (set-and a l k) ∙ zero_clear (bit_and a l) k p) (sym (due-bit k (omega arith)) ∙ zero_clear (bit_and d (2 ^ 64 - 1 - bit_or a l)) k q)
          (sym (outside-bit k) ∙ zero_clear (bit_and o (bit_or a l)) k (eqb-true (bit_and o (bit_or a l)) 0 e))))
      go false e =
          e ∙ some-wrong wrong (bit_and o (bit_or a l)) (and_lt 64 o (bit_or a l) ho (or_lt 64 a l ha hl)) (eqb-false (bit_and o (bit_or a l)) 0 e)
          (λ k m t. third-true (is_set a k && is_set l k) (is_set d k && not (is_set a k || is_set l k)) (is_set o k) (is_set a k || is_set l k) (sym (outside-bit k) ∙ t))

-- ---- all sixteen, by the numbers of the window from floor on

module _ (r due outside : List ℕ) (floor : ℕ) (isDueThere : (n : ℕ) → floor ≤ n → n < floor + 1024 → mark due n ≡ is_due (end_of r) n) (isOutside : (n : ℕ) → floor ≤ n → n < floor + 1024 → mark outside n ≡ leb (next_of r) n) where
  same-wrong : (n : ℕ) → floor ≤ n → n < floor + 1024
      → wrong_bit (get_or r (n / 64 % 16) 0) (get_or r (16 + n / 64 % 16) 0) (get_or due (n / 64 % 16) 0) (get_or outside (n / 64 % 16) 0) (n % 64) ≡ wrong_at r n
  same-wrong n h l =
      let a : Bool = is_set (get_or r (n / 64 % 16) 0) (n % 64) in
      let b : Bool = is_set (get_or r (16 + n / 64 % 16) 0) (n % 64) in
      ap₂ (λ (x y : Bool). ((a && b) || (x && not (a || b))) || (y && not (not (a || b)))) (isDueThere n h l) (isOutside n h l)

  pub by-numbers : none_in (word_wrong r due outside) 16 0 ≡ none_in (wrong_at r) 1024 floor
  unfolding number_at
  by-numbers = same_test (none_in (word_wrong r due outside) 16 0) (none_in (wrong_at r) 1024 floor) to-numbers to-words
    where
      to-numbers : none_in (word_wrong r due outside) 16 0 ≡ true → none_in (wrong_at r) 1024 floor ≡ true
      to-numbers e = none_is (wrong_at r) 1024 floor (λ n h l.
          let i : ℕ = n / 64 % 16 in
          let w = not-false _ (none-says (word_wrong r due outside) 16 0 i e (omega arith) (omega arith)) in
          sym (same-wrong n h l) ∙ none-says (wrong_bit (get_or r i 0) (get_or r (16 + i) 0) (get_or due i 0) (get_or outside i 0)) 64 0 (n % 64) w (omega arith) (omega arith))

      one_word : none_in (wrong_at r) 1024 floor ≡ true → (i : ℕ) → i < 16 → word_wrong r due outside i ≡ false
      one_word e i l = ap not (none_is (wrong_bit (get_or r i 0) (get_or r (16 + i) 0) (get_or due i 0) (get_or outside i 0)) 64 0 (λ k h m.
          let n : ℕ = number_at floor i k in
          let p : n / 64 % 16 ≡ i = omega arith in
          let q : n % 64 ≡ k = omega arith in
          ap₂ (λ (x y : ℕ). wrong_bit (get_or r x 0) (get_or r (16 + x) 0) (get_or due x 0) (get_or outside x 0) y) (sym p) (sym q)
          ∙ same-wrong n (omega arith) (omega arith) ∙ none-says (wrong_at r) 1024 floor n e (omega arith) (omega arith)))

      to-words : none_in (wrong_at r) 1024 floor ≡ true → none_in (word_wrong r due outside) 16 0 ≡ true
      to-words e = none_is (word_wrong r due outside) 16 0 (λ i h l. one_word e i (omega arith))

-- ---- the two masks

pub no-mark : (n : ℕ) → mark (replicate 16 0) n ≡ false
no-mark n = ap (λ (x : ℕ). is_set x (n % 64)) (get_or-replicate 16 (n / 64 % 16) 0 0 (omega arith)) ∙ set-zero (n % 64)

-- ws is what marking a range has made of sixteen words of 0
from-none : (ws : List ℕ) (from to floor n : ℕ) → ws ≡ with_range (replicate 16 0) (to - from) from → floor ≤ from → to ≤ floor + 1024 → floor ≤ n → n < floor + 1024
    → mark ws n ≡ between from to n
from-none ws from to floor n r low high above below =
    ap (λ (l : List ℕ). mark l n) r ∙ range-marks (replicate 16 0) from to floor n refl low high above below ∙ ap (λ (x : Bool). x || between from to n) (no-mark n)

pub due-is : (ws : List ℕ) (floor end to : ℕ) → to ≡ end - 3 → ws ≡ with_range (replicate 16 0) (to - floor) floor → DueMarks ws floor end
due-is ws floor end to h r = record {
  marks = λ small n above below.
      from-none ws floor to floor n r (omega arith) (omega arith) above below
      ∙ ap (λ (x : Bool). x && ltb n to) (le-leb floor n above)
      ∙ elim (dec_le (n + 4) end) [
        | yes l ↦ lt-ltb n to (omega arith) ∙ sym (le-leb (n + 4) end l)
        | no l ↦ le-ltb n to (omega arith) ∙ sym (lt-leb (n + 4) end (omega arith))
      ];
}

pub outside-is : (ws : List ℕ) (next : ℕ) → ws ≡ with_range (replicate 16 0) (1024 - next) next → (n : ℕ) → next - 1024 ≤ n → n < next - 1024 + 1024 → mark ws n ≡ leb next n
outside-is ws next r n above below =
    from-none ws next 1024 (next - 1024) n r (omega arith) (omega arith) above below
    ∙ elim (dec_le next n) [
      | yes l ↦ ap₂ ◌&&◌ (le-leb next n l) (lt-ltb n 1024 (omega arith)) ∙ sym (le-leb next n l)
      | no l ↦ ap (λ (x : Bool). x && ltb n 1024) (lt-leb next n (omega arith)) ∙ sym (lt-leb next n (omega arith))
    ]
