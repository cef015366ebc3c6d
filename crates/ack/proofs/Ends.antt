-- The ends of runs in the rest of a word: a run of one mark ends at the highest place that has the other, or goes on below the word.
-- Assumes nothing.
use Prim.Native.Nat.{ℕ, suc, zero-le, ◌+◌, ◌-◌, ◌*◌, ◌/◌, ◌%◌, ◌^◌, ◌≤◌, ◌<◌}
use mathlib.Core.Path.{◌≡◌, refl, sym, ap, ◌∙◌}
use mathlib.Core.Bool.{Bool, true, false, not}
use mathlib.Core.List.{List}
use native.Mathlib.Nat.{lt_of_not-le, lt_of_lt_of_le, mod-lt, mod-eq_of_lt}
use native.Mathlib.Omega.{arith}
use borrow.Author.Tests.{eq-eqb, ne_eqb, eqb-true, eqb-false}
use lib.Count.{count_leading_zeros, leading_top}
use lib.Dec.{eqb}
use lib.ListN.{get_or}
use lib.Pow.{pow_pos, pow_mono, ones_split, ones_lt, ones_sub-lt, high}
use Rattle.window.specs.Words.{number_of, words_in, bit, other_than}
use Rattle.window.specs.Window.{is_set, run_below}
use Rattle.window.proofs.Bits.{bit-lt, bit-above, bit-low, bit_not, bit-top}
use Rattle.window.proofs.Words.{number_bit, word_in}
use Rattle.window.proofs.Sixteen.{Sixteen}
use Rattle.window.proofs.Runs.{run-skip, run-stop}
use Rattle.ack.specs.Walk.{Others}

-- a word that is lent is one of the window's
pub lent-word : (xs : List ℕ) (i x : ℕ) → i < 16 → x < 2 ^ 64 → x ≡ get_or xs i 0 → x ≡ get_or (words_in 16 xs) i 0
lent-word xs i x l h e = sym (word_in 16 xs i l ∙ ap (λ (y : ℕ). y % 2 ^ 64) (sym e) ∙ mod-eq_of_lt h)

-- a mark that is not b
not_same : (a b : Bool) → (a ≡ b → ⊥) → a ≡ not b
not_same true true f = absurd (f refl)
not_same true false f = refl
not_same false true f = refl
not_same false false f = absurd (f refl)

not-both : (a b : Bool) → a ≡ b → a ≡ not b → ⊥
not-both a true e f = let z : ◌≡◌ {A = ℕ} 0 1 = cc in omega arith
not-both a false e f = let z : ◌≡◌ {A = ℕ} 0 1 = cc in omega arith

-- ---- a whole word, and its places below one

inverted : (b : Bool) (x q : ℕ) → x < 2 ^ 64 → q < 64 → bit (other_than b x) q ≡ 0 → is_set x q ≡ b
inverted true x q h l e = let z : 1 - bit x q ≡ 0 = sym (bit_not 64 x q h l) ∙ e in eq-eqb (bit x q) 1 (omega (arith, bit-lt x q))
inverted false x q h l e = ne_eqb (bit x q) 1 (λ f. omega arith)

upright : (b : Bool) (x q : ℕ) → x < 2 ^ 64 → q < 64 → bit (other_than b x) q ≡ 1 → is_set x q ≡ b → ⊥
upright true x q h l e f =
    let z : 1 - bit x q ≡ 1 = sym (bit_not 64 x q h l) ∙ e in
    let o : bit x q ≡ 1 = eqb-true (bit x q) 1 f in omega arith
upright false x q h l e f = eqb-false (bit x q) 1 f e

other-small : (b : Bool) (x : ℕ) → x < 2 ^ 64 → other_than b x < 2 ^ 64
other-small true x h = ones_sub-lt 64 x
other-small false x h = h

pub whole_word : (ws : List ℕ) → Sixteen ws → (b : Bool) (i : ℕ) → i < 16 → Others b (number_of ws) (64 * i + 64) i (other_than b (get_or ws i 0))
whole_word ws h b i l =
    let k : 64 * i + 64 - 64 * i ≡ 64 = omega arith in
    let x : ℕ = get_or ws i 0 in
    let there : (q : ℕ) → q < 64 → is_set (number_of ws) (64 * i + q) ≡ is_set x q = λ q g. ap (λ (y : ℕ). eqb y 1) (number_bit ws h.words i q g) in
    record {
      word = l;
      from = omega arith;
      to = omega arith;
      small = rw k (other-small b x (h.words i));
      same = λ q g e. there q (omega arith) ∙ inverted b x q (h.words i) (omega arith) e;
      other = λ q g e f. upright b x q (h.words i) (omega arith) e (sym (there q (omega arith)) ∙ f);
    }

module _ {b : Bool} {w p i x : ℕ} (o : Others b w p i x) where
  pub cut_at : {n : ℕ} → 64 * i ≤ n → n ≤ p → Others b w n i (x % 2 ^ (n - 64 * i))
  cut_at {n} g l =
      record {
        word = o.word;
        from = g;
        to = omega (arith, o.to);
        small = mod-lt x (pow_pos (n - 64 * i));
        same = λ q h e. o.same q (omega arith) (sym (bit-low x (n - 64 * i) q h) ∙ e);
        other = λ q h e. o.other q (omega arith) (sym (bit-low x (n - 64 * i) q h) ∙ e);
      }

  -- a place of the word by its bit
  at-bit : (q : ℕ) → 64 * i ≤ q → 64 * i + (q - 64 * i) ≡ q
  at-bit q l = omega arith

  -- ---- none of them: the run goes on below the word

  pub goes_on : x ≡ 0 → run_below b p w ≡ p - 64 * i + run_below b (64 * i) w
  goes_on z =
      let e : p - (p - 64 * i) ≡ 64 * i = omega (arith, o.from) in
      run-skip b (p - 64 * i) p w (omega arith)
      (λ q g h.
      let l : 64 * i ≤ q = omega (arith, o.from) in
      ap (is_set w) (sym (at-bit q l)) ∙ o.same (q - 64 * i) (omega arith) (ap (λ (y : ℕ). bit y (q - 64 * i)) z ∙ bit-above 0 0 (q - 64 * i) (pow_pos 0) zero-le))
      ∙ ap (λ (m : ℕ). p - 64 * i + run_below b m w) e

  -- ---- the highest of them ends the run

  module _ (j : ℕ) (l : 2 ^ j ≤ x) (h : x < 2 ^ suc j) where
    inside : j < p - 64 * i
    inside = lt_of_not-le (λ (g : p - 64 * i ≤ j). let u = pow_mono g in omega (arith, o.small))

    ends : run_below b p w ≡ p - (64 * i + suc j)
    ends =
        let n = inside in
        let t : ℕ = p - (64 * i + suc j) in
        let e : p - t - 1 ≡ 64 * i + j = omega arith in
        run-stop b t p w (omega arith)
        (λ q g m.
        let k : 64 * i ≤ q = omega arith in
        ap (is_set w) (sym (at-bit q k)) ∙ o.same (q - 64 * i) (omega arith) (bit-above x (suc j) (q - 64 * i) h (omega arith)))
        (λ f. o.other j n (bit-top j x l h) (ap (is_set w) (sym e) ∙ f))

    -- below it those with the other mark are the inverse
    turned : Others (not b) w (64 * i + suc j) i (2 ^ suc j - 1 - x)
    turned =
        let n = inside in
        let k : 64 * i + suc j - 64 * i ≡ suc j = omega arith in
        record {
          word = o.word;
          from = omega arith;
          to = omega (arith, o.to);
          small = rw k (ones_sub-lt (suc j) x);
          same = λ q g e.
              let u : 1 - bit x q ≡ 0 = sym (bit_not (suc j) x q h (omega arith)) ∙ e in
              not_same (is_set w (64 * i + q)) b (o.other q (omega arith) (omega (arith, bit-lt x q)));
          other = λ q g e.
              let u : 1 - bit x q ≡ 1 = sym (bit_not (suc j) x q h (omega arith)) ∙ e in
              not-both (is_set w (64 * i + q)) b (o.same q (omega arith) (omega arith));
        }

  fits : x < 2 ^ 64
  fits = let l : p - 64 * i ≤ 64 = omega (arith, o.to) in lt_of_lt_of_le o.small (pow_mono l)

  -- as the code finds it: z is the number of zeros above it
  module _ {z : ℕ} (e : z ≡ count_leading_zeros 64 x) (n : x ≡ 0 → ⊥) where
    highest : (j : ℕ) × (z + suc j ≡ 64) × (2 ^ j ≤ x) × (x < 2 ^ suc j)
    highest = let t = leading_top 64 x (omega arith) fits in (t.0, omega (arith, t.1), t.2, t.3)

    ones_below : (2 ^ 64 - 1) / 2 ^ z ≡ 2 ^ suc highest.0 - 1
    ones_below =
        let t = highest in
        let u : suc t.0 + z ≡ 64 = omega (arith, t.1) in
        ap (λ (m : ℕ). (2 ^ m - 1) / 2 ^ z) (sym u) ∙ ap (λ (m : ℕ). m / 2 ^ z) (ones_split (suc t.0) z) ∙ high (2 ^ suc t.0 - 1) z (ones_lt z)

    up_to : 64 * i + (64 - z) ≡ 64 * i + suc highest.0
    up_to = omega (arith, highest.1)

    pub zeros-few : z ≤ 63
    zeros-few = omega (arith, highest.1)

    pub below-ones : x ≤ (2 ^ 64 - 1) / 2 ^ z
    below-ones = rw ones_below (omega (arith, highest.3))

    pub run_ends : run_below b p w ≡ p - (64 * i + (64 - z))
    run_ends = let t = highest in ends t.0 t.2 t.3 ∙ ap (λ (m : ℕ). p - m) (sym up_to)

    pub ends_above : 64 * i + (64 - z) ≤ p
    ends_above = let t = highest in omega (arith, t.1, inside t.0 t.2 t.3, o.from)

    pub turned-over : Others (not b) w (64 * i + (64 - z)) i ((2 ^ 64 - 1) / 2 ^ z - x)
    turned-over = let t = highest in rw (up_to, ones_below) (turned t.0 t.2 t.3)

-- below place 0 there is none
pub none_left : {b : Bool} {w : ℕ} → Others b w 0 0 0
none_left = record { word = omega arith; from = omega arith; to = omega arith; small = pow_pos 0; same = λ q g. absurd (omega arith); other = λ q g. absurd (omega arith) }
