-- Words made one after another, each by the words of the record, a frame and a rule that stand at its place, and the marks that they hold.
-- Assumes nothing.
use Prim.Native.Nat.{ℕ, ◌+◌, ◌-◌, ◌/◌, ◌%◌, ◌^◌, ◌≤◌, ◌<◌}
use mathlib.Core.Path.{◌≡◌, refl, sym, ap, ap₂, ◌∙◌, subst}
use mathlib.Core.Bool.{Bool, not, ◌&&◌, ◌||◌}
use mathlib.Core.List.{List}
use native.Mathlib.Omega.{arith}
use native.Mathlib.Decide.{dec_le}
use lib.Bits.{bit_and, bit_or, and_lt, or_lt}
use lib.ListN.{length, get_or, set, replicate, length-set, get_or-replicate}
use lib.Pow.{pow_pos}
use lib.Seq.{get_or-set_same, get_or-set_other}
use Rattle.window.specs.Window.{is_set}
use Rattle.marks.proofs.Bits.{set-and, set-or, set-not}
use Rattle.sent.specs.Record.{next_of, acked_before, lost_before}
use Rattle.sent.specs.Heard.{Either, Without, Changed}

pub either_is : (a b : ℕ) → a < 2 ^ 64 → b < 2 ^ 64 → Either (bit_or a b) a b
either_is a b h l = record { fits = or_lt 64 a b h l; marks = set-or a b }

pub without_is : (a b : ℕ) → a < 2 ^ 64 → b < 2 ^ 64 → Without (bit_and a (2 ^ 64 - 1 - b)) a b
without_is a b h l = record {
  fits = and_lt 64 a (2 ^ 64 - 1 - b) h (omega (arith, pow_pos 64));
  marks = λ k m. set-and a (2 ^ 64 - 1 - b) k ∙ ap (λ (x : Bool). is_set a k && x) (set-not b k l m);
}

-- ---- sixteen words, of which the first i are as P says of each

pub record Made (P : ℕ → ℕ → Type 0) (ws : List ℕ) (i : ℕ) : Type 0 where
  pub long : length ws ≡ 16
  pub done : (j : ℕ) → j < i → P j (get_or ws j 0)

-- the newly acknowledged
abbrev pub NewAcked : List ℕ → List ℕ → ℕ → ℕ → Type 0
NewAcked r frame j x = Without x (get_or frame j 0) (get_or r j 0)

-- the newly lost
pub record NewLost (r frame due : List ℕ) (j x : ℕ) : Type 0 where
  pub marks : (k : ℕ) → k < 64 → is_set x k ≡ (is_set (get_or due j 0) k && not ((is_set (get_or r j 0) k || is_set (get_or r (16 + j) 0) k) || is_set (get_or frame j 0) k))

-- ---- the record afterwards, of which the words of the first i places are made

module _ (r frame due : List ℕ) where
  abbrev pub Acked : ℕ → ℕ → Type 0
  Acked j x = Either x (get_or r j 0) (get_or frame j 0)

  pub record Gone (j x : ℕ) : Type 0 where
    pub marks : (k : ℕ) → k < 64 → is_set x k ≡ ((is_set (get_or r (16 + j) 0) k || is_set (get_or due j 0) k) && not (is_set (get_or r j 0) k || is_set (get_or frame j 0) k))

  pub gone : (j x marked acked : ℕ) → Acked j acked → Either marked (get_or r (16 + j) 0) (get_or due j 0) → Without x marked acked → Gone j x
  gone j x marked acked a b c = record { marks = λ k h. c.marks k h ∙ ap₂ (λ (y z : Bool). y && not z) (b.marks k) (a.marks k) }

  pub record Changing (next : List ℕ) (i : ℕ) : Type 0 where
    pub long : length next ≡ 36
    pub fits : (j : ℕ) → j < 32 → get_or next j 0 < 2 ^ 64
    pub acked : (j : ℕ) → j < i → Acked j (get_or next j 0)
    pub lost : (j : ℕ) → j < i → Gone j (get_or next (16 + j) 0)

  pub changing-none : Changing (replicate 36 0) 0
  changing-none = record {
    long = refl;
    fits = λ j h. subst (λ (x : ℕ). x < 2 ^ 64) (sym (get_or-replicate 36 j 0 0 (omega arith))) (pow_pos 64);
    acked = λ j h. absurd (omega arith);
    lost = λ j h. absurd (omega arith);
  }

  module _ (next : List ℕ) (i x y marked : ℕ) (h : i < 16) (a : Acked i x) (b : Either marked (get_or r (16 + i) 0) (get_or due i 0)) (w : Without y marked x) (c : Changing next i) where
    abbrev after : List ℕ
    after = set (set next i x) (16 + i) y

    at-lost : get_or after (16 + i) 0 ≡ y
    at-lost = get_or-set_same (set next i x) (16 + i) y 0 (omega (arith, length-set next i x, c.long))

    at-acked : get_or after i 0 ≡ x
    at-acked = get_or-set_other (set next i x) (16 + i) i y 0 (λ q. absurd (omega arith)) ∙ get_or-set_same next i x 0 (omega (arith, c.long))

    elsewhere : (j : ℕ) → (j ≡ i → ⊥) → (j ≡ 16 + i → ⊥) → get_or after j 0 ≡ get_or next j 0
    elsewhere j m n = get_or-set_other (set next i x) (16 + i) j y 0 n ∙ get_or-set_other next i j x 0 m

    pub changing-more : Changing (set (set next i x) (16 + i) y) (i + 1)
    changing-more = record {
      long = length-set (set next i x) (16 + i) y ∙ length-set next i x ∙ c.long;
      fits = λ j l. small j l;
      acked = λ j l. elim (dec_le i j) [
        | yes k ↦ let e : i ≡ j = omega arith in subst (λ (q : ℕ). Acked q (get_or after q 0)) e (subst (Acked i) (sym at-acked) a)
        | no k ↦ subst (Acked j) (sym (elsewhere j (λ q. k (omega arith)) (λ q. absurd (omega arith)))) (c.acked j (omega arith))
      ];
      lost = λ j l. elim (dec_le i j) [
        | yes k ↦ let e : i ≡ j = omega arith in subst (λ (q : ℕ). Gone q (get_or after (16 + q) 0)) e (subst (Gone i) (sym at-lost) (gone i y marked x a b w))
        | no k ↦ subst (Gone j) (sym (elsewhere (16 + j) (λ q. absurd (omega arith)) (λ q. k (omega arith)))) (c.lost j (omega arith))
      ];
    }
      where
        small : (j : ℕ) → j < 32 → get_or after j 0 < 2 ^ 64
        small j l = elim (dec_le i j) [
          | yes k ↦ elim (dec_le j i) [
            | yes m ↦ let e : i ≡ j = omega arith in subst (λ (q : ℕ). get_or after q 0 < 2 ^ 64) e (subst (λ (q : ℕ). q < 2 ^ 64) (sym at-acked) a.fits)
            | no m ↦ elim (dec_le (16 + i) j) [
              | yes n ↦ elim (dec_le j (16 + i)) [
                | yes o ↦ let e : 16 + i ≡ j = omega arith in subst (λ (q : ℕ). get_or after q 0 < 2 ^ 64) e (subst (λ (q : ℕ). q < 2 ^ 64) (sym at-lost) w.fits)
                | no o ↦ subst (λ (q : ℕ). q < 2 ^ 64) (sym (elsewhere j (λ q. absurd (m (omega arith))) (λ q. absurd (o (omega arith))))) (c.fits j l)
              ]
              | no n ↦ subst (λ (q : ℕ). q < 2 ^ 64) (sym (elsewhere j (λ q. absurd (m (omega arith))) (λ q. absurd (n (omega arith))))) (c.fits j l)
            ]
          ]
          | no k ↦ subst (λ (q : ℕ). q < 2 ^ 64) (sym (elsewhere j (λ q. absurd (k (omega arith))) (λ q. absurd (k (omega arith))))) (c.fits j l)
        ]

  -- the four numbers after the marks
  module _ (next : List ℕ) (sent acked lost end i : ℕ) (all : 16 ≤ i) (c : Changing next i) where
    abbrev whole : List ℕ
    whole = set (set (set (set next 32 sent) 33 acked) 34 lost) 35 end

    before : (j : ℕ) → j < 32 → get_or whole j 0 ≡ get_or next j 0
    before j h =
        get_or-set_other (set (set (set next 32 sent) 33 acked) 34 lost) 35 j end 0 (λ q. absurd (omega arith))
        ∙ get_or-set_other (set (set next 32 sent) 33 acked) 34 j lost 0 (λ q. absurd (omega arith))
        ∙ get_or-set_other (set next 32 sent) 33 j acked 0 (λ q. absurd (omega arith)) ∙ get_or-set_other next 32 j sent 0 (λ q. absurd (omega arith))

    len32 : length (set next 32 sent) ≡ 36
    len32 = length-set next 32 sent ∙ c.long

    len33 : length (set (set next 32 sent) 33 acked) ≡ 36
    len33 = length-set (set next 32 sent) 33 acked ∙ len32

    len34 : length (set (set (set next 32 sent) 33 acked) 34 lost) ≡ 36
    len34 = length-set (set (set next 32 sent) 33 acked) 34 lost ∙ len33

    pub changed : sent ≡ next_of r → acked ≡ acked_before r → lost ≡ lost_before r → Changed (set (set (set (set next 32 sent) 33 acked) 34 lost) 35 end) r frame due end
    changed e f g = record {
      long = length-set (set (set (set next 32 sent) 33 acked) 34 lost) 35 end ∙ len34;
      fits = λ j h. subst (λ (x : ℕ). x < 2 ^ 64) (sym (before j h)) (c.fits j h);
      acked = λ n. ap (λ (x : ℕ). is_set x (n % 64)) (before (n / 64 % 16) (omega arith)) ∙ (c.acked (n / 64 % 16) (omega arith)).marks (n % 64);
      lost = λ n. ap (λ (x : ℕ). is_set x (n % 64)) (before (16 + n / 64 % 16) (omega arith)) ∙ (c.lost (n / 64 % 16) (omega arith)).marks (n % 64) (omega arith);
      sent =
          get_or-set_other (set (set (set next 32 sent) 33 acked) 34 lost) 35 32 end 0 (λ q. absurd (omega arith))
          ∙ get_or-set_other (set (set next 32 sent) 33 acked) 34 32 lost 0 (λ q. absurd (omega arith))
          ∙ get_or-set_other (set next 32 sent) 33 32 acked 0 (λ q. absurd (omega arith)) ∙ get_or-set_same next 32 sent 0 (omega (arith, c.long)) ∙ e;
      acked-before =
          get_or-set_other (set (set (set next 32 sent) 33 acked) 34 lost) 35 33 end 0 (λ q. absurd (omega arith))
          ∙ get_or-set_other (set (set next 32 sent) 33 acked) 34 33 lost 0 (λ q. absurd (omega arith)) ∙ get_or-set_same (set next 32 sent) 33 acked 0 (omega (arith, len32)) ∙ f;
      lost-before =
          get_or-set_other (set (set (set next 32 sent) 33 acked) 34 lost) 35 34 end 0 (λ q. absurd (omega arith)) ∙ get_or-set_same (set (set next 32 sent) 33 acked) 34 lost 0 (omega (arith, len33)) ∙ g;
      end_is = get_or-set_same (set (set (set next 32 sent) 33 acked) 34 lost) 35 end 0 (omega (arith, len34));
    }
