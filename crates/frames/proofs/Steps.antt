-- One step over ranges: how it follows its definition, a law for each field and each test, and how a walk goes step by step.
-- Assumes nothing.
use Prim.Native.Nat.{ℕ, zero, suc, ◌+◌, ◌-◌, ◌≤◌, ◌<◌}
use mathlib.Core.Path.{◌≡◌, refl, sym, ap, subst, ◌∙◌}
use mathlib.Core.Bool.{Bool, true, false, true≢false}
use mathlib.Core.List.{List}
use native.Mathlib.Omega.{arith}
use borrow.Author.Tests.{le-leb, lt-leb}
use lib.Dec.{leb}
use Rattle.std.specs.Prelude.{Result, Ok, Err}
use Rattle.wire.specs.Bytes.{pick}
use Rattle.wire.specs.Fields.{found, formed, field}
use Rattle.wire.specs.Numbers.{read_number}
use Rattle.wire.specs.declared.Number.{Number}
use Rattle.wire.specs.declared.Refusal.{Refusal}
use Rattle.wire.specs.declared.Refusal.TheVariants.{Ends, BelowZero}
use Rattle.wire.proofs.Reading.{stop, next, yes, no}
use Rattle.frames.specs.Ack.{Ranges, ended, before, smallest_at, largest_at, ranges_from, step, read_range, IsWhole}
use Rattle.frames.specs.declared.Range.{Range}

-- ---- a step

-- what comes after a range's length: nothing, or a gap
gap_after : ℕ → List ℕ → ℕ → ℕ → Result Range Refusal
gap_after zero s smallest at = step smallest 0 at
gap_after (suc left) s smallest at = largest_at s at smallest (Err Ends) (Err BelowZero) (λ lower next. step smallest lower next)

-- the last range and the others are one rule
one-rule : (left : ℕ) (s : List ℕ) (at high : ℕ) → read_range left s at high ≡ smallest_at s at high (Err Ends) (Err BelowZero) (gap_after left s)
unfolding read_range gap_after
one-rule zero s at high = refl
one-rule (suc left) s at high = refl

-- n is what reading the length answers
module _ (left : ℕ) (s : List ℕ) (at high : ℕ) {n : Result Number Refusal} (e : n ≡ read_number s at) where
  pub length_cut : {refusal : Refusal} → n ≡ Err refusal → Err Ends ≡ read_range left s at high
  length_cut t = rw one-rule (stop _ _ t e)

  module _ {len mid : ℕ} {b : Bool} (t : n ≡ found len mid b) where
    pub length-low : high < len → Err BelowZero ≡ read_range left s at high
    length-low h = rw one-rule (next _ _ t e (no _ _ (lt-leb len high h) refl))

    -- r is what comes after the length
    length-in : {r : Result Range Refusal} → len ≤ high → r ≡ gap_after left s (high - len) mid → r ≡ read_range left s at high
    length-in h g = rw one-rule (next _ _ t e (yes _ _ (le-leb len high h) g))

    pub last : left ≡ 0 → len ≤ high → step (high - len) 0 mid ≡ read_range left s at high
    unfolding gap_after
    last z h = length-in h (rw z refl)

    -- m is what reading the gap answers
    module _ {m : Result Number Refusal} (f : m ≡ read_number s mid) (some : 0 < left) (h : len ≤ high) where
      some_left : {x : Result Range Refusal} → x ≡ largest_at s mid (high - len) (Err Ends) (Err BelowZero) (λ lower next. step (high - len) lower next) → x ≡ gap_after left s (high - len) mid
      unfolding gap_after
      some_left g = let k : left ≡ suc (left - 1) = omega arith in rw k g

      pub gap-cut : {refusal : Refusal} → m ≡ Err refusal → Err Ends ≡ read_range left s at high
      gap-cut u = length-in h (some_left (stop _ _ u f))

      module _ {gap to : ℕ} {short : Bool} (u : m ≡ found gap to short) where
        pub gap-low : high - len < gap + 2 → Err BelowZero ≡ read_range left s at high
        gap-low l = length-in h (some_left (next _ _ u f (no _ _ (lt-leb (gap + 2) (high - len) l) refl)))

        pub more : gap + 2 ≤ high - len → step (high - len) (high - len - gap - 2) to ≡ read_range left s at high
        more l = length-in h (some_left (next _ _ u f (yes _ _ (le-leb (gap + 2) (high - len) l) refl)))

-- ---- the walk, step by step

-- the ranges after a step: none, or those from the next place on
rest : ℕ → List ℕ → ℕ → ℕ → Ranges
rest zero s lower at = ended (Ok at)
rest (suc left) s lower at = ranges_from left s at lower

-- what a step says of the walk that it begins
Follows : ℕ → List ℕ → ℕ → Result Range Refusal → Ranges → Type 0
Follows left s high (Err refusal) r = r.walk ≡ Err refusal
Follows left s high (Ok q) r = r ≡ before q.smallest high (rest left s q.below q.next)

-- what holds of the answers of two chains over one field holds of the chains
pub formed-both : {A B : Type 0} (P : A → B → Type 0) (n : Result Number Refusal) {x : A} {y : B} {f : ℕ → ℕ → Bool → A} {g : ℕ → ℕ → Bool → B}
    → P x y → ((v at : ℕ) (b : Bool) → P (f v at b) (g v at b)) → P (formed n x f) (formed n y g)
formed-both P (Ok n) p h = h n.value n.next n.shortest
formed-both P (Err refusal) p h = p

pub field_both : {A B : Type 0} (P : A → B → Type 0) (n : Result Number Refusal) {x : A} {y : B} {f : ℕ → ℕ → A} {g : ℕ → ℕ → B}
    → P x y → ((v at : ℕ) → P (f v at) (g v at)) → P (field n x f) (field n y g)
field_both P n p h = formed-both P n p (λ v at b. h v at)

pub pick-both : {A B : Type 0} (P : A → B → Type 0) (b : Bool) {x z : A} {y w : B} → P x y → P z w → P (pick b x z) (pick b y w)
pick-both P true p q = p
pick-both P false p q = q

follows : (left : ℕ) (s : List ℕ) (at high : ℕ) → Follows left s high (read_range left s at high) (ranges_from left s at high)
unfolding read_range ranges_from Follows rest
follows zero s at high =
    field_both (Follows zero s high) (read_number s at) refl (λ len mid.
    pick-both (Follows zero s high) (leb len high) refl refl)
follows (suc left) s at high =
    field_both (Follows (suc left) s high) (read_number s at) refl (λ len mid.
    pick-both (Follows (suc left) s high) (leb len high)
    (field_both (λ (r : Result Range Refusal) (q : Ranges). Follows (suc left) s high r (before (high - len) high q)) (read_number s mid) refl (λ gap to.
    pick-both (λ (r : Result Range Refusal) (q : Ranges). Follows (suc left) s high r (before (high - len) high q)) (leb (gap + 2) (high - len)) refl refl))
    refl)

-- r is what a step answers
module _ (left : ℕ) (s : List ℕ) (at high : ℕ) {r : Result Range Refusal} (e : r ≡ read_range left s at high) where
  told : {q : Result Range Refusal} → r ≡ q → Follows left s high q (ranges_from left s at high)
  told t = subst (λ (x : Result Range Refusal). Follows left s high x (ranges_from left s at high)) (sym e ∙ t) (follows left s at high)

  pub step_fault : {refusal : Refusal} → r ≡ Err refusal → Err refusal ≡ (ranges_from left s at high).walk
  unfolding Follows
  step_fault t = sym (told t)

  module _ {lo lower next : ℕ} (t : r ≡ step lo lower next) where
    pub step-last : left ≡ 0 → before lo high (ended (Ok next)) ≡ ranges_from left s at high
    unfolding Follows rest
    step-last z = sym (told t ∙ rw z refl)

    pub step-more : 0 < left → before lo high (ranges_from (left - 1) s next lower) ≡ ranges_from left s at high
    unfolding Follows rest
    step-more h = let k : left ≡ suc (left - 1) = omega arith in sym (told t ∙ from k)
      where
        from : left ≡ suc (left - 1) → before lo high (rest left s lower next) ≡ before lo high (rest (suc (left - 1)) s lower next)
        from k = ap (λ (x : ℕ). before lo high (rest x s lower next)) k

-- a whole walk has no fault
pub whole-no-fault : {w : Result ℕ Refusal} {refusal : Refusal} → IsWhole w → Err refusal ≡ w → ⊥
whole-no-fault h e = true≢false (sym (subst IsWhole (sym e) h))
