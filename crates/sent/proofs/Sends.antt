-- A send: its refusals, a test at a time, and the record after it.
-- Assumes nothing.
use Prim.Native.Nat.{ℕ, zero, suc, ◌+◌, ◌-◌, ◌*◌, ◌/◌, ◌%◌, ◌^◌, ◌≤◌, ◌<◌}
use mathlib.Core.Path.{◌≡◌, refl, sym, ap, ap₂, ◌∙◌, subst}
use mathlib.Core.Bool.{Bool, true, false, not, ◌&&◌, ◌||◌}
use mathlib.Core.List.{List}
use native.Mathlib.Nat.{mul-le-mul_right, mod-eq_of_lt}
use native.Mathlib.Omega.{arith}
use borrow.Author.Tests.{le-leb, lt-leb, leb-true}
use lib.Bits.{bit_or}
use lib.Dec.{leb, eqb}
use lib.ListN.{get_or, set}
use lib.Pow.{split}
use Rattle.wire.specs.Bytes.{pick}
use Rattle.wire.specs.Numbers.{limit}
use Rattle.window.specs.Words.{bit}
use Rattle.window.specs.Window.{is_set}
use Rattle.marks.specs.Marks.{none_in}
use Rattle.sent.specs.Record.{most_held, next_of, end_of, acked_before, lost_before, floor_of, is_outstanding, numbers_agree, wrong_at, consistent}
use Rattle.sent.specs.Calls.{is_held_back, send_refusal, cleared, with_sent, unless_refused, send_after, send_answer}
use Rattle.sent.specs.declared.Sent.{Sent}
use Rattle.marks.proofs.Bits.{set-or}
use Rattle.sent.proofs.Numbers.{Small, agree-says, left}

-- ---- a word without a mark

part-le : (w k : ℕ) → bit w k * 2 ^ k ≤ w
unfolding bit
part-le w k =
    let h : w / 2 ^ k % 2 ≤ w / 2 ^ k = omega arith in
    omega (arith, split w k, mul-le-mul_right (2 ^ k) h)

pub part-fits : (w k : ℕ) → w < 2 ^ 64 → (w / 2 ^ k % 2 * 2 ^ k) % 2 ^ 64 ≤ w
unfolding bit
part-fits w k h = let p = part-le w k in subst (λ (x : ℕ). x ≤ w) (sym (mod-eq_of_lt (omega (arith, p)))) p

pub part-cleared : (w k : ℕ) → w < 2 ^ 64 → w - (w / 2 ^ k % 2 * 2 ^ k) % 2 ^ 64 ≡ cleared w k
unfolding bit
part-cleared w k h = let p = part-le w k in ap (λ (x : ℕ). w - x) (mod-eq_of_lt (omega (arith, p)))

-- ---- consistent

module _ (r : List ℕ) where
  pub numbers-wrong : {b : Bool} → b ≡ numbers_agree (next_of r) (end_of r) (acked_before r) (lost_before r) → b ≡ false → false ≡ consistent r
  unfolding consistent
  numbers-wrong e f = sym (ap (λ (x : Bool). x && none_in (wrong_at r) most_held (floor_of r)) (sym e ∙ f))

  pub marks-judged : {b m : Bool} → b ≡ numbers_agree (next_of r) (end_of r) (acked_before r) (lost_before r) → b ≡ true → m ≡ none_in (wrong_at r) most_held (floor_of r) → m ≡ consistent r
  unfolding consistent
  marks-judged e f g = g ∙ sym (ap (λ (x : Bool). x && none_in (wrong_at r) most_held (floor_of r)) (sym e ∙ f))

  pub consistent-small : consistent r ≡ true → Small (next_of r) (end_of r) (acked_before r) (lost_before r)
  unfolding consistent
  consistent-small e = agree-says (next_of r) (end_of r) (acked_before r) (lost_before r) (left _ _ e)

  -- ---- the refusals: b is what the test of the record answers

  module _ {b : Bool} (e : b ≡ consistent r) where
    pub one : b ≡ false → 1 ≡ send_refusal r
    unfolding send_refusal
    one f = sym (ap (λ (x : Bool). pick x (pick (leb (next_of r) limit) (pick (is_held_back r) 9 0) 5) 1) (sym e ∙ f))

    module _ (f : b ≡ true) where
      pub five : limit < next_of r → 5 ≡ send_refusal r
      unfolding send_refusal
      five h = sym (ap₂ (λ (x y : Bool). pick x (pick y (pick (is_held_back r) 9 0) 5) 1) (sym e ∙ f) (lt-leb (next_of r) limit h))

      module _ (h : next_of r ≤ limit) where
        rest : pick (is_held_back r) 9 0 ≡ send_refusal r
        unfolding send_refusal
        rest = sym (ap₂ (λ (x y : Bool). pick x (pick y (pick (is_held_back r) 9 0) 5) 1) (sym e ∙ f) (le-leb (next_of r) limit h))

        pub early : next_of r < 1024 → 0 ≡ send_refusal r
        early l = sym (ap (λ (x : Bool). pick (x && is_outstanding r (floor_of r)) 9 0) (lt-leb most_held (next_of r) l)) ∙ rest

        module _ (l : 1024 ≤ next_of r) where
          abbrev either : ℕ
          either = bit_or (get_or r (next_of r / 64 % 16) 0) (get_or r (16 + next_of r / 64 % 16) 0)

          -- the oldest stands where the next is to stand
          oldest : is_held_back r ≡ not (is_set either (next_of r % 64))
          oldest =
              let i : floor_of r / 64 % 16 ≡ next_of r / 64 % 16 = omega arith in
              let k : floor_of r % 64 ≡ next_of r % 64 = omega arith in
              ap (λ (x : Bool). x && is_outstanding r (floor_of r)) (le-leb most_held (next_of r) l)
              ∙ ap₂ (λ (x y : ℕ). not (is_set (get_or r x 0) y || is_set (get_or r (16 + x) 0) y)) i k
              ∙ ap not (sym (set-or (get_or r (next_of r / 64 % 16) 0) (get_or r (16 + next_of r / 64 % 16) 0) (next_of r % 64)))

          pub held_back : either / 2 ^ (next_of r % 64) % 2 ≡ 0 → 9 ≡ send_refusal r
          unfolding bit
          held_back z = sym (ap (λ (x : Bool). pick x 9 0) (oldest ∙ ap (λ (x : ℕ). not (eqb x 1)) z)) ∙ rest

          pub room : (either / 2 ^ (next_of r % 64) % 2 ≡ 0 → ⊥) → 0 ≡ send_refusal r
          unfolding bit
          room n =
              let z : either / 2 ^ (next_of r % 64) % 2 ≡ 1 = omega arith in
              sym (ap (λ (x : Bool). pick x 9 0) (oldest ∙ ap (λ (x : ℕ). not (eqb x 1)) z)) ∙ rest

  -- ---- the answer and the record: f is the refusal

  -- a send that is accepted found a consistent record
  pub accepted-small : send_refusal r ≡ 0 → (next_of r ≤ limit) × (acked_before r + lost_before r ≡ next_of r - 1024)
  unfolding send_refusal
  accepted-small e = go (consistent r) refl (leb (next_of r) limit) refl e
    where
      no : {n : ℕ} → suc n ≡ 0 → ⊥
      no h = omega arith

      go : (b : Bool) → consistent r ≡ b → (c : Bool) → leb (next_of r) limit ≡ c → ◌≡◌ {A = ℕ} (pick b (pick c (pick (is_held_back r) 9 0) 5) 1) 0
          → (next_of r ≤ limit) × (acked_before r + lost_before r ≡ next_of r - 1024)
      go true p true q t = (leb-true (next_of r) limit q, (consistent-small p).totals)
      go true p false q t = absurd (no t)
      go false p c q t = absurd (no t)

  pub refused : (f : ℕ) → f ≡ send_refusal r → (f ≡ 0 → ⊥) → (◌≡◌ {A = Sent} (record { result = f; number = 0 }) (send_answer r)) × (r ≡ send_after r)
  refused zero e n = absurd (n refl)
  refused (suc f) e n =
      (ap (λ (x : ℕ). record { result = x; number = unless_refused x 0 (next_of r) }) e, ap (λ (x : ℕ). unless_refused x r (with_sent r)) e)

  -- x and y are the words without the marks
  pub accepted : (f x y : ℕ) → f ≡ send_refusal r → f ≡ 0 → x ≡ cleared (get_or r (next_of r / 64 % 16) 0) (next_of r % 64) → y ≡ cleared (get_or r (16 + next_of r / 64 % 16) 0) (next_of r % 64)
      → (◌≡◌ {A = Sent} (record { result = 0; number = next_of r }) (send_answer r))
      × (set (set (set (set (set r (next_of r / 64 % 16) x) (16 + next_of r / 64 % 16) y) 33 (acked_before r + get_or r (next_of r / 64 % 16) 0 / 2 ^ (next_of r % 64) % 2))
      34 (lost_before r + get_or r (16 + next_of r / 64 % 16) 0 / 2 ^ (next_of r % 64) % 2)) 32 (next_of r + 1) ≡ send_after r)
  unfolding with_sent bit
  accepted f x y e z p q =
      let g : 0 ≡ send_refusal r = sym z ∙ e in
      (ap (λ (x : ℕ). record { result = x; number = unless_refused x 0 (next_of r) }) g, rw (p, q) (ap (λ (x : ℕ). unless_refused x r (with_sent r)) g))
