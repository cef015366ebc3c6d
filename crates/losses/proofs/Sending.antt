-- The record after a send: every mark but the one in the new number's room is as it was, and that one is gone.
-- Assumes nothing.
use Prim.Native.Nat.{ℕ, zero, suc, ◌+◌, ◌-◌, ◌*◌, ◌/◌, ◌%◌, ◌^◌, ◌<◌}
use mathlib.Core.Path.{◌≡◌, refl, sym, ap, ◌∙◌, subst}
use mathlib.Core.Bool.{Bool, true, false}
use mathlib.Core.List.{List}
use native.Mathlib.Decide.{dec_le}
use native.Mathlib.Nat.{mod-lt}
use native.Mathlib.Omega.{arith}
use borrow.Author.Tests.{eqb-true, eqb-false}
use lib.Arith.{digits_div}
use lib.Dec.{eqb}
use lib.ListN.{length, get_or, set, length-set}
use lib.Pow.{pow_pos, split}
use lib.Seq.{get_or-set_same, get_or-set_other}
use Rattle.window.specs.Words.{bit}
use Rattle.window.specs.Window.{is_set}
use Rattle.window.proofs.Bits.{bit-lt, bit-added-other}
use Rattle.sent.specs.Record.{next_of, acked_before, lost_before, end_of, acked_at, lost_at}
use Rattle.sent.specs.Calls.{cleared, acked_bit, lost_bit, with_sent}

-- ---- a word without a mark

-- what is left above the mark's bit is even
left-even : (w k : ℕ) → bit w k ≡ 1 → (bit (w - 2 ^ k) k ≡ 0) × (w ≡ w - 2 ^ k + 2 ^ k)
unfolding bit
left-even w k e =
    let a : ℕ = w / 2 ^ k - 1 in
    let h : w / 2 ^ k ≡ suc a = omega arith in
    let m : w % 2 ^ k < 2 ^ k = mod-lt w (pow_pos k) in
    let s : suc a * 2 ^ k + w % 2 ^ k ≡ w = ap (λ (x : ℕ). x * 2 ^ k + w % 2 ^ k) (sym h) ∙ split w k in
    let t : suc a * 2 ^ k ≡ a * 2 ^ k + 2 ^ k = omega arith in
    let v : w - 2 ^ k ≡ a * 2 ^ k + w % 2 ^ k = omega arith in
    let d : (w - 2 ^ k) / 2 ^ k ≡ a = ap (λ (x : ℕ). x / 2 ^ k) v ∙ digits_div a m in
    (ap (λ (x : ℕ). x % 2) d ∙ omega arith, omega arith)

cleared-is : {P : Type 0} (w k : ℕ) → (bit w k ≡ 0 → cleared w k ≡ w → P) → (bit w k ≡ 1 → cleared w k ≡ w - 2 ^ k → P) → P
cleared-is {P} w k f g = go (bit w k) refl (bit-lt w k)
  where
    go : (b : ℕ) → bit w k ≡ b → b < 2 → P
    go zero e l = f e (ap (λ (b : ℕ). w - b * 2 ^ k) e ∙ omega arith)
    go (suc zero) e l = g e (ap (λ (b : ℕ). w - b * 2 ^ k) e ∙ omega arith)
    go (suc (suc b)) e l = absurd (omega arith)

pub cleared-there : (w k : ℕ) → is_set (cleared w k) k ≡ false
cleared-there w k =
    cleared-is w k (λ e d. ap (λ (x : ℕ). is_set x k) d ∙ ap (λ (x : ℕ). eqb x 1) e)
    (λ e d. ap (λ (x : ℕ). is_set x k) d ∙ ap (λ (x : ℕ). eqb x 1) (left-even w k e).0)

pub cleared-elsewhere : (w k q : ℕ) → (q ≡ k → ⊥) → is_set (cleared w k) q ≡ is_set w q
cleared-elsewhere w k q n =
    cleared-is w k (λ e d. ap (λ (x : ℕ). is_set x q) d) (λ e d.
    let v = left-even w k e in
    ap (λ (x : ℕ). is_set x q) d ∙ ap (λ (x : ℕ). eqb x 1) (sym (bit-added-other (w - 2 ^ k) k q v.0 n)) ∙ ap (λ (x : ℕ). is_set x q) (sym v.1))

pub cleared-small : (w k : ℕ) → w < 2 ^ 64 → cleared w k < 2 ^ 64
cleared-small w k h = omega arith

-- ---- the record

module _ (r : List ℕ) (long : length r ≡ 36) where
  abbrev n0 : ℕ
  n0 = next_of r

  abbrev i0 : ℕ
  i0 = n0 / 64 % 16

  abbrev x0 : ℕ
  x0 = cleared (get_or r i0 0) (n0 % 64)

  abbrev y0 : ℕ
  y0 = cleared (get_or r (16 + i0) 0) (n0 % 64)

  abbrev marks : List ℕ
  marks = set (set r i0 x0) (16 + i0) y0

  abbrev with33 : List ℕ
  with33 = set marks 33 (acked_before r + acked_bit r n0)

  abbrev with34 : List ℕ
  with34 = set with33 34 (lost_before r + lost_bit r n0)

  marks-long : length marks ≡ 36
  marks-long = length-set (set r i0 x0) (16 + i0) y0 ∙ length-set r i0 x0 ∙ long

  long33 : length with33 ≡ 36
  long33 = length-set marks 33 (acked_before r + acked_bit r n0) ∙ marks-long

  long34 : length with34 ≡ 36
  long34 = length-set with33 34 (lost_before r + lost_bit r n0) ∙ long33

  pub sent-long : length (with_sent r) ≡ 36
  unfolding with_sent
  sent-long = length-set with34 32 (n0 + 1) ∙ long34

  other : (j : ℕ) → (j ≡ 32 → ⊥) → (j ≡ 33 → ⊥) → (j ≡ 34 → ⊥) → get_or (with_sent r) j 0 ≡ get_or marks j 0
  unfolding with_sent
  other j a b c =
      get_or-set_other with34 32 j (n0 + 1) 0 a ∙ get_or-set_other with33 34 j (lost_before r + lost_bit r n0) 0 c ∙ get_or-set_other marks 33 j (acked_before r + acked_bit r n0) 0 b

  pub sent-next : next_of (with_sent r) ≡ next_of r + 1
  unfolding with_sent
  sent-next = get_or-set_same with34 32 (n0 + 1) 0 (omega (arith, long34))

  pub sent-acked-before : acked_before (with_sent r) ≡ acked_before r + acked_bit r (next_of r)
  unfolding with_sent
  sent-acked-before =
      get_or-set_other with34 32 33 (n0 + 1) 0 (λ q. absurd (omega arith)) ∙ get_or-set_other with33 34 33 (lost_before r + lost_bit r n0) 0 (λ q. absurd (omega arith))
      ∙ get_or-set_same marks 33 (acked_before r + acked_bit r n0) 0 (omega (arith, marks-long))

  pub sent-lost-before : lost_before (with_sent r) ≡ lost_before r + lost_bit r (next_of r)
  unfolding with_sent
  sent-lost-before = get_or-set_other with34 32 34 (n0 + 1) 0 (λ q. absurd (omega arith)) ∙ get_or-set_same with33 34 (lost_before r + lost_bit r n0) 0 (omega (arith, long33))

  pub sent-end : end_of (with_sent r) ≡ end_of r
  sent-end =
      other 35 (λ q. absurd (omega arith)) (λ q. absurd (omega arith)) (λ q. absurd (omega arith))
      ∙ get_or-set_other (set r i0 x0) (16 + i0) 35 y0 0 (λ q. absurd (omega arith)) ∙ get_or-set_other r i0 35 x0 0 (λ q. absurd (omega arith))

  -- a word of the acknowledged, and one of the lost
  acked-word : (j : ℕ) → j < 16 → get_or (with_sent r) j 0 ≡ get_or (set r i0 x0) j 0
  acked-word j h = other j (λ q. absurd (omega arith)) (λ q. absurd (omega arith)) (λ q. absurd (omega arith)) ∙ get_or-set_other (set r i0 x0) (16 + i0) j y0 0 (λ q. absurd (omega arith))

  acked-at : get_or (with_sent r) i0 0 ≡ x0
  acked-at = acked-word i0 (omega arith) ∙ get_or-set_same r i0 x0 0 (omega arith)

  acked-other : (j : ℕ) → j < 16 → (j ≡ i0 → ⊥) → get_or (with_sent r) j 0 ≡ get_or r j 0
  acked-other j h n = acked-word j h ∙ get_or-set_other r i0 j x0 0 n

  lost-at : get_or (with_sent r) (16 + i0) 0 ≡ y0
  lost-at =
      other (16 + i0) (λ q. absurd (omega arith)) (λ q. absurd (omega arith)) (λ q. absurd (omega arith))
      ∙ get_or-set_same (set r i0 x0) (16 + i0) y0 0 (omega (arith, length-set r i0 x0))

  lost-other : (j : ℕ) → j < 16 → (j ≡ i0 → ⊥) → get_or (with_sent r) (16 + j) 0 ≡ get_or r (16 + j) 0
  lost-other j h n =
      other (16 + j) (λ q. absurd (omega arith)) (λ q. absurd (omega arith)) (λ q. absurd (omega arith))
      ∙ get_or-set_other (set r i0 x0) (16 + i0) (16 + j) y0 0 (λ q. n (omega arith)) ∙ get_or-set_other r i0 (16 + j) x0 0 (λ q. absurd (omega arith))

  -- the words stay words
  pub sent-fits : ((i : ℕ) → i < 32 → get_or r i 0 < 2 ^ 64) → (i : ℕ) → i < 32 → get_or (with_sent r) i 0 < 2 ^ 64
  sent-fits f i h = elim (dec_le 16 i) [
    | yes l ↦
        let e : 16 + (i - 16) ≡ i = omega arith in
        subst (λ (j : ℕ). get_or (with_sent r) j 0 < 2 ^ 64) e (go (i - 16) (omega arith) (eqb (i - 16) i0) refl)
    | no l ↦ low i (omega arith) (eqb i i0) refl
  ]
    where
      low : (j : ℕ) → j < 16 → (b : Bool) → eqb j i0 ≡ b → get_or (with_sent r) j 0 < 2 ^ 64
      low j l true e =
          subst (λ (x : ℕ). get_or (with_sent r) x 0 < 2 ^ 64) (sym (eqb-true j i0 e)) (subst (λ (x : ℕ). x < 2 ^ 64) (sym acked-at) (cleared-small (get_or r i0 0) (n0 % 64) (f i0 (omega arith))))
      low j l false e = subst (λ (x : ℕ). x < 2 ^ 64) (sym (acked-other j l (eqb-false j i0 e))) (f j (omega arith))

      go : (j : ℕ) → j < 16 → (b : Bool) → eqb j i0 ≡ b → get_or (with_sent r) (16 + j) 0 < 2 ^ 64
      go j l true e =
          subst (λ (x : ℕ). get_or (with_sent r) (16 + x) 0 < 2 ^ 64) (sym (eqb-true j i0 e))
          (subst (λ (x : ℕ). x < 2 ^ 64) (sym lost-at) (cleared-small (get_or r (16 + i0) 0) (n0 % 64) (f (16 + i0) (omega arith))))
      go j l false e = subst (λ (x : ℕ). x < 2 ^ 64) (sym (lost-other j l (eqb-false j i0 e))) (f (16 + j) (omega arith))

  -- the new number has no mark
  pub new-acked : acked_at (with_sent r) (next_of r) ≡ false
  new-acked = ap (λ (x : ℕ). is_set x (n0 % 64)) acked-at ∙ cleared-there (get_or r i0 0) (n0 % 64)

  pub new-lost : lost_at (with_sent r) (next_of r) ≡ false
  new-lost = ap (λ (x : ℕ). is_set x (n0 % 64)) lost-at ∙ cleared-there (get_or r (16 + i0) 0) (n0 % 64)

  -- any other room has the marks that it had
  module _ (n : ℕ) (apart : n % 1024 ≡ next_of r % 1024 → ⊥) where
    pub old-acked : acked_at (with_sent r) n ≡ acked_at r n
    old-acked = go (eqb (n / 64 % 16) i0) refl
      where
        go : (b : Bool) → eqb (n / 64 % 16) i0 ≡ b → acked_at (with_sent r) n ≡ acked_at r n
        go true e =
            let i = eqb-true (n / 64 % 16) i0 e in
            ap (λ (j : ℕ). is_set (get_or (with_sent r) j 0) (n % 64)) i ∙ ap (λ (x : ℕ). is_set x (n % 64)) acked-at
            ∙ cleared-elsewhere (get_or r i0 0) (n0 % 64) (n % 64) (λ k. apart (omega arith)) ∙ ap (λ (j : ℕ). is_set (get_or r j 0) (n % 64)) (sym i)
        go false e = ap (λ (x : ℕ). is_set x (n % 64)) (acked-other (n / 64 % 16) (omega arith) (eqb-false (n / 64 % 16) i0 e))

    pub old-lost : lost_at (with_sent r) n ≡ lost_at r n
    old-lost = go (eqb (n / 64 % 16) i0) refl
      where
        go : (b : Bool) → eqb (n / 64 % 16) i0 ≡ b → lost_at (with_sent r) n ≡ lost_at r n
        go true e =
            let i = eqb-true (n / 64 % 16) i0 e in
            ap (λ (j : ℕ). is_set (get_or (with_sent r) (16 + j) 0) (n % 64)) i ∙ ap (λ (x : ℕ). is_set x (n % 64)) lost-at
            ∙ cleared-elsewhere (get_or r (16 + i0) 0) (n0 % 64) (n % 64) (λ k. apart (omega arith)) ∙ ap (λ (j : ℕ). is_set (get_or r (16 + j) 0) (n % 64)) (sym i)
        go false e = ap (λ (x : ℕ). is_set x (n % 64)) (lost-other (n / 64 % 16) (omega arith) (eqb-false (n / 64 % 16) i0 e))
