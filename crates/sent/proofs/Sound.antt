-- What consistent means, number by number: the test says it, and it passes the test.
-- Assumes nothing.
use Prim.Native.Nat.{ℕ, ◌+◌, ◌-◌}
use mathlib.Core.Path.{◌≡◌, refl, ap₂}
use mathlib.Core.Bool.{Bool, true, false, not, ◌&&◌, ◌||◌}
use mathlib.Core.List.{List}
use native.Mathlib.Omega.{arith}
use borrow.Author.Tests.{le-leb, leb-true, eq-eqb}
use lib.Dec.{leb, eqb}
use Rattle.wire.specs.Numbers.{limit}
use Rattle.marks.specs.Marks.{none_in}
use Rattle.marks.proofs.Listing.{none-says, none_is}
use Rattle.sent.specs.Record.{most_held, next_of, acked_before, lost_before, end_of, floor_of, acked_at, lost_at, is_outstanding, is_due, numbers_agree, wrong_at, consistent}
use Rattle.sent.specs.Exactly.{HasMarks, Consistent, ConsistentExactly}
use Rattle.sent.proofs.Numbers.{left, right, agree-says}

-- a test does not give both answers
pub clash : {P : Type 0} {b : Bool} → b ≡ true → b ≡ false → P
clash t f = let z : ◌≡◌ {A = ℕ} 0 1 = cc in absurd (omega arith)

-- ---- consistent

-- the three ways in which a number's marks are wrong
fine-one : (a l x y : Bool) → (((a && l) || x) || y) ≡ false → a ≡ true → l ≡ true → ⊥
fine-one a l x y e p q = clash (ap₂ (λ (u v : Bool). ((u && v) || x) || y) p q) e

fine-two : (x d o y : Bool) → ((x || (d && o)) || y) ≡ false → d ≡ true → o ≡ true → ⊥
fine-two true d o y e p q = clash refl e
fine-two false d o y e p q = clash (ap₂ (λ (u v : Bool). (u && v) || y) p q) e

fine-three : (x b o : Bool) → (x || (b && not o)) ≡ false → b ≡ true → o ≡ true
fine-three true b o e p = clash refl e
fine-three false true true e p = refl
fine-three false true false e p = clash refl e
fine-three false false o e p = clash p refl

fine : (a l d b o : Bool) → (a ≡ true → l ≡ true → ⊥) → (d ≡ true → o ≡ true → ⊥) → (b ≡ true → o ≡ true) → (((a && l) || (d && o)) || (b && not o)) ≡ false
fine true true d b o p q r = absurd (p refl refl)
fine true false true b true p q r = absurd (q refl refl)
fine true false true true false p q r = clash (r refl) refl
fine true false true false false p q r = refl
fine true false false true true p q r = refl
fine true false false true false p q r = clash (r refl) refl
fine true false false false o p q r = refl
fine false l true b true p q r = absurd (q refl refl)
fine false l true true false p q r = clash (r refl) refl
fine false l true false false p q r = refl
fine false l false true true p q r = refl
fine false l false true false p q r = clash (r refl) refl
fine false l false false o p q r = refl

agreed : (a b c : Bool) → a ≡ true → b ≡ true → c ≡ true → ((a && b) && c) ≡ true
agreed a b c p q r = rw (p, q, r) refl

pub sound : (r : List ℕ) → consistent r ≡ true → Consistent r
unfolding consistent
sound r e =
    let small = agree-says (next_of r) (end_of r) (acked_before r) (lost_before r) (left _ _ e) in
    let none = right (numbers_agree (next_of r) (end_of r) (acked_before r) (lost_before r)) (none_in (wrong_at r) most_held (floor_of r)) e in
    let at : (n : ℕ) → HasMarks r n → wrong_at r n ≡ false = λ n h. none-says (wrong_at r) most_held (floor_of r) n none h.0 h.1 in
    record {
      next = small.most;
      largest = small.sent;
      totals = small.totals;
      one-mark = λ n h. fine-one (acked_at r n) (lost_at r n) (is_due (end_of r) n && is_outstanding r n) (leb (next_of r) n && not (is_outstanding r n)) (at n h);
      settled = λ n h l. fine-two (acked_at r n && lost_at r n) (is_due (end_of r) n) (is_outstanding r n) (leb (next_of r) n && not (is_outstanding r n)) (at n h) (le-leb (n + 4) (end_of r) (omega arith));
      inside = λ n h l. fine-three ((acked_at r n && lost_at r n) || (is_due (end_of r) n && is_outstanding r n)) (leb (next_of r) n) (is_outstanding r n) (at n h) (le-leb (next_of r) n l);
    }

pub complete : (r : List ℕ) → Consistent r → consistent r ≡ true
unfolding consistent
complete r c =
    ap₂ ◌&&◌
    (agreed (leb (next_of r) (limit + 1)) (leb (end_of r) (next_of r)) (eqb (acked_before r + lost_before r) (next_of r - most_held))
    (le-leb (next_of r) (limit + 1) c.next) (le-leb (end_of r) (next_of r) c.largest) (eq-eqb (acked_before r + lost_before r) (next_of r - most_held) c.totals))
    (none_is (wrong_at r) most_held (floor_of r) (λ n h l.
    fine (acked_at r n) (lost_at r n) (is_due (end_of r) n) (leb (next_of r) n) (is_outstanding r n) (c.one-mark n (h, l))
    (λ d. let m = leb-true (n + 4) (end_of r) d in c.settled n (h, l) (omega arith)) (λ b. c.inside n (h, l) (leb-true (next_of r) n b))))

pub consistent-exactly : ConsistentExactly
consistent-exactly r = (sound r, complete r)

pub not_sound : (r : List ℕ) → consistent r ≡ false → Consistent r → ⊥
not_sound r e c = clash (complete r c) e
