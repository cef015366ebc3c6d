-- The refusal table for the loss list's calls, proved: each test of a definition says what its row says, and the tests come in their order.
-- Assumes nothing.
use Prim.Native.Nat.{ℕ, ◌≤◌, ◌<◌}
use mathlib.Core.Path.{◌≡◌, refl, ap₂}
use mathlib.Core.Logic.{inl, inr, ⊎_elim}
use mathlib.Core.Bool.{Bool, true, false, ◌&&◌}
use mathlib.Core.List.{List, [], ◌∷◌}
use native.Mathlib.Omega.{arith}
use borrow.Author.Tests.{le-leb, leb-true, leb-false, ltb-true, ltb-false, eqb-false}
use lib.Dec.{leb, ltb}
use lib.ListN.{length}
use Rattle.std.specs.Prelude.{Result, Ok, Err}
use Rattle.wire.specs.Bytes.{pick}
use Rattle.wire.specs.Numbers.{limit}
use Rattle.wire.specs.Exactly.{OneOf}
use Rattle.wire.specs.Refusals.{number_of, refusal_number}
use Rattle.wire.specs.declared.Refusal.{Refusal}
use Rattle.frames.specs.Ack.{check_ack}
use Rattle.frames.specs.declared.Checked.{Checked}
use Rattle.frames.proofs.CheckRows.{ack-checks}
use Rattle.frames.proofs.Rows.{never, here}
use Rattle.sent.specs.Record.{is_acknowledged, is_lost, most_held, next_of, consistent}
use Rattle.sent.specs.Calls.{is_held_back, send_refusal}
use Rattle.sent.specs.Heard.{ranges_of, end_after, newly_in, Hearing, refused_as, hear_ranges, hear_checked, hear}
use Rattle.sent.specs.Exactly.{Consistent, IsFull, SendRows, HasRoom, HeardRows, Exactly}
use Rattle.sent.proofs.Numbers.{left, right}
use Rattle.sent.proofs.Refusals.{is_numbered}
use Rattle.sent.proofs.Sound.{clash, sound, not_sound}

-- ---- a send

full-says : (r : List ℕ) → is_held_back r ≡ true → IsFull r
full-says r e = (leb-true most_held (next_of r) (left _ _ e), right (leb most_held (next_of r)) _ e)

full_is : (r : List ℕ) → IsFull r → is_held_back r ≡ true
full_is r f = ap₂ ◌&&◌ (le-leb most_held (next_of r) f.0) f.1

send_rows : (r : List ℕ) (a b c : Bool) → consistent r ≡ a → leb (next_of r) limit ≡ b → is_held_back r ≡ c → SendRows r (pick a (pick b (pick c 9 0) 5) 1)
send_rows r false b c p q t = record {
  one = here (not_sound r p);
  five = never (eqb-false 1 5 refl) (λ x. not_sound r p x.0);
  nine = never (eqb-false 1 9 refl) (λ x. not_sound r p x.0);
  accepted = never (eqb-false 1 0 refl) (λ x. not_sound r p x.0);
  others = inr (inl refl);
}
send_rows r true false c p q t =
    let h = leb-false (next_of r) limit q in
    record {
      one = never (eqb-false 5 1 refl) (λ x. x (sound r p));
      five = here (sound r p, omega arith);
      nine = never (eqb-false 5 9 refl) (λ x. omega (arith, x.1.0));
      accepted = never (eqb-false 5 0 refl) (λ x. omega (arith, x.1.0));
      others = inr (inr (inl refl));
    }
send_rows r true true true p q t =
    let h = leb-true (next_of r) limit q in
    record {
      one = never (eqb-false 9 1 refl) (λ x. x (sound r p));
      five = never (eqb-false 9 5 refl) (λ x. omega (arith, x.1));
      nine = here (sound r p, (h, full-says r t));
      accepted = never (eqb-false 9 0 refl) (λ x. x.1.1 (full-says r t));
      others = inr (inr (inr (inl refl)));
    }
send_rows r true true false p q t =
    let h = leb-true (next_of r) limit q in
    let f : IsFull r → ⊥ = λ g. clash (full_is r g) t in
    record {
      one = never (eqb-false 0 1 refl) (λ x. x (sound r p));
      five = never (eqb-false 0 5 refl) (λ x. omega (arith, x.1));
      nine = never (eqb-false 0 9 refl) (λ x. f x.1.1);
      accepted = here (sound r p, (h, f));
      others = inl refl;
    }

-- ---- a frame

-- a number of the ACK reader's check is one of its rows
by-row : {n : ℕ} {P : Type 0} → OneOf n (0 ∷ 2 ∷ 3 ∷ 14 ∷ []) → (n ≡ 0 → P) → (n ≡ 2 → P) → (n ≡ 3 → P) → (n ≡ 14 → P) → P
by-row o a b c d = ⊎_elim a (⊎_elim b (⊎_elim c (⊎_elim d (λ x. absurd x)))) o

module _ (r s : List ℕ) (ackedRoom lostRoom : ℕ) where
  refused-one : (k : Result Checked Refusal) → consistent r ≡ false → HeardRows r s ackedRoom lostRoom k 1
  refused-one k e =
      let n = not_sound r e in
      record {
        one = here n;
        two = never (eqb-false 1 2 refl) (λ x. n x.0);
        three = never (eqb-false 1 3 refl) (λ x. n x.0);
        fourteen = never (eqb-false 1 14 refl) (λ x. n x.0);
        sixteen = never (eqb-false 1 16 refl) (λ x. n x.0);
        nine = never (eqb-false 1 9 refl) (λ x. n x.0);
        accepted = never (eqb-false 1 0 refl) (λ x. n x.0);
        others = inr (inl refl);
      }

  module _ (c : Consistent r) where
    module _ (f : Checked) where
      abbrev k : Result Checked Refusal
      k = Ok f

      abbrev largest : ℕ
      largest = f.largest

      abbrev used : ℕ
      used = f.used

      abbrev pairs : List ℕ
      pairs = (ranges_of s f).pairs

      not-sent : next_of r ≤ largest → HeardRows r s ackedRoom lostRoom k 16
      not-sent h = record {
        one = never (eqb-false 16 1 refl) (λ x. x c);
        two = never (eqb-false 16 2 refl) (λ x. eqb-false 0 2 refl x.1);
        three = never (eqb-false 16 3 refl) (λ x. eqb-false 0 3 refl x.1);
        fourteen = never (eqb-false 16 14 refl) (λ x. eqb-false 0 14 refl x.1);
        sixteen = here (c, h);
        nine = never (eqb-false 16 9 refl) (λ x. omega (arith, x.1.0));
        accepted = never (eqb-false 16 0 refl) (λ x. omega (arith, x.1.0));
        others = inr (inr (inr (inr (inr (inr (inl refl))))));
      }

      no_room : largest < next_of r → (HasRoom r ackedRoom lostRoom largest pairs → ⊥) → HeardRows r s ackedRoom lostRoom k 9
      no_room h n = record {
        one = never (eqb-false 9 1 refl) (λ x. x c);
        two = never (eqb-false 9 2 refl) (λ x. eqb-false 0 2 refl x.1);
        three = never (eqb-false 9 3 refl) (λ x. eqb-false 0 3 refl x.1);
        fourteen = never (eqb-false 9 14 refl) (λ x. eqb-false 0 14 refl x.1);
        sixteen = never (eqb-false 9 16 refl) (λ x. omega (arith, x.1));
        nine = here (c, (h, n));
        accepted = never (eqb-false 9 0 refl) (λ x. n x.1.1);
        others = inr (inr (inr (inr (inl refl))));
      }

      all-fits : largest < next_of r → HasRoom r ackedRoom lostRoom largest pairs → HeardRows r s ackedRoom lostRoom k 0
      all-fits h m = record {
        one = never (eqb-false 0 1 refl) (λ x. x c);
        two = never (eqb-false 0 2 refl) (λ x. eqb-false 0 2 refl x.1);
        three = never (eqb-false 0 3 refl) (λ x. eqb-false 0 3 refl x.1);
        fourteen = never (eqb-false 0 14 refl) (λ x. eqb-false 0 14 refl x.1);
        sixteen = never (eqb-false 0 16 refl) (λ x. omega (arith, x.1));
        nine = never (eqb-false 0 9 refl) (λ x. x.1.1 m);
        accepted = here (c, (h, m));
        others = inl refl;
      }

      by-room : largest < next_of r → (a b : Bool) → leb (length (newly_in is_acknowledged r pairs (end_after r largest))) ackedRoom ≡ a → leb (length (newly_in is_lost r pairs (end_after r largest))) lostRoom ≡ b
          → (x y : Hearing) → x.result ≡ 0 → y.result ≡ 9 → HeardRows r s ackedRoom lostRoom k (pick (a && b) x y).result
      by-room h true true p q x y u v =
          rw u (all-fits h (leb-true (length (newly_in is_acknowledged r pairs (end_after r largest))) ackedRoom p, leb-true (length (newly_in is_lost r pairs (end_after r largest))) lostRoom q))
      by-room h true false p q x y u v = rw v (no_room h (λ m. clash (le-leb (length (newly_in is_lost r pairs (end_after r largest))) lostRoom m.1) q))
      by-room h false b p q x y u v = rw v (no_room h (λ m. clash (le-leb (length (newly_in is_acknowledged r pairs (end_after r largest))) ackedRoom m.0) p))

      by-largest : (a : Bool) → ltb largest (next_of r) ≡ a → HeardRows r s ackedRoom lostRoom k (pick a (hear_ranges r pairs (end_after r largest) used ackedRoom lostRoom) (refused_as 16 r)).result
      unfolding hear_ranges
      by-largest true e = by-room (ltb-true largest (next_of r) e) (leb (length (newly_in is_acknowledged r pairs (end_after r largest))) ackedRoom) (leb (length (newly_in is_lost r pairs (end_after r largest))) lostRoom) refl refl _ _ refl refl
      by-largest false e = let h = ltb-false largest (next_of r) e in not-sent (omega arith)

    -- the ACK reader's own refusals
    rows_of_refusal : (refusal : Refusal) → OneOf (number_of refusal) (0 ∷ 2 ∷ 3 ∷ 14 ∷ []) → HeardRows r s ackedRoom lostRoom (Err refusal) (number_of refusal)
    rows_of_refusal refusal o = record {
      one = never (λ e. by-row o (λ f. omega arith) (λ f. omega arith) (λ f. omega arith) (λ f. omega arith)) (λ x. x c);
      two = (λ e. (c, e), λ x. x.1);
      three = (λ e. (c, e), λ x. x.1);
      fourteen = (λ e. (c, e), λ x. x.1);
      sixteen = never (λ e. by-row o (λ f. omega arith) (λ f. omega arith) (λ f. omega arith) (λ f. omega arith)) (λ x. x.1);
      nine = never (λ e. by-row o (λ f. omega arith) (λ f. omega arith) (λ f. omega arith) (λ f. omega arith)) (λ x. x.1);
      accepted = never (is_numbered refusal) (λ x. x.1);
      others = by-row o (λ e. inl e) (λ e. inr (inr (inl e))) (λ e. inr (inr (inr (inl e)))) (λ e. inr (inr (inr (inr (inr (inl e))))));
    }

    rows_of : (k : Result Checked Refusal) → OneOf (refusal_number k) (0 ∷ 2 ∷ 3 ∷ 14 ∷ []) → HeardRows r s ackedRoom lostRoom k (hear_checked r s ackedRoom lostRoom k).result
    rows_of (Err refusal) o = rows_of_refusal refusal o
    rows_of (Ok f) o = by-largest f (ltb f.largest (next_of r)) refl

  heard-rows : (a : Bool) → consistent r ≡ a → HeardRows r s ackedRoom lostRoom (check_ack s) (pick a (hear_checked r s ackedRoom lostRoom (check_ack s)) (refused_as 1 r)).result
  heard-rows true e = rows_of (sound r e) (check_ack s) (ack-checks s).others
  heard-rows false e = refused-one (check_ack s) e

pub exactly : Exactly
unfolding send_refusal hear
exactly = record {
  send = λ r. send_rows r (consistent r) (leb (next_of r) limit) (is_held_back r) refl refl refl;
  heard = λ r s ackedRoom lostRoom. heard-rows r s ackedRoom lostRoom (consistent r) refl;
}
