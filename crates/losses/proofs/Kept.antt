-- Consistency is kept: a record by the states of its numbers is consistent where these obey the rule, and so is a record after a send.
-- Assumes nothing.
use Prim.Native.Nat.{ℕ, zero, suc, ◌+◌, ◌-◌, ◌/◌, ◌%◌, ◌≤◌, ◌<◌}
use mathlib.Core.Path.{◌≡◌, refl, sym, ap, ap₂, ◌∙◌, subst}
use mathlib.Core.Bool.{Bool, true, false, not, ◌||◌}
use mathlib.Core.List.{List}
use native.Mathlib.Decide.{dec_le}
use native.Mathlib.Omega.{arith}
use borrow.Author.Tests.{le-leb, lt-leb, eqb-true, eqb-false}
use lib.Dec.{eqb}
use lib.ListN.{length, get_or, replicate, get_or-replicate}
use Rattle.wire.specs.Numbers.{limit}
use Rattle.window.specs.Words.{bit}
use Rattle.window.specs.Window.{is_set}
use Rattle.window.proofs.Bits.{bit-lt}
use Rattle.frames.specs.Ack.{check_ack}
use Rattle.marks.proofs.Bits.{set-zero}
use Rattle.sent.specs.Record.{State, Outstanding, Acknowledged, Lost, is_acknowledged, is_lost, most_held, next_of, acked_before, lost_before, floor_of, acked_at, lost_at, state_of, state_at, record_of, consistent}
use Rattle.sent.specs.Calls.{opened, acked_bit, lost_bit, send_refusal, send_after, unless_refused, with_sent}
use Rattle.sent.specs.Heard.{within, end_after, heard_state, state_after, Hearing, hear}
use Rattle.sent.specs.Exactly.{HasMarks, Consistent, IsFull}
use Rattle.sent.proofs.Sound.{clash, sound, complete}
use Rattle.sent.proofs.Exactly.{exactly}
use Rattle.sent.proofs.Stays.{hear-stays}
use Rattle.sent.proofs.Records.{says-next, says-acked-before, says-lost-before, says-end, says-acked, says-lost}
use Rattle.losses.specs.Told.{largest_in, ranges_in}
use Rattle.losses.specs.Kept.{Kept}
use Rattle.losses.proofs.Sending.{sent-next, sent-acked-before, sent-lost-before, sent-end, new-acked, old-acked, old-lost}
use Rattle.losses.proofs.Framed.{within_low, accepted-is}

-- ---- marks and states

both-not : (s : State) → is_acknowledged s ≡ true → is_lost s ≡ true → ⊥
both-not Outstanding a l = clash a refl
both-not Acknowledged a l = clash l refl
both-not Lost a l = clash a refl

pub is-outstanding : (s : State) → not (is_acknowledged s || is_lost s) ≡ true → s ≡ Outstanding
is-outstanding Outstanding e = refl
is-outstanding Acknowledged e = clash e refl
is-outstanding Lost e = clash e refl

outstanding-is : (s : State) → s ≡ Outstanding → not (is_acknowledged s || is_lost s) ≡ true
outstanding-is s e = ap (λ (x : State). not (is_acknowledged x || is_lost x)) e

-- by its two marks
state-out : (a l : Bool) → not (a || l) ≡ true → state_of a l ≡ Outstanding
state-out true l e = clash e refl
state-out false true e = clash e refl
state-out false false e = refl

none-acked : (a l : Bool) → not (a || l) ≡ true → a ≡ false
none-acked true l e = clash e refl
none-acked false l e = refl

none-lost : (a l : Bool) → not (a || l) ≡ true → l ≡ false
none-lost true l e = clash e refl
none-lost false true e = clash e refl
none-lost false false e = refl

-- ---- the record of states that obey the rule

pub states-sound : (f : ℕ → State) (next acked lost end : ℕ) → next ≤ limit + 1 → end ≤ next → acked + lost ≡ next - most_held
    → ((n : ℕ) → next - most_held ≤ n → n < next - most_held + most_held → n + 3 < end → f n ≡ Outstanding → ⊥)
    → ((n : ℕ) → next - most_held ≤ n → n < next - most_held + most_held → next ≤ n → f n ≡ Outstanding) → Consistent (record_of f next acked lost end)
states-sound f next acked lost end most sent sum rule free =
    let r : List ℕ = record_of f next acked lost end in
    let e1 = says-next f next acked lost end in
    let e2 = says-acked-before f next acked lost end in
    let e3 = says-lost-before f next acked lost end in
    let e4 = says-end f next acked lost end in
    record {
      next = omega (arith, e1, most);
      largest = omega (arith, e1, e4, sent);
      totals = omega (arith, e1, e2, e3, sum);
      one-mark = λ n h a l.
          let lo : next - most_held ≤ n = omega (arith, e1, h.0) in
          let hi : n < next - most_held + most_held = omega (arith, e1, h.1) in
          both-not (f n) (sym (says-acked f next acked lost end n lo hi) ∙ a) (sym (says-lost f next acked lost end n lo hi) ∙ l);
      settled = λ n h m o.
          let lo : next - most_held ≤ n = omega (arith, e1, h.0) in
          let hi : n < next - most_held + most_held = omega (arith, e1, h.1) in
          rule n lo hi (omega (arith, e4, m))
          (is-outstanding (f n) (sym (ap₂ (λ (a b : Bool). not (a || b)) (says-acked f next acked lost end n lo hi) (says-lost f next acked lost end n lo hi)) ∙ o));
      inside = λ n h m.
          let lo : next - most_held ≤ n = omega (arith, e1, h.0) in
          let hi : n < next - most_held + most_held = omega (arith, e1, h.1) in
          ap₂ (λ (a b : Bool). not (a || b)) (says-acked f next acked lost end n lo hi) (says-lost f next acked lost end n lo hi) ∙ outstanding-is (f n) (free n lo hi (omega (arith, e1, m)));
    }

-- ---- a frame

heard-settled : (w : Bool) (s : State) → heard_state w true s ≡ Outstanding → ⊥
heard-settled true s e = let z : ◌≡◌ {A = ℕ} 0 1 = cc in omega arith
heard-settled false Outstanding e = let z : ◌≡◌ {A = ℕ} 0 1 = cc in omega arith
heard-settled false Acknowledged e = let z : ◌≡◌ {A = ℕ} 0 1 = cc in omega arith
heard-settled false Lost e = let z : ◌≡◌ {A = ℕ} 0 1 = cc in omega arith

heard-sound : (r pairs : List ℕ) (largest : ℕ) → Consistent r → largest < next_of r → ((n : ℕ) → largest < n → within pairs n ≡ false)
    → Consistent (record_of (state_after r pairs (end_after r largest)) (next_of r) (acked_before r) (lost_before r) (end_after r largest))
heard-sound r pairs largest c h low =
    states-sound (state_after r pairs (end_after r largest)) (next_of r) (acked_before r) (lost_before r) (end_after r largest) c.next (omega (arith, c.largest)) c.totals
    (λ n lo hi m o. heard-settled (within pairs n) (state_at r n) (ap (λ (d : Bool). heard_state (within pairs n) d (state_at r n)) (sym (le-leb (n + 4) (end_after r largest) (omega arith))) ∙ o))
    (λ n lo hi m.
    ap₂ (λ (w d : Bool). heard_state w d (state_at r n)) (low n (omega arith)) (lt-leb (n + 4) (end_after r largest) (omega (arith, c.largest)))
    ∙ state-out (acked_at r n) (lost_at r n) (c.inside n (lo, hi) m))

heard-kept : (r s : List ℕ) (ackedRoom lostRoom : ℕ) → consistent r ≡ true → consistent (hear r s ackedRoom lostRoom).words ≡ true
heard-kept r s ackedRoom lostRoom c = go (eqb (hear r s ackedRoom lostRoom).result 0) refl
  where
    go : (b : Bool) → eqb (hear r s ackedRoom lostRoom).result 0 ≡ b → consistent (hear r s ackedRoom lostRoom).words ≡ true
    go true e =
        let a = accepted-is r s ackedRoom lostRoom (eqb-true (hear r s ackedRoom lostRoom).result 0 e) in
        subst (λ (x : Hearing). consistent x.words ≡ true) (sym a.is)
        (complete (record_of (state_after r (ranges_in s (check_ack s)) (end_after r (largest_in (check_ack s)))) (next_of r) (acked_before r) (lost_before r) (end_after r (largest_in (check_ack s))))
        (heard-sound r (ranges_in s (check_ack s)) (largest_in (check_ack s)) (sound r c) a.sent (within_low s (check_ack s))))
    go false e = subst (λ (x : List ℕ). consistent x ≡ true) (sym ((hear-stays r s ackedRoom lostRoom).words (eqb-false (hear r s ackedRoom lostRoom).result 0 e))) c

-- ---- a send

bit-off : (w k : ℕ) → is_set w k ≡ false → bit w k ≡ 0
bit-off w k e = go (bit w k) (bit-lt w k) (eqb-false (bit w k) 1 e)
  where
    go : (b : ℕ) → b < 2 → (b ≡ 1 → ⊥) → b ≡ 0
    go zero l n = refl
    go (suc zero) l n = absurd (n refl)
    go (suc (suc b)) l n = absurd (omega arith)

-- exactly one of two marks
one_bit : (a b : ℕ) → a < 2 → b < 2 → (eqb a 1 ≡ true → eqb b 1 ≡ true → ⊥) → (not (eqb a 1 || eqb b 1) ≡ true → ⊥) → a + b ≡ 1
one_bit zero zero h l p q = absurd (q refl)
one_bit zero (suc zero) h l p q = refl
one_bit zero (suc (suc b)) h l p q = absurd (omega arith)
one_bit (suc zero) zero h l p q = refl
one_bit (suc zero) (suc zero) h l p q = absurd (p refl refl)
one_bit (suc zero) (suc (suc b)) h l p q = absurd (omega arith)
one_bit (suc (suc a)) b h l p q = absurd (omega arith)

module _ (r : List ℕ) (long : length r ≡ 36) (c : Consistent r) (small : next_of r ≤ limit) (room : IsFull r → ⊥) where
  -- the room that the new number takes: nothing stood there, or the oldest did and is settled
  pub given-up : next_of r < most_held → (acked_bit r (next_of r) ≡ 0) × (lost_bit r (next_of r) ≡ 0)
  given-up h =
      let o = c.inside (next_of r) (omega arith, omega arith) (omega arith) in (
        bit-off (get_or r (next_of r / 64 % 16) 0) (next_of r % 64) (none-acked (acked_at r (next_of r)) (lost_at r (next_of r)) o),
        bit-off (get_or r (16 + next_of r / 64 % 16) 0) (next_of r % 64) (none-lost (acked_at r (next_of r)) (lost_at r (next_of r)) o),
      )

  settled-one : most_held ≤ next_of r → acked_bit r (next_of r) + lost_bit r (next_of r) ≡ 1
  settled-one h =
      let i : floor_of r / 64 % 16 ≡ next_of r / 64 % 16 = omega arith in
      let k : floor_of r % 64 ≡ next_of r % 64 = omega arith in
      let m : HasMarks r (floor_of r) = (omega arith, omega arith) in
      ap₂ (λ (x y : ℕ). bit (get_or r x 0) y + bit (get_or r (16 + x) 0) y) (sym i) (sym k)
      ∙ one_bit (bit (get_or r (floor_of r / 64 % 16) 0) (floor_of r % 64)) (bit (get_or r (16 + floor_of r / 64 % 16) 0) (floor_of r % 64)) (bit-lt _ _) (bit-lt _ _) (c.one-mark (floor_of r) m) (λ o. room (h, o))

  sums : acked_before r + acked_bit r (next_of r) + (lost_before r + lost_bit r (next_of r)) ≡ next_of r + 1 - most_held
  sums = elim (dec_le most_held (next_of r)) [
    | yes h ↦ omega (arith, settled-one h, c.totals)
    | no h ↦ let g = given-up (omega arith) in omega (arith, g.0, g.1, c.totals)
  ]

  -- a number that has marks afterwards is the new one, or had them before
  pub by-room : {P : Type 0} (n : ℕ) → HasMarks (with_sent r) n → (n ≡ next_of r → P) → (HasMarks r n → (n % 1024 ≡ next_of r % 1024 → ⊥) → (n ≡ next_of r → ⊥) → P) → P
  by-room {P} n h f g = go (eqb n (next_of r)) refl
    where
      go : (b : Bool) → eqb n (next_of r) ≡ b → P
      go true e = f (eqb-true n (next_of r) e)
      go false e =
          let ne = eqb-false n (next_of r) e in
          let e1 = sent-next r long in
          g (omega (arith, e1, h.0), below ne e1 h.1) (λ z. ne (omega (arith, e1, h.0, h.1, z))) ne
        where
          below : (n ≡ next_of r → ⊥) → next_of (with_sent r) ≡ next_of r + 1 → n < floor_of (with_sent r) + most_held → n < floor_of r + most_held
          below ne e1 l = elim (dec_le (floor_of r + most_held) n) [ yes m ↦ absurd (ne (omega (arith, e1, l, m))) | no m ↦ omega arith ]

  pub sent-sound : Consistent (with_sent r)
  sent-sound =
      let e1 = sent-next r long in
      let e4 = sent-end r long in
      record {
        next = omega (arith, e1, small);
        largest = omega (arith, e1, e4, c.largest);
        totals = ap₂ ◌+◌ (sent-acked-before r long) (sent-lost-before r long) ∙ sums ∙ ap (λ (x : ℕ). x - most_held) (sym e1);
        one-mark = λ n h a l.
            by-room n h (λ e. clash (sym (ap (acked_at (with_sent r)) e) ∙ a) (new-acked r long))
            (λ m apart ne. c.one-mark n m (sym (old-acked r long n apart) ∙ a) (sym (old-lost r long n apart) ∙ l));
        settled = λ n h m o.
            by-room n h (λ e. omega (arith, e4, c.largest, e, m))
            (λ k apart ne. c.settled n k (omega (arith, e4, m)) (sym (ap₂ (λ (a b : Bool). not (a || b)) (old-acked r long n apart) (old-lost r long n apart)) ∙ o));
        inside = λ n h m.
            by-room n h (λ e. absurd (omega (arith, e1, e, m)))
            (λ k apart ne. ap₂ (λ (a b : Bool). not (a || b)) (old-acked r long n apart) (old-lost r long n apart) ∙ c.inside n k (omega (arith, e1, m)));
      }

send-kept : (r : List ℕ) → length r ≡ 36 → consistent r ≡ true → consistent (send_after r) ≡ true
send-kept r long c = go (send_refusal r) refl
  where
    go : (f : ℕ) → send_refusal r ≡ f → consistent (unless_refused f r (with_sent r)) ≡ true
    go (suc f) e = c
    go zero e =
        let a = (exactly.send r).accepted.0 e in
        complete (with_sent r) (sent-sound r long a.0 a.1.0 a.1.1)

-- ---- the opening

zero-mark : (i k : ℕ) → i < 36 → is_set (get_or (replicate 36 0) i 0) k ≡ false
zero-mark i k h = ap (λ (x : ℕ). is_set x k) (get_or-replicate 36 i 0 0 h) ∙ set-zero k

pub opened-acked : (n : ℕ) → acked_at opened n ≡ false
opened-acked n = zero-mark (n / 64 % 16) (n % 64) (omega arith)

pub opened-lost : (n : ℕ) → lost_at opened n ≡ false
opened-lost n = zero-mark (16 + n / 64 % 16) (n % 64) (omega arith)

opened-sound : Consistent opened
opened-sound = record {
  next = omega arith;
  largest = omega arith;
  totals = refl;
  one-mark = λ n h a l. clash a (opened-acked n);
  settled = λ n h m o. absurd (omega arith);
  inside = λ n h m. ap₂ (λ (a b : Bool). not (a || b)) (opened-acked n) (opened-lost n);
}

pub kept : Kept
kept = record { opening = complete opened opened-sound; send = send-kept; heard = heard-kept }
