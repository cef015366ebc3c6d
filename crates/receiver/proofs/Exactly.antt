-- The refusal table for the calls on the record, proved: each test of a definition is the row's.
-- Assumes nothing.
use Prim.Native.Nat.{ℕ, zero, suc, ◌≤◌}
use mathlib.Core.Path.{◌≡◌, refl, ◌∙◌}
use mathlib.Core.Bool.{Bool, true, false, not, ◌&&◌}
use mathlib.Core.List.{List, [], ◌∷◌}
use native.Mathlib.Omega.{arith}
use borrow.Author.Tests.{le-leb, lt-leb, lt-ltb, le-ltb}
use lib.Dec.{leb, ltb, eqb}
use Rattle.wire.specs.Bytes.{pick}
use Rattle.wire.proofs.Lengths.{split}
use Rattle.seen.specs.declared.Seen.{Seen}
use Rattle.receiver.specs.declared.Receiver.{Receiver}
use Rattle.receiver.specs.declared.Verdict.{Verdict}
use Rattle.receiver.specs.declared.Verdict.TheVariants.{Accepted, Stale, Refused}
use Rattle.seen.specs.Numbers.{small}
use Rattle.seen.specs.Received.{floor, received, seen_consistent, number_refusal}
use Rattle.ack.proofs.Ranges.{both}
use Rattle.ack.proofs.Reporting.{floor-at-most}
use Rattle.receiver.specs.Record.{limits_rule, delay_rule, rest_consistent, consistent}
use Rattle.receiver.specs.Packet.{packet_refusal, packet_after, packet_call, handed_back}
use Rattle.receiver.specs.Confirm.{confirm_refusal, confirm_after, confirm_call}
use Rattle.receiver.specs.Calls.{opened, usual, open_refusal, open_call, timer_refusal, timer_after, timer_call, immediate_refusal, immediate_after, immediate_call, agreed_after, threshold_verdict, threshold_call, heard}
use Rattle.receiver.specs.Exactly.{Row, row, first, Exactly, Unchanged, verdict_of}

result-of : (k : ℕ) (old new : Receiver) → (handed_back k old new).result ≡ k
result-of zero old new = refl
result-of (suc k) old new = refl

kept : (k : ℕ) (old new : Receiver) → ((handed_back k old new).result ≡ 0 → ⊥) → (handed_back k old new).next ≡ old
kept zero old new f = absurd (f refl)
kept (suc k) old new f = refl

verdict-of : (v : Verdict) (old new : Receiver) → (heard v old new).verdict ≡ v
verdict-of Accepted old new = refl
verdict-of Stale old new = refl
verdict-of (Refused k) old new = refl

heard-kept : (v : Verdict) (old new : Receiver) → ((heard v old new).verdict ≡ Accepted → ⊥) → (heard v old new).next ≡ old
heard-kept Accepted old new f = absurd (f refl)
heard-kept Stale old new f = refl
heard-kept (Refused k) old new f = refl

-- a test that must hold, and its row
one-test : (a : Bool) (k : ℕ) → pick a 0 k ≡ first (row k (not a) ∷ [])
unfolding first
one-test true k = refl
one-test false k = refl

next-test : (a : Bool) (k n : ℕ) (rows : List Row) → n ≡ first rows → pick a n k ≡ first (row k (not a) ∷ rows)
unfolding first
next-test true k n rows e = e
next-test false k n rows e = refl

-- the same where the later rows are judged only once the test has held
after_test : (a : Bool) (k n : ℕ) (rows : List Row) → (a ≡ true → n ≡ first rows) → pick a n k ≡ first (row k (not a) ∷ rows)
unfolding first
after_test true k n rows f = f refl
after_test false k n rows f = refl

-- 6 and 7; the floor of a consistent record is at most L
number-rows : (s : Seen) (n : ℕ) → floor s ≤ s.end
    → number_refusal s n ≡ first (row 6 (leb (floor s) n && (ltb n s.end && received s n)) ∷ row 7 (ltb n (floor s)) ∷ [])
unfolding number_refusal first
number-rows s n f =
    split s.end n
    (λ h. rw (le-leb s.end n h, le-ltb n s.end h, le-leb (floor s) n (omega arith), le-ltb n (floor s) (omega arith)))
    (λ h. split (floor s) n
    (λ l. rw (lt-leb s.end n h, lt-ltb n s.end h, le-leb (floor s) n l, le-ltb n (floor s) l))
    (λ l. rw (lt-leb s.end n h, lt-leb (floor s) n l, lt-ltb n (floor s) l)))

below_end : (r : Receiver) → consistent r ≡ true → floor r.seen ≤ r.seen.end
unfolding consistent
below_end r e = let f = floor-at-most r.seen (both (seen_consistent r.seen) (rest_consistent r) e).0 in omega arith

immediate-rows : (a b : Bool) → pick a (pick b 8 0) 1 ≡ first (row 1 (not a) ∷ row 8 b ∷ [])
unfolding first
immediate-rows true b = refl
immediate-rows false b = refl

-- 8 and 19
confirm-rows : (a b : Bool) → pick a 8 (pick b 19 0) ≡ first (row 8 a ∷ row 19 b ∷ [])
unfolding first
confirm-rows true b = refl
confirm-rows false true = refl
confirm-rows false false = refl

threshold-rows : (a b c stale : Bool)
    → pick a (pick b (pick c (pick stale Stale Accepted) (Refused 4)) (Refused 5)) (Refused 1) ≡ verdict_of (first (row 1 (not a) ∷ row 5 (not b) ∷ row 4 (not c) ∷ [])) stale
unfolding first
threshold-rows true true true stale = refl
threshold-rows true true false stale = refl
threshold-rows true false c stale = refl
threshold-rows false b c stale = refl

pub exactly : Exactly
unfolding open_call open_refusal packet_call packet_refusal timer_call timer_refusal immediate_call immediate_refusal threshold_call threshold_verdict confirm_call confirm_refusal
exactly =
    record {
      opening = λ t q m u. result-of (open_refusal t q m u) usual (opened t q m u) ∙ next-test (small t && (small q && (small m.0 && small u.0))) 5 _ _ (one-test (limits_rule (record { maximum = m; minimum = u })) 4);
      packet = λ r n time eliciting mark. result-of (packet_refusal r n time) r (packet_after r n time eliciting mark) ∙ after_test (consistent r) 1 _ _ (λ e. next-test (small n && small time.0) 5 _ _ (number-rows r.seen n (below_end r e)));
      timer = λ r time. result-of (timer_refusal r time) r (timer_after r time) ∙ next-test (consistent r) 1 _ _ (one-test (small time.0) 5);
      immediate = λ r. result-of (immediate_refusal r) r (immediate_after r) ∙ immediate-rows (consistent r) (eqb r.seen.end 0);
      threshold = λ r s t d q. verdict-of (threshold_verdict r s t d q) r (agreed_after r s t d q) ∙ threshold-rows (consistent r) (small s && (small t && (small d.0 && small q))) (delay_rule r.limits d) (ltb s r.agreed.sequence);
      confirm = λ r k. result-of (confirm_refusal r k) r (confirm_after r k) ∙ next-test (consistent r) 1 _ _ (next-test (small k) 5 _ _ (confirm-rows (eqb r.seen.end 0) (leb r.acknowledged k)));
    }

pub unchanged : Unchanged
unfolding open_call packet_call timer_call immediate_call threshold_call confirm_call
unchanged =
    record {
      opening = λ t q m u f. kept (open_refusal t q m u) usual (opened t q m u) f;
      packet = λ r n time eliciting mark f. kept (packet_refusal r n time) r (packet_after r n time eliciting mark) f;
      timer = λ r time f. kept (timer_refusal r time) r (timer_after r time) f;
      immediate = λ r f. kept (immediate_refusal r) r (immediate_after r) f;
      threshold = λ r s t d q f. heard-kept (threshold_verdict r s t d q) r (agreed_after r s t d q) f;
      confirm = λ r k f. kept (confirm_refusal r k) r (confirm_after r k) f;
    }
