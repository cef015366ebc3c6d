-- Replies: the record that the accepted calls tell gives every row of the table its meaning in the list.
-- Assumes nothing.
use Prim.Native.Nat.{ℕ, ◌≤◌, ◌<◌, max}
use mathlib.Core.Path.{◌≡◌, refl, ap, ap₂, ◌∙◌}
use mathlib.Core.Bool.{Bool, true, not, ◌&&◌}
use mathlib.Core.List.{[], ◌∷◌}
use borrow.Author.Tests.{le-leb, lt-leb, lt-ltb, le-ltb}
use lib.Dec.{leb, ltb, eqb}
use lib.ListN.{length}
use Rattle.wire.proofs.Lengths.{split}
use Rattle.receiver.specs.declared.Millis.{Millis}
use Rattle.seen.specs.declared.Micros.{Micros}
use Rattle.seen.specs.declared.Seen.{Seen}
use Rattle.receiver.specs.declared.Limits.{Limits}
use Rattle.receiver.specs.declared.Receiver.{Receiver}
use Rattle.seen.specs.Numbers.{small}
use Rattle.seen.specs.Received.{floor, floor_of, received, reported}
use Rattle.receiver.specs.Record.{delay_rule, consistent}
use Rattle.ack.specs.Ack.{frame, ack_delay}
use Rattle.receiver.specs.Exactly.{row, first, verdict_of}
use Rattle.ecn.specs.declared.Totals.{Totals}
use Rattle.ecn.specs.Totals.{tail_of}
use Rattle.promises.specs.Sequence.{Call, packet, timer, immediate, threshold, write, confirm, Calls, none, ◌then◌, Reply, reply_of, reply_to, after, replied, opening}
use Rattle.promises.specs.Accepted.{joined, accepted_of, packets}
use Rattle.promises.specs.Told.{largest, among, seen_of}
use Rattle.promises.specs.Replies.{reply_after, accepted_after, Replies}
use Rattle.promises.proofs.Rows.{later_rows, by_rows}
use Rattle.promises.proofs.Kept.{along}
use Rattle.promises.proofs.Along.{limits-are, seen-is, end_is, floor-is, acknowledged-is, sequence-is, totals-are}
use Rattle.promises.proofs.Told.{window-is}

-- 6 asks for the mark only in the window
by-window : (low high n : ℕ) (a b : Bool) → (low ≤ n → n < high → a ≡ b) → (leb low n && (ltb n high && a)) ≡ (leb low n && (ltb n high && b))
by-window low high n a b f =
    split low n
    (λ h. split high n (λ k. rw (le-leb low n h, le-ltb n high k)) (λ k. rw (le-leb low n h, lt-ltb n high k) (f h k)))
    (λ h. rw (lt-leb low n h))

module _ (t q : ℕ) (m : Millis) (u : Micros) (cs : Calls) where
  abbrev o : Receiver
  o = opening t q m u

  abbrev acc : Calls
  acc = accepted_of (opening t q m u) cs

  abbrev now : Receiver
  now = after (opening t q m u) cs

  holds : consistent now ≡ true
  holds = along t q m u cs

  reply-is : (c : Call) → replied o cs c ≡ reply_after o acc c
  unfolding reply_after
  reply-is (packet n time eliciting mark) =
      let end : now.seen.end ≡ largest (packets acc) = end_is t q m u cs in
      by_rows now (packet n time eliciting mark)
      ∙ ap reply_of
      (later_rows (consistent now) _ holds
      ∙ ap (λ (b : Bool). first (row 5 (not (small n && small time.0)) ∷ row 6 b ∷ row 7 (ltb n (floor now.seen)) ∷ []))
      (by-window (floor now.seen) now.seen.end n (received now.seen n) (among (packets acc) n) (window-is t q m u cs n))
      ∙ ap₂ (λ (f e : ℕ). first (row 5 (not (small n && small time.0)) ∷ row 6 (leb (max f (floor_of e)) n && (ltb n e && among (packets acc) n)) ∷ row 7 (ltb n (max f (floor_of e))) ∷ [])) (floor-is t q m u cs) end)
  reply-is (timer time) = by_rows now (timer time) ∙ ap reply_of (later_rows (consistent now) _ holds)
  reply-is immediate =
      by_rows now immediate ∙ ap reply_of (later_rows (consistent now) _ holds ∙ ap (λ (e : ℕ). first (row 8 (eqb e 0) ∷ [])) (end_is t q m u cs))
  reply-is (threshold s a d b) =
      by_rows now (threshold s a d b)
      ∙ ap reply_to
      (ap₂ (λ (k : ℕ) (e : ℕ). verdict_of k (ltb s e))
      (later_rows (consistent now) _ holds
      ∙ ap (λ (l : Limits). first (row 5 (not (small s && (small a && (small d.0 && small b)))) ∷ row 4 (not (delay_rule l d)) ∷ [])) (limits-are t q m u cs))
      (sequence-is t q m u cs))
  reply-is (write time kind room) =
      by_rows now (write time kind room)
      ∙ ap reply_of
      (later_rows (consistent now) _ holds
      ∙ ap₂ (λ (e : ℕ) (s : Seen). first (row 5 (not (small time.0)) ∷ row 8 (eqb e 0) ∷ row 9 (ltb room (length (frame (reported s) (tail_of kind now.totals) (ack_delay s time) 1))) ∷ []))
      (end_is t q m u cs) (seen-is t q m u cs)
      ∙ ap (λ (n : Totals). first (row 5 (not (small time.0)) ∷ row 8 (eqb (largest (packets acc)) 0) ∷ row 9 (ltb room (length (frame (reported (seen_of acc)) (tail_of kind n) (ack_delay (seen_of acc) time) 1))) ∷ []))
      (totals-are t q m u cs))
  reply-is (confirm k) =
      by_rows now (confirm k)
      ∙ ap reply_of
      (later_rows (consistent now) _ holds
      ∙ ap₂ (λ (e a : ℕ). first (row 5 (not (small k)) ∷ row 8 (eqb e 0) ∷ row 19 (leb a k) ∷ [])) (end_is t q m u cs) (acknowledged-is t q m u cs))

accepted-are : (t q : ℕ) (m : Millis) (u : Micros) (cs : Calls) → accepted_of (opening t q m u) cs ≡ accepted_after (opening t q m u) cs
unfolding accepted_of accepted_after
accepted-are t q m u none = refl
accepted-are t q m u (cs then c) =
    ap (λ (a : Reply). joined a (accepted_of (opening t q m u) cs) c) (reply-is t q m u cs c)
    ∙ ap (λ (l : Calls). joined (reply_after (opening t q m u) l c) l c) (accepted-are t q m u cs)

pub replies : Replies
replies = record { reply = reply-is; accepted-are = accepted-are }
