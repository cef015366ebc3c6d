-- Replies: every reply along calls from an opening is that of the refusal table, its rows read from the accepted calls before it.
-- So the calls alone, no record, say which of them are accepted.
use Rattle.std.specs.Prelude.{ℕ, ◌≡◌, not, ◌&&◌, [], ◌∷◌, leb, ltb, eqb, length}
use Rattle.receiver.specs.declared.Millis.{Millis}
use Rattle.seen.specs.declared.Micros.{Micros}
use Rattle.receiver.specs.declared.Receiver.{Receiver}
use Rattle.seen.specs.Numbers.{small}
use Rattle.seen.specs.Received.{reported}
use Rattle.ecn.specs.Totals.{tail_of}
use Rattle.receiver.specs.Record.{delay_rule}
use Rattle.ack.specs.Ack.{frame, ack_delay}
use Rattle.receiver.specs.Exactly.{row, first, verdict_of}
use Rattle.promises.specs.Sequence.{Call, packet, timer, immediate, threshold, write, confirm, Calls, none, ◌then◌, Reply, reply_of, reply_to, replied, opening}
use Rattle.promises.specs.Accepted.{joined, accepted_of, packets, before, frames}
use Rattle.promises.specs.Told.{largest, among, largest_sequence, floor_in, seen_of, totals_of}

-- the rows that concern a call after accepted calls; 1 never comes, and stale comes after every refusal
unfoldable pub reply_after : Receiver → Calls → Call → Reply
reply_after opened cs (packet n time eliciting mark) =
    reply_of
    (first
    (row 5 (not (small n && small time.0))
    ∷ row 6 (leb (floor_in cs) n && (ltb n (largest (packets cs)) && among (packets cs) n))
    ∷ row 7 (ltb n (floor_in cs))
    ∷ []))
reply_after opened cs (timer time) = reply_of (first (row 5 (not (small time.0)) ∷ []))
reply_after opened cs immediate = reply_of (first (row 8 (eqb (largest (packets cs)) 0) ∷ []))
reply_after opened cs (threshold s t d q) =
    reply_to
    (verdict_of (first (row 5 (not (small s && (small t && (small d.0 && small q)))) ∷ row 4 (not (delay_rule opened.limits d)) ∷ []))
    (ltb s (largest_sequence (frames cs))))
reply_after opened cs (write time kind room) =
    reply_of
    (first
    (row 5 (not (small time.0))
    ∷ row 8 (eqb (largest (packets cs)) 0)
    ∷ row 9 (ltb room (length (frame (reported (seen_of cs)) (tail_of kind (totals_of (packets cs))) (ack_delay (seen_of cs) time) 1)))
    ∷ []))
reply_after opened cs (confirm k) =
    reply_of (first (row 5 (not (small k)) ∷ row 8 (eqb (largest (packets cs)) 0) ∷ row 19 (leb (largest (before cs)) k) ∷ []))

-- the accepted calls, by these rows
unfoldable pub accepted_after : Receiver → Calls → Calls
accepted_after opened none = none
accepted_after opened (cs then c) = joined (reply_after opened (accepted_after opened cs) c) (accepted_after opened cs) c

pub record Replies : Type 0 where
  -- the reply to each call
  pub reply : (t q : ℕ) (m : Millis) (u : Micros) (cs : Calls) (c : Call)
      → replied (opening t q m u) cs c ≡ reply_after (opening t q m u) (accepted_of (opening t q m u) cs) c
  -- the accepted calls
  pub accepted-are : (t q : ℕ) (m : Millis) (u : Micros) (cs : Calls) → accepted_of (opening t q m u) cs ≡ accepted_after (opening t q m u) cs
