-- Acknowledged: the record tells the accepted numbers place by place, so receiver's runs of its window are the runs of these.
-- Assumes nothing.
use Prim.Native.Nat.{ℕ, ◌-◌, ◌≤◌, ◌<◌, max}
use mathlib.Core.Path.{◌≡◌, sym, ap, ap₂, ◌∙◌}
use mathlib.Core.Bool.{true, false≢true}
use native.Mathlib.Omega.{arith}
use borrow.Author.Tests.{leb-false}
use lib.ListN.{length}
use Rattle.wire.proofs.Lengths.{split}
use Rattle.receiver.specs.declared.Millis.{Millis}
use Rattle.seen.specs.declared.Micros.{Micros}
use Rattle.receiver.specs.declared.Receiver.{Receiver}
use Rattle.seen.specs.Received.{floor, floor_of, seen_consistent, reported}
use Rattle.receiver.specs.Record.{consistent}
use Rattle.ack.specs.Ack.{ranges, number_of_ranges, ack_delay, frame, ranges_kept}
use Rattle.ecn.specs.Totals.{tail_of}
use Rattle.receiver.specs.Write.{write_answer}
use Rattle.ack.specs.Emits.{Received, MaximalRuns as WindowRuns}
use Rattle.ack.proofs.Maximal.{ranges-are-runs}
use Rattle.ack.proofs.Fitting.{kept-says}
use Rattle.receiver.proofs.Emits.{write-read-back}
use Rattle.promises.specs.Sequence.{write, Calls, Outcome, after, opening}
use Rattle.promises.specs.Accepted.{accepted_of, packets}
use Rattle.promises.specs.Told.{largest, floor_in}
use Rattle.promises.specs.Acknowledged.{InWindow, MaximalRuns, Acknowledged}
use Rattle.promises.proofs.Truth.{both_left}
use Rattle.promises.proofs.Packets.{none_above}
use Rattle.promises.proofs.Writing.{write-is-step}
use Rattle.promises.proofs.Acceptance.{reply-zero, step-meets}
use Rattle.promises.proofs.Kept.{along}
use Rattle.promises.proofs.Along.{seen-is, end_is, floor-is, totals-are}
use Rattle.promises.proofs.Told.{window-is}

module _ (t q : ℕ) (m : Millis) (u : Micros) (cs : Calls) where
  abbrev acc : Calls
  acc = accepted_of (opening t q m u) cs

  abbrev now : Receiver
  now = after (opening t q m u) cs

  end : now.seen.end ≡ largest (packets acc)
  end = end_is t q m u cs

  floor-now : floor now.seen ≡ floor_in acc
  floor-now = ap₂ (λ (f e : ℕ). max f (floor_of e)) (floor-is t q m u cs) end

  -- a number of the window was received exactly when it was accepted
  accepted-of : (n : ℕ) → Received now.seen n → InWindow acc n
  accepted-of n (l, h, e) = (rw floor-now at l, sym (window-is t q m u cs n l h) ∙ e)

  received-of : (n : ℕ) → InWindow acc n → Received now.seen n
  received-of n (l, e) =
      let h : n < largest (packets acc) = split (largest (packets acc)) n (λ k. absurd (false≢true (sym (none_above (packets acc) n k) ∙ e))) (λ k. k) in
      let low : floor now.seen ≤ n = rw floor-now l in
      let high : n < now.seen.end = omega (arith, end) in (low, high, window-is t q m u cs n low high ∙ e)

  seen-consistent : seen_consistent now.seen ≡ true
  unfolding consistent
  seen-consistent = both_left (seen_consistent now.seen) _ (along t q m u cs)

  runs-are : 0 < now.seen.end → MaximalRuns acc (number_of_ranges (reported now.seen)) (ranges (reported now.seen))
  runs-are h =
      let v : WindowRuns now.seen = ranges-are-runs now.seen seen-consistent h in record {
        pairs = v.pairs;
        holds = v.holds;
        run = λ i l n a b. accepted-of n (v.run i l n a b);
        above = λ i l w. v.above i l (received-of _ w);
        below = λ i l n e w. v.below i l n e (received-of n w);
        newest = v.newest;
        all = λ n w. v.all n (received-of n w);
      }

pub acknowledged : Acknowledged
unfolding frame
acknowledged t q m u cs time kind xs e =
    let r : Receiver = after (opening t q m u) cs in
    let z : (write_answer r time kind xs).result ≡ 0 = reply-zero _ (sym (ap (λ (x : Outcome). x.reply) (write-is-step r time kind xs)) ∙ e) in
    let w = write-read-back r time kind xs z in
    record {
      count = number_of_ranges (reported r.seen);
      runs = ranges (reported r.seen);
      maximal = runs-are t q m u cs (step-meets r (write time kind (length xs)) e);
      kept = ranges_kept (reported r.seen) (tail_of kind r.totals) (ack_delay r.seen time) (length xs);
      first = w.first;
      fits = rw (← seen-is t q m u cs, ← totals-are t q m u cs) w.fits;
      most = λ k l h. rw (← seen-is t q m u cs, ← totals-are t q m u cs) (leb-false _ (length xs) ((kept-says (reported r.seen) (tail_of kind r.totals) (ack_delay r.seen time) (length xs)).above k l h));
      back = λ zs l. rw (← seen-is t q m u cs, ← end_is t q m u cs, ← totals-are t q m u cs) (w.back zs l);
    }
