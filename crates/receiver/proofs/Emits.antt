-- What write emits is read back, its refusals are the table's rows, and what it leaves: what `seen` says of its frame, for an accepted write.
-- Assumes nothing.
use Prim.Native.Nat.{ℕ, zero, suc}
use mathlib.Core.Path.{◌≡◌, refl, sym, ◌∙◌}
use mathlib.Core.Bool.{true}
use mathlib.Core.List.{List}
use native.Mathlib.Omega.{arith}
use borrow.Author.Tests.{le-leb, lt-leb, le-ltb, lt-ltb}
use lib.Dec.{eqb}
use lib.ListN.{length}
use Rattle.std.specs.Prelude.{Option}
use Rattle.wire.proofs.Lengths.{split}
use Rattle.seen.specs.declared.Micros.{Micros}
use Rattle.seen.specs.Numbers.{small}
use Rattle.seen.specs.Received.{seen_consistent, reported}
use Rattle.ack.specs.Ack.{ack_delay, frame, ack_refusal, laid, ack_bytes}
use Rattle.seen.proofs.Tests.{by-test}
use Rattle.ack.proofs.Emits.{answer-length, frame-fits, laid-long, laid-stays, lasting, ack-read-back}
use Rattle.receiver.specs.declared.Receiver.{Receiver}
use Rattle.frames.specs.declared.Counts.{Counts}
use Rattle.ecn.specs.declared.Kind.{Kind}
use Rattle.ecn.specs.Totals.{tail_of}
use Rattle.receiver.specs.Record.{rest_consistent, consistent}
use Rattle.receiver.specs.Consistent.{Consistent}
use Rattle.receiver.specs.Exactly.{first}
use Rattle.receiver.specs.Write.{write_refusal, after_write, emitted, answered, write_answer, write_bytes}
use Rattle.receiver.specs.Emits.{WriteReadBack, write_rows, WriteExactly, WriteLeaves, WriteKeeps}
use Rattle.receiver.proofs.Clauses.{consistent-exactly, counts-hold}
use Rattle.receiver.proofs.Written.{same-refusal}

-- ---- refusals

result-of : (k : ℕ) (r : Receiver) (bytes : List ℕ) → (answered k r bytes).result ≡ k
result-of zero r bytes = refl
result-of (suc k) r bytes = refl

module _ (r : Receiver) (time : Micros) (kind : Kind) (room : ℕ) where
  rows : write_refusal r time kind room ≡ first (write_rows r time kind room)
  unfolding write_refusal first
  rows =
      let n : ℕ = length (frame (reported r.seen) (tail_of kind r.totals) (ack_delay r.seen time) 1) in
      by-test (consistent r)
      (λ y. let g = counts-hold r kind y in by-test (small time.0)
      (λ t. by-test (eqb r.seen.end 0)
      (λ z. rw (y, t, g, z))
      (λ z. split n room (λ h. rw (y, t, g, z, le-leb n room h, le-ltb room n h)) (λ h. rw (y, t, g, z, lt-leb n room h, lt-ltb room n h))))
      (λ t. rw (y, t)))
      (λ y. rw y)

pub write-exactly : WriteExactly
unfolding write_answer
write-exactly r time kind xs = result-of (write_refusal r time kind (length xs)) r (emitted r time kind (length xs)) ∙ rows r time kind (length xs)

-- ---- what the call leaves

module _ (r : Receiver) (bytes xs : List ℕ) where
  unchanged-of : (k : ℕ) → ((answered k r bytes).result ≡ 0 → ⊥) → ((answered k r bytes).next ≡ r) × (laid k xs bytes ≡ xs)
  unchanged-of zero f = absurd (f refl)
  unchanged-of (suc k) f = (refl, refl)

  same_length : (k : ℕ) → (answered k r bytes).length ≡ lasting k bytes
  same_length zero = refl
  same_length (suc k) = refl

-- ---- a consistent record stays consistent

still : (r : Receiver) → Consistent r → Consistent (after_write r)
unfolding after_write
still r c =
    record {
      largest = c.largest;
      arrived = c.arrived;
      first = c.first;
      threshold = c.threshold;
      reordering = c.reordering;
      sequence = c.sequence;
      count = omega arith;
      maximum = c.maximum;
      minimum = c.minimum;
      delay = c.delay;
      least = c.least;
      cause = omega arith;
      acknowledged = omega arith;
      highest = c.highest;
      unacknowledged = omega arith;
      absent = (λ e. refl, λ e. refl);
      own = c.own;
      below = c.below;
      floor = c.floor;
      totals = c.totals;
      nothing = λ e. refl;
    }

keeps-of : (k : ℕ) (r : Receiver) (bytes : List ℕ) → consistent r ≡ true → consistent (answered k r bytes).next ≡ true
keeps-of zero r bytes e = (consistent-exactly (after_write r)).1 (still r ((consistent-exactly r).0 e))
keeps-of (suc k) r bytes e = e

pub write_keeps : WriteKeeps
unfolding write_answer
write_keeps r time kind xs e = keeps-of (write_refusal r time kind (length xs)) r (emitted r time kind (length xs)) e

-- ---- read back

-- an accepted write passed the first test, and so `write_ack` was asked
asked : (r : Receiver) (time : Micros) (kind : Kind) (room : ℕ) → write_refusal r time kind room ≡ 0 → rest_consistent r ≡ true
unfolding write_refusal consistent
asked r time kind room e =
    by-test (rest_consistent r) (λ y. y)
    (λ n. by-test (seen_consistent r.seen)
    (λ s. let f : ◌≡◌ {A = ℕ} 1 0 = rw (s, n) at e in absurd (omega arith))
    (λ s. let f : ◌≡◌ {A = ℕ} 1 0 = rw s at e in absurd (omega arith)))

pub write-read-back : WriteReadBack
unfolding write_answer write_bytes ack_bytes
write-read-back r time kind xs e =
    let k : ℕ = write_refusal r time kind (length xs) in
    let tail : Option Counts = tail_of kind r.totals in
    let bytes : List ℕ = emitted r time kind (length xs) in
    let z : k ≡ 0 = sym (result-of k r bytes) ∙ e in
    let s : k ≡ ack_refusal r.seen time tail (length xs) = same-refusal r time kind xs (asked r time kind (length xs) z) in
    let b = ack-read-back r.seen time tail xs (length bytes) (answer-length r.seen time tail xs (sym s ∙ z)) in
    rw (same_length r bytes xs k, z) (rw (sym s ∙ z) at b)

-- ---- what the call leaves in the buffer

pub write-leaves : WriteLeaves
unfolding write_answer write_bytes
write-leaves r time kind xs =
    let k : ℕ = write_refusal r time kind (length xs) in
    let bytes : List ℕ = emitted r time kind (length xs) in
    record {
      unchanged = unchanged-of r bytes xs k;
      long = laid-long bytes xs k
          (λ z. frame-fits r.seen time (tail_of kind r.totals) xs (sym (same-refusal r time kind xs (asked r time kind (length xs) z)) ∙ z));
      stay = rw (same_length r bytes xs k) (laid-stays bytes xs k);
    }
