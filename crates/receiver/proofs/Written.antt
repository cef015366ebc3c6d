-- What the write call answers and leaves in the buffer, from what `write_ack` answered: the rest of the record is tested first, and no test is made twice.
-- Assumes nothing.
use Prim.Native.Nat.{ℕ, zero, suc}
use mathlib.Core.Path.{◌≡◌, refl, sym, ap, ◌∙◌}
use mathlib.Core.Bool.{true, false}
use mathlib.Core.List.{List}
use lib.ListN.{length}
use Rattle.std.specs.Prelude.{Result, Ok, Err}
use Rattle.wire.specs.Bytes.{splice}
use Rattle.wire.specs.Refusals.{number_of, refusal_number}
use Rattle.wire.specs.declared.Refusal.{Refusal}
use Rattle.seen.specs.declared.Micros.{Micros}
use Rattle.seen.specs.Received.{numbers_obey, marks_consistent, seen_consistent}
use Rattle.ack.specs.Ack.{ack_refusal, ack_frame, ack_answer, ack_bytes}
use Rattle.ack.proofs.Emits.{answer-number, answer-length}
use Rattle.ack.proofs.Refusals.{some-number}
use Rattle.seen.proofs.Tests.{by-test}
use Rattle.receiver.specs.declared.Receiver.{Receiver}
use Rattle.ecn.specs.declared.Kind.{Kind}
use Rattle.ecn.specs.Totals.{tail_of}
use Rattle.receiver.specs.Record.{rest_consistent, consistent}
use Rattle.receiver.specs.Write.{write_refusal, after_write, answered, write_answer, write_bytes}

module _ (r : Receiver) where
  -- where the rest of the record fails or holds
  pub rest-fails : rest_consistent r ≡ false → consistent r ≡ false
  unfolding consistent
  rest-fails e = by-test (seen_consistent r.seen) (λ t. rw (t, e)) (λ t. rw t)

  pub rest-holds : rest_consistent r ≡ true → seen_consistent r.seen ≡ consistent r
  unfolding consistent
  rest-holds e = by-test (seen_consistent r.seen) (λ t. rw (t, e)) (λ t. rw t)

  -- and, where it holds, its numbers fail or its marks decide
  pub numbers-fail : rest_consistent r ≡ true → numbers_obey r.seen ≡ false → consistent r ≡ false
  unfolding seen_consistent
  numbers-fail y e = sym (rest-holds y) ∙ rw e

  pub marks-decide : rest_consistent r ≡ true → numbers_obey r.seen ≡ true → consistent r ≡ marks_consistent r.seen
  unfolding seen_consistent
  marks-decide y e = sym (rest-holds y) ∙ rw e

refusal-answered : (r : Receiver) (bytes : List ℕ) (k : ℕ) → (k ≡ 0 → ⊥) → record { result = k; length = 0; next = r } ≡ answered k r bytes
refusal-answered r bytes zero f = absurd (f refl)
refusal-answered r bytes (suc k) f = refl

module _ (r : Receiver) (time : Micros) (kind : Kind) (xs : List ℕ) where
  pub refused-first : rest_consistent r ≡ false → (record { result = 1; length = 0; next = r } ≡ write_answer r time kind xs) × (xs ≡ write_bytes r time kind xs)
  unfolding write_answer write_bytes write_refusal
  refused-first e = rw (rest-fails r e) (refl, refl)

  module _ (y : rest_consistent r ≡ true) where
    pub same-refusal : write_refusal r time kind (length xs) ≡ ack_refusal r.seen time (tail_of kind r.totals) (length xs)
    unfolding write_refusal ack_refusal
    same-refusal = rw (rest-holds r y)

    module _ {a : Result ℕ Refusal} {ys : List ℕ} (e : a ≡ ack_answer r.seen time (tail_of kind r.totals) xs) (f : ys ≡ ack_bytes r.seen time (tail_of kind r.totals) xs) where
      -- the answer's number is the call's
      numbered : refusal_number a ≡ ack_refusal r.seen time (tail_of kind r.totals) (length xs)
      numbered = ap refusal_number e ∙ answer-number r.seen time (tail_of kind r.totals) xs

      pub wrote-refusal : {n : Refusal} → a ≡ Err n → (record { result = number_of n; length = 0; next = r } ≡ write_answer r time kind xs) × (ys ≡ write_bytes r time kind xs)
      unfolding write_answer write_bytes ack_bytes
      wrote-refusal {n} g =
          let k : number_of n ≡ ack_refusal r.seen time (tail_of kind r.totals) (length xs) = ap refusal_number (sym g) ∙ numbered in
          rw (same-refusal, ← k) (refusal-answered r (ack_frame r.seen time (tail_of kind r.totals) (length xs)) (number_of n) (some-number n), rw k f)

      pub wrote-frame : {q : Receiver} {n : ℕ} → q ≡ after_write r → a ≡ Ok n → (record { result = 0; length = n; next = q } ≡ write_answer r time kind xs) × (ys ≡ write_bytes r time kind xs)
      unfolding write_answer write_bytes ack_bytes
      wrote-frame {q} {n} w g =
          let k : 0 ≡ ack_refusal r.seen time (tail_of kind r.totals) (length xs) = ap refusal_number (sym g) ∙ numbered in
          let b = answer-length r.seen time (tail_of kind r.totals) xs (sym k) in
          let l : n ≡ length (ack_frame r.seen time (tail_of kind r.totals) (length xs)) = cc in
          let b₂ : ys ≡ splice xs 0 (ack_frame r.seen time (tail_of kind r.totals) (length xs)) = rw (sym k) at f in
          rw (same-refusal, w, ← k) (rw l refl, b₂)
