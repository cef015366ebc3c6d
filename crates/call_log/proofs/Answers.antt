-- What the calls come to: answers as verdicts, and a write's frame at the start of its buffer.
-- Assumes nothing.
use Prim.Native.Nat.{ℕ, zero, suc, ◌+◌, ◌≤◌}
use mathlib.Core.Path.{◌≡◌, refl, sym, ap, ◌∙◌}
use mathlib.Core.Bool.{Bool, true, false}
use mathlib.Core.List.{List, [], ◌++◌, append_assoc}
use native.Mathlib.Omega.{arith}
use lib.ListN.{length, take, drop}
use lib.Seq.{take-append_seam}
use Rattle.seen.specs.declared.Micros.{Micros}
use Rattle.seen.specs.Received.{seen_consistent}
use Rattle.seen.proofs.Tests.{by-test}
use Rattle.ecn.specs.declared.Kind.{Kind}
use Rattle.ecn.specs.Totals.{tail_of}
use Rattle.ack.specs.Ack.{ack_refusal, laid}
use Rattle.ack.proofs.Emits.{frame-fits}
use Rattle.receiver.specs.declared.Receiver.{Receiver}
use Rattle.receiver.specs.declared.Wrote.{Wrote}
use Rattle.receiver.specs.declared.Heard.{Heard}
use Rattle.receiver.specs.declared.Verdict.TheVariants.{Refused}
use Rattle.receiver.specs.Record.{rest_consistent, consistent}
use Rattle.receiver.specs.Write.{write_refusal, emitted, answered, write_answer, write_bytes}
use Rattle.call_log.specs.declared.Noted.{Noted}
use Rattle.call_log.specs.declared.Call.TheVariants.{Write}
use Rattle.call_log.specs.Calls.{verdict_of, longest_frame, acting, unless_refused, wrote_of, step, frame_of}
use Rattle.call_log.specs.Logged.{made}

pub refused-verdict : (k : ℕ) → (k ≡ 0 → ⊥) → Refused k ≡ verdict_of k
refused-verdict zero h = absurd (h refl)
refused-verdict (suc k) h = refl

-- a call that writes no frame
pub no-frame : (m : Noted) (h : Heard) (xs : List ℕ) → m ≡ made h 0 → (m ≡ made h 0) × (take m.frame xs ≡ []) × (m.frame ≤ longest_frame)
no-frame m h xs e = let n : m.frame ≡ 0 = ap (λ (x : Noted). x.frame) e in (e, rw n, omega arith)

-- an accepted frame fits its room
fits-room : (r : Receiver) (time : Micros) (kind : Kind) (xs : List ℕ) → write_refusal r time kind (length xs) ≡ 0 → length (emitted r time kind (length xs)) ≤ length xs
unfolding write_refusal ack_refusal consistent
fits-room r time kind xs e =
    by-test (seen_consistent r.seen)
    (λ s. by-test (rest_consistent r)
    (λ y. frame-fits r.seen time (tail_of kind r.totals) xs (rw s (rw (s, y) at e)))
    (λ n. let f : ◌≡◌ {A = ℕ} 1 0 = rw (s, n) at e in absurd (omega arith)))
    (λ s. let f : ◌≡◌ {A = ℕ} 1 0 = rw s at e in absurd (omega arith))

-- ys is what the write left of the part that it was lent, xs, and rest stands behind it
module _ (room : ℕ) (r : Receiver) (time : Micros) (kind : Kind) (w : Wrote) (xs ys rest : List ℕ) (m : Noted) where
  pub write-made : w ≡ write_answer r time kind xs → ys ≡ write_bytes r time kind xs → length xs ≡ acting room
      → m ≡ made (record { verdict = verdict_of w.result; next = w.next }) w.length
      → (m ≡ made (step r time (Write kind room)) (length (frame_of r time (Write kind room)))) × (take m.frame (ys ++ rest) ≡ frame_of r time (Write kind room)) × (m.frame ≤ length xs)
  unfolding step frame_of write_answer write_bytes
  write-made e f l g =
      let k = write_refusal r time kind (length xs) in
      rw (g, e, f, ← l) (go k (emitted r time kind (length xs)) (fits-room r time kind xs))
    where
      go : (k : ℕ) (bs : List ℕ) → (k ≡ 0 → length bs ≤ length xs)
          → (made (record { verdict = verdict_of (answered k r bs).result; next = (answered k r bs).next }) (answered k r bs).length ≡ made (wrote_of k r) (length (unless_refused k bs)))
          × (take (answered k r bs).length (laid k xs bs ++ rest) ≡ unless_refused k bs) × ((answered k r bs).length ≤ length xs)
      go zero bs h = (refl, rw (append_assoc bs (drop (0 + length bs) xs) rest) (take-append_seam bs (drop (0 + length bs) xs ++ rest)), h refl)
      go (suc k) bs h = (refl, refl, omega arith)

-- a test that was made, and how it came out
pub passed : {result test : Bool} → result ≡ test → result ≡ true → test ≡ true
passed e t = sym e ∙ t

pub missed : {result test : Bool} → result ≡ test → result ≡ false → test ≡ false
missed e t = sym e ∙ t
