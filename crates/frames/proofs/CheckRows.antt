-- The refusal table for checking an ACK: its rows are those of reading it with room enough.
-- Assumes nothing.
use Prim.Native.Nat.{ℕ, ◌+◌, ◌*◌, ◌≤◌, ◌<◌}
use mathlib.Core.Path.{◌≡◌, refl, sym, ap, ◌∙◌}
use mathlib.Core.List.{List, [], ◌∷◌}
use native.Mathlib.Omega.{arith}
use borrow.Author.Tests.{le-leb}
use lib.ListN.{length, replicate, length-replicate}
use Rattle.std.specs.Prelude.{Result, Ok, Err}
use Rattle.wire.specs.Refusals.{refusal_number}
use Rattle.wire.specs.Exactly.{OneOf}
use Rattle.wire.specs.declared.Refusal.{Refusal}
use Rattle.wire.proofs.Lengths.{split}
use Rattle.frames.specs.Ack.{AckRead, read_ack, check_ack, after_check}
use Rattle.frames.specs.Exactly.{After, count, AckChecks}
use Rattle.frames.specs.declared.Checked.{Checked}
use Rattle.frames.proofs.Check.{check-then-room}
use Rattle.frames.proofs.Faults.{check-others}
use Rattle.frames.proofs.Exactly.{ack-reads}

-- so much room is enough
room_for : Result Checked Refusal → ℕ
room_for (Ok c) = 2 * (c.count + 1)
room_for (Err refusal) = 0

same-refusal : (s xs : List ℕ) (k : Result Checked Refusal) → room_for k ≤ length xs → refusal_number (after_check s k xs).answer ≡ refusal_number k
unfolding room_for
same-refusal s xs (Err refusal) h = refl
same-refusal s xs (Ok c) h = rw (le-leb (2 * (c.count + 1)) (length xs) h) refl

not-nine : {n : ℕ} → OneOf n (0 ∷ 2 ∷ 3 ∷ 14 ∷ []) → n ≡ 9 → ⊥
not-nine o e = omega (arith, o)

mapped : {kinds s : List ℕ} {P Q : ℕ → List ℕ → ℕ → Type 0} (a : After kinds s P) → ((kind : ℕ) (vs : List ℕ) (next : ℕ) → P kind vs next → Q kind vs next) → After kinds s Q
mapped a f = record {
  kind = a.kind;
  start = a.start;
  type = a.type;
  right = a.right;
  fields = record { numbers = a.fields.numbers; next = a.fields.next; stand = a.fields.stand; holds = f a.kind a.fields.numbers a.fields.next a.fields.holds };
}

-- the same with a fact of its numbers
also : {kinds s : List ℕ} {P : ℕ → List ℕ → ℕ → Type 0} (a : After kinds s P) (R : List ℕ → Type 0) → R a.fields.numbers → After kinds s (λ kind vs next. P kind vs next × R vs)
also a R h = record {
  kind = a.kind;
  start = a.start;
  type = a.type;
  right = a.right;
  fields = record { numbers = a.fields.numbers; next = a.fields.next; stand = a.fields.stand; holds = (a.fields.holds, h) };
}

pub ack-checks : AckChecks
ack-checks s =
    let k : Result Checked Refusal = check_ack s in
    let only = check-others s in
    let xs : List ℕ = replicate (room_for k) 0 in
    let long : length xs ≡ room_for k = length-replicate (room_for k) 0 in
    let e : refusal_number (read_ack s xs).answer ≡ refusal_number k = ap (λ (r : AckRead). refusal_number r.answer) (check-then-room s xs) ∙ same-refusal s xs k (omega arith) in
    let rows = ack-reads s xs in
    record {
      three = (λ t. rows.three.0 (e ∙ t), λ a. sym e ∙ rows.three.1 a);
      two = (λ t. rows.two.0 (e ∙ t), λ a. sym e ∙ rows.two.1 a);
      fourteen = (λ t. rows.fourteen.0 (e ∙ t), λ a. sym e ∙ rows.fourteen.1 a);
      accepted = (
        λ t. mapped (rows.accepted.0 (e ∙ t)) (λ kind vs next h. (h.0, h.1)),
        λ a.
            split (2 * (count a.fields.numbers + 1)) (length xs) (λ h. sym e ∙ rows.accepted.1 (mapped (also a (λ vs. 2 * (count vs + 1) ≤ length xs) h) (λ kind vs next p. (p.0.0, p.0.1, p.1)))) (λ h. absurd (not-nine only (sym e ∙ rows.nine.1 (mapped (also a (λ vs. length xs < 2 * (count vs + 1)) h) (λ kind vs next p. (p.0.0, p.0.1, p.1)))))),
      );
      others = only;
    }
