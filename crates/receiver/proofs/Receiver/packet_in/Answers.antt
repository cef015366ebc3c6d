-- `receiver::Receiver::packet_in` meets its contract: a refusal hands the record back, and an accepted packet leaves what it changes.
-- Assumes nothing.
use Prim.Native.Nat.{ℕ, ◌≤◌}
use mathlib.Core.Path.{◌≡◌, refl, ap, ◌∙◌}
use mathlib.Core.Bool.{Bool, true, false, ◌&&◌}
use native.Mathlib.Omega.{arith}
use borrow.Author.Tests.{leb-true}
use Rattle.wire.specs.Numbers.{limit}
use Rattle.seen.specs.Numbers.{small}
use Rattle.ack.proofs.Ranges.{both}
use Rattle.ack.proofs.Refusals.{some-number}
use Rattle.seen.specs.declared.Micros.{Micros}
use Rattle.receiver.specs.declared.Receiver.{Receiver}
use Rattle.receiver.specs.Record.{consistent}
use Rattle.receiver.specs.Packet.{record_over, answer_over, packet_refusal, packet_call}
use Rattle.receiver.proofs.Standing.{refused, accepted}
use Rattle.receiver.proofs.Receiver.packet_in.Goals as goal

-- what a packet that nothing refuses has passed
passed : (r : Receiver) (n : ℕ) (time : Micros) {k : ℕ} → k ≡ packet_refusal r n time → k ≡ 0 → (n ≤ limit) × (consistent r ≡ true)
unfolding packet_refusal
passed r n time {k} e z = go (consistent r) (small n && small time.0) refl refl
  where
    go : (a b : Bool) → consistent r ≡ a → (small n && small time.0) ≡ b → (n ≤ limit) × (consistent r ≡ true)
    go true true p q = (leb-true n limit (both (small n) (small time.0) q).0, p)
    go true false p q = let h : k ≡ 5 = e ∙ rw (p, q) in absurd (omega arith)
    go false b p q = let h : k ≡ 1 = e ∙ rw p in absurd (omega arith)

pub returns-in-Err : goal.returns-in-Err
unfolding packet_call
returns-in-Err c = ap (answer_over _) c.refused.ensures ∙ rw (← c.in-Err.ensures) (refused _ _ _ (some-number _))

pub with-requires : goal.with-requires
with-requires c = passed _ _ _ c.in-Ok.ensures refl

pub returns-in-Ok : goal.returns-in-Ok
unfolding packet_call
returns-in-Ok c =
    ap (λ (x : Receiver). record { result = 0; next = x }) c.with.ensures
    ∙ rw (← c.in-Ok.ensures) (accepted 0 (record_over c.args.words.now c.args.self) _ refl)
