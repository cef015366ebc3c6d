-- How an answer follows from its refusal number, and a cause from the one that stood.
-- Assumes nothing.
use Prim.Native.Nat.{ℕ, zero, suc}
use native.Mathlib.Omega.{arith}
use mathlib.Core.Path.{◌≡◌, refl}
use Rattle.receiver.specs.declared.Receiver.{Receiver}
use Rattle.std.specs.Prelude.{Result, Ok, Err}
use Rattle.std.specs.Result.{is_ok}
use Rattle.wire.specs.Refusals.{number_of, refusal_number}
use Rattle.wire.specs.declared.Refusal.{Refusal}
use Rattle.ack.proofs.Refusals.{some-number}
use Rattle.wire.specs.Bytes.{pick}
use Rattle.receiver.specs.Packet.{standing, handed_back}
use Rattle.receiver.specs.Calls.{with_cause}

-- a standing cause stays
pub stays : (cause new : ℕ) → (cause ≡ 0 → ⊥) → cause ≡ standing cause new
stays zero new f = absurd (f refl)
stays (suc k) new f = refl

-- where none stands the new one is set
pub sets : (cause new : ℕ) → cause ≡ 0 → new ≡ standing cause new
sets zero new e = refl
sets (suc k) new e = let z : ◌≡◌ {A = ℕ} 0 1 = cc in absurd (omega arith)

-- no new cause leaves the old one
pub same : (cause : ℕ) → cause ≡ standing cause 0
same zero = refl
same (suc k) = refl

-- a refusal hands the record back
pub refused : (k : ℕ) (old new : Receiver) → (k ≡ 0 → ⊥) → record { result = k; next = old } ≡ handed_back k old new
refused zero old new f = absurd (f refl)
refused (suc k) old new f = refl

pub accepted : (k : ℕ) (old new : Receiver) → k ≡ 0 → record { result = 0; next = new } ≡ handed_back k old new
accepted k old new e = rw e

-- where the cause alone may change, a refusal leaves it
pub looked : {A : Type 0} (a : Result A Refusal) (r : Receiver) (new : ℕ)
    → record { result = refusal_number a; next = with_cause r (pick (is_ok a) (standing r.cause new) r.cause) } ≡ handed_back (refusal_number a) r (with_cause r (standing r.cause new))
looked (Ok x) r new = refl
looked (Err n) r new = refused (number_of n) r _ (some-number n)
