-- A host can tell the threshold call's verdicts apart: its number is 255 only for a stale frame, and 0 only for an accepted one.
-- Assumes nothing.
use Prim.Native.Nat.{ℕ}
use mathlib.Core.Path.{◌≡◌, refl}
use mathlib.Core.Bool.{Bool, true, false, ◌&&◌}
use native.Mathlib.Omega.{arith}
use lib.Dec.{ltb}
use Rattle.wire.specs.Bytes.{pick}
use Rattle.seen.specs.declared.Micros.{Micros}
use Rattle.receiver.specs.declared.Receiver.{Receiver}
use Rattle.receiver.specs.declared.Verdict.{Verdict}
use Rattle.receiver.specs.declared.Verdict.TheVariants.{Accepted, Stale, Refused}
use Rattle.seen.specs.Numbers.{small}
use Rattle.receiver.specs.Record.{delay_rule, consistent}
use Rattle.receiver.specs.Calls.{threshold_verdict}
use Rattle.host.specs.Calls.{stale_number, verdict_out}

-- the verdict by its four tests
abbrev by_tests : Bool → Bool → Bool → Bool → Verdict
by_tests known small allowed old = pick known (pick small (pick allowed (pick old Stale Accepted) (Refused 4)) (Refused 5)) (Refused 1)

stale-by : (a b c d : Bool) → verdict_out (by_tests a b c d) ≡ stale_number → by_tests a b c d ≡ Stale
stale-by true true true true h = refl
stale-by true true true false h = absurd (omega arith)
stale-by true true false d h = absurd (omega arith)
stale-by true false c d h = absurd (omega arith)
stale-by false b c d h = absurd (omega arith)

accepted-by : (a b c d : Bool) → verdict_out (by_tests a b c d) ≡ 0 → by_tests a b c d ≡ Accepted
accepted-by true true true true h = absurd (omega arith)
accepted-by true true true false h = refl
accepted-by true true false d h = absurd (omega arith)
accepted-by true false c d h = absurd (omega arith)
accepted-by false b c d h = absurd (omega arith)

module _ (r : Receiver) (sequence threshold : ℕ) (delay : Micros) (reordering : ℕ) where
  pub stale-only : verdict_out (threshold_verdict r sequence threshold delay reordering) ≡ stale_number → threshold_verdict r sequence threshold delay reordering ≡ Stale
  unfolding threshold_verdict
  stale-only = stale-by (consistent r) (small sequence && (small threshold && (small delay.0 && small reordering))) (delay_rule r.limits delay) (ltb sequence r.agreed.sequence)

  pub accepted-only : verdict_out (threshold_verdict r sequence threshold delay reordering) ≡ 0 → threshold_verdict r sequence threshold delay reordering ≡ Accepted
  unfolding threshold_verdict
  accepted-only = accepted-by (consistent r) (small sequence && (small threshold && (small delay.0 && small reordering))) (delay_rule r.limits delay) (ltb sequence r.agreed.sequence)
