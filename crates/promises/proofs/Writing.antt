-- A write in a list of calls answers and leaves what the write call does: of the frame neither result nor record tells anything.
-- Assumes nothing.
use Prim.Native.Nat.{ℕ, zero, suc}
use mathlib.Core.Path.{◌≡◌, refl}
use mathlib.Core.List.{List, []}
use lib.ListN.{length}
use Rattle.receiver.specs.declared.Receiver.{Receiver}
use Rattle.receiver.specs.Write.{write_refusal, answered, write_answer, emitted}
use Rattle.promises.specs.Sequence.{Outcome, reply_of, step, WriteIsStep}

alike : (refusal : ℕ) (r : Receiver) (bytes : List ℕ)
    → ◌≡◌ {A = Outcome} (record { reply = reply_of (answered refusal r []).result; next = (answered refusal r []).next })
    (record { reply = reply_of (answered refusal r bytes).result; next = (answered refusal r bytes).next })
alike zero r bytes = refl
alike (suc refusal) r bytes = refl

pub write-is-step : WriteIsStep
unfolding step write_answer
write-is-step r time kind xs = alike (write_refusal r time kind (length xs)) r (emitted r time kind (length xs))
