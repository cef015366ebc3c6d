-- Unchanged: a refused or stale call changes nothing, then and later.
use Rattle.std.specs.Prelude.{◌≡◌, List}
use Rattle.receiver.specs.declared.Receiver.{Receiver}
use Rattle.promises.specs.Sequence.{Call, Calls, accepted, ◌then◌, step, in_order, after, replied}
use Rattle.promises.specs.Accepted.{accepted_of}

pub record Unchanged : Type 0 where
  -- "A refusal returns its number and the record as it came in"; of a stale frame "nothing changes"
  pub call : (r : Receiver) (c : Call) → ((step r c).reply ≡ accepted → ⊥) → (step r c).next ≡ r
  -- after any calls cs a call c that is not accepted there may be left out: whatever calls l come after it, the record is the same
  pub later : (r : Receiver) (cs : Calls) (c : Call) (l : List Call) → (replied r cs c ≡ accepted → ⊥) → after r (in_order (cs then c) l) ≡ after r (in_order cs l)
  -- and so is the reply to each call d that comes then
  pub replies : (r : Receiver) (cs : Calls) (c : Call) (l : List Call) (d : Call) → (replied r cs c ≡ accepted → ⊥) → replied r (in_order (cs then c) l) d ≡ replied r (in_order cs l) d
  -- the accepted calls alone, all others left out, lead to the same record
  pub alone : (r : Receiver) (cs : Calls) → after r (accepted_of r cs) ≡ after r cs
