-- Floor: "The floor never falls" (02, No. 12), whatever calls come.
use Rattle.std.specs.Prelude.{◌≤◌, List}
use Rattle.receiver.specs.declared.Receiver.{Receiver}
use Rattle.seen.specs.Received.{floor}
use Rattle.promises.specs.Sequence.{Call, Calls, step, in_order, after}

pub record NeverFalls : Type 0 where
  -- no call on any record, accepted or not, lowers the record's own floor, nor the floor in use
  pub own : (r : Receiver) (c : Call) → r.seen.confirmed ≤ (step r c).next.seen.confirmed
  pub used : (r : Receiver) (c : Call) → floor r.seen ≤ floor (step r c).next.seen
  -- so along all calls: after cs and then any calls l neither is below what it was after cs
  pub own-along : (r : Receiver) (cs : Calls) (l : List Call) → (after r cs).seen.confirmed ≤ (after r (in_order cs l)).seen.confirmed
  pub used-along : (r : Receiver) (cs : Calls) (l : List Call) → floor (after r cs).seen ≤ floor (after r (in_order cs l)).seen
