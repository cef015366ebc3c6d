-- Cases that tell what the promises say from a reading that is near to it and wrong. What else is told apart by a case stands in Reached and NoLossCases.
use Rattle.std.specs.Prelude.{ℕ, ◌≡◌, true, false, List, [], ◌∷◌, Some}
use Rattle.receiver.specs.declared.Receiver.{Receiver}
use Rattle.receiver.specs.Record.{consistent}
use Rattle.receiver.specs.Packet.{order}
use Rattle.receiver.specs.Calls.{with_cause}
use Rattle.promises.specs.Sequence.{Call, immediate, threshold, Calls, none, ◌then◌, in_order, step, after}
use Rattle.promises.specs.Accepted.{packets}
use Rattle.promises.specs.Told.{floor_in}
use Rattle.promises.specs.Counted.{S, T, W}
use Rattle.promises.specs.Bound.{only_due, bound}
use Rattle.promises.specs.Order.{smallest_missing}
use Rattle.promises.specs.Reached.{opened_with, accepted_from, arrives, writes}

-- a record with cause 6, which no call leaves
abbrev pub odd : Receiver
odd = with_cause (opened_with 1 1) 6

-- number 0, and a write while nothing is due
abbrev pub early : List Call
early = arrives 0 ∷ writes ∷ []

-- T becomes 1, then 4
abbrev pub raised_t : List Call
raised_t = threshold 0 1 (record { 0 = 25000 }) 0 ∷ threshold 1 4 (record { 0 = 25000 }) 0 ∷ []

-- 0, then 1,025: number 1 is the first below the window
abbrev pub far : Calls
far = accepted_from 9 0 (arrives 0 ∷ arrives 1025 ∷ [])

-- R 3, and 0 has come; then 4 comes
abbrev pub old : Receiver
old = after (opened_with 9 3) (none then arrives 0)

abbrev pub new : Receiver
new = after (opened_with 9 3) (none then arrives 0 then arrives 4)

pub record Readings : Type 0 where
  -- Kept speaks of consistent records: another one is refused, and handed back as it came
  pub not_consistent : (consistent odd ≡ false) × (consistent (step odd immediate).next ≡ false)
  -- "if acknowledgments are written only while one is due": else one is written where the bound is 0
  pub not_due : (only_due (opened_with 9 0) (in_order none early) ≡ false) × ((W (accepted_from 9 0 early) ≡ 1) × (bound 9 (accepted_from 9 0 early) ≡ 0))
  -- "T is the smallest ack-eliciting threshold ever in force", and not the last
  pub smallest_first : T 9 (accepted_from 9 0 raised_t) ≡ 1
  -- "in the window or below it": of 1 to 1,024 also number 1 is passed over
  pub below_the_window : S far ≡ 1024
  -- "missing numbers are sought only in the window": from 1 up the first is 2
  pub from_the_floor : smallest_missing (floor_in far) (packets far) 1 1025 ≡ Some 2
  -- U - m >= R asked of H is asked of the H that this packet leaves: of the one before it, nothing is missing
  pub later_highest : (order new.seen 3 4 old.highest old.acknowledged new.highest ≡ true) × (order new.seen 3 4 old.highest old.acknowledged old.highest ≡ false)
