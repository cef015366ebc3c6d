-- Why a logged call has no line: the rows, in their order; the first that applies is given, and nothing else.
use Rattle.std.specs.Prelude.{ℕ, ◌≡◌, Bool, true, false, not, ◌&&◌, List, [], ◌∷◌}
use Rattle.seen.specs.declared.Micros.{Micros}
use Rattle.receiver.specs.declared.Receiver.{Receiver}
use Rattle.receiver.specs.Record.{consistent}
use Rattle.receiver.specs.Exactly.{Row, row, first}
use Rattle.call_log.specs.declared.Call.{Call}
use Rattle.call_log.specs.declared.Call.TheVariants.{Open, Packet, Timer, Threshold, Immediate, Confirm, Write}
use Rattle.call_log.specs.Calls.{step}
use Rattle.call_log.specs.Logged.{is_one, has_room, without_line}

-- an opening takes no record
unfoldable pub takes_record : Call → Bool
takes_record (Open threshold reordering maximum minimum) = false
takes_record (Packet packet eliciting mark) = true
takes_record Timer = true
takes_record (Threshold sequence threshold delay reordering) = true
takes_record Immediate = true
takes_record (Confirm largest) = true
takes_record (Write kind room) = true

-- 1 for a record that is not consistent, then 9 where frame or line have no room
abbrev pub rows : Receiver → Micros → Call → ℕ → ℕ → List Row
rows r time call frame line = row 1 (takes_record call && not (consistent r)) ∷ row 9 (not (has_room r time call frame line)) ∷ []

pub record Exactly : Type 0 where
  pub answer : (r : Receiver) (time : Micros) (call : Call) (frame line : ℕ) → without_line r time call frame line ≡ first (rows r time call frame line)
  -- whatever the call: it is answered 1 exactly where it takes a record that is not consistent
  pub one : (r : Receiver) (time : Micros) (call : Call) → is_one (step r time call).verdict ≡ (takes_record call && not (consistent r))
