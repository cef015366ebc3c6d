-- `pieces::fields::take_numbers` meets its contract. The loop's invariant: the bytes taken so far lead to the numbers that were read.
-- Assumes nothing.
use mathlib.Core.Path.{◌≡◌}
use Prim.Native.Nat.{◌-◌}
use mathlib.Core.List.{◌++◌}
use lib.ListN.{length, take, drop}
use Rattle.wire.specs.Numbers.{read_number}
use Rattle.uncut.specs.State.{Numbers}
use Rattle.pieces.specs.Record.{numbers_in, held_in}
use Rattle.pieces.specs.Reading.{shifted}
use Rattle.pieces.proofs.Numbering.{Numbering}
use Rattle.pieces.proofs.fields.take_numbers.Given as goal

abbrev pub invariant-loop-at : goal.invariant-loop-at
invariant-loop-at l = (Numbering l.profile (Numbers (take l.initial.count (numbers_in l.initial.state)) (take l.initial.carried (held_in l.initial.state))) l.part (held_in l.initial.state) l.at l.count (numbers_in l.state) l.carried) × ((held_in l.state ≡ held_in l.initial.state) × (l.field ≡ shifted l.carried l.at (read_number (take l.carried (held_in l.initial.state) ++ drop l.at l.part) 0)))

abbrev pub decreases-loop-at : goal.decreases-loop-at
decreases-loop-at l = length l.part - l.at
