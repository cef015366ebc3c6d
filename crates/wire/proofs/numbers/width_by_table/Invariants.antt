-- `wire::width_by_table` meets its contract. The loop's invariant: the first code from k that holds v is the first of all.
-- Assumes nothing.
use Prim.Native.Nat.{◌-◌}
use mathlib.Core.Path.{◌≡◌}
use Rattle.wire.specs.Numbers.{first_from, code_of}
use Rattle.wire.proofs.numbers.width_by_table.Given as goal

abbrev pub invariant-loop-code : goal.invariant-loop-code
invariant-loop-code l = first_from (4 - l.code) l.code l.v ≡ code_of l.v
