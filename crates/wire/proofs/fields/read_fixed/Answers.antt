-- `wire::fields::read_fixed` meets its contract: the tests at each `return` say which case of `read_fixed` holds.
-- Assumes nothing.
use native.Mathlib.Omega.{arith}
use Rattle.wire.proofs.Reading.{fixed-ends, fixed-value}
use Rattle.wire.proofs.fields.read_fixed.Goals as goal
use Rattle.wire.proofs.fields.read_fixed.Goals.{then-s-at-via-then-s-at, then-s-at-via-else-s-at+then-s-at-2}

pub returns-then-s-at : goal.returns-then-s-at
returns-then-s-at c =
    fixed-ends c.args.len c.args.s.now c.args.at
    (elim c.then-s-at.branch [ then-s-at-via-then-s-at w ↦ omega arith | then-s-at-via-else-s-at+then-s-at-2 w ↦ omega arith ])

pub returns : goal.returns
returns c = fixed-value _ _ _ _ (omega arith) c.join-value.ensures
