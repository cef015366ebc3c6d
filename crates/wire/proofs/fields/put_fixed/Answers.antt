-- `wire::fields::put_fixed` meets its contract: the room is judged, and the part that `fill` was lent goes back in its place.
-- Assumes nothing.
use native.Mathlib.Omega.{arith}
use Rattle.wire.proofs.Writing.{fixed_no, fixed-yes}
use Rattle.wire.proofs.fields.put_fixed.Goals as goal
use Rattle.wire.proofs.fields.put_fixed.Goals.{then-buf-at-via-then-buf-at, then-buf-at-via-else-buf-at+then-buf-at-2}

pub returns-then-buf-at : goal.returns-then-buf-at
returns-then-buf-at c =
    fixed_no c.args.buf.now c.args.at c.args.len c.args.v
    (elim c.then-buf-at.branch [ then-buf-at-via-then-buf-at w ↦ omega arith | then-buf-at-via-else-buf-at+then-buf-at-2 w ↦ omega arith ])

pub returns : goal.returns
returns c = fixed-yes _ _ _ _ _ (omega arith) c.fill.ensures
