-- `pieces::calls::ended` meets its contract, by its stage.
-- Assumes nothing.
use native.Mathlib.Omega.{arith}
use mathlib.Core.Path.{refl, sym, ap}
use lib.ListN.{take}
use Rattle.uncut.specs.State.{at_end}
use Rattle.pieces.specs.Record.{numbers_in, held_in, state_as}
use Rattle.pieces.proofs.Stages.{at-accepted, end-counting, end-records}
use Rattle.pieces.proofs.calls.ended.Goals as goal

pub returns-then-left-eq0 : goal.returns-then-left-eq0
unfolding state_as at_end
returns-then-left-eq0 c = (λ w. rw (c.in-1.is, c.if-left-eq0.true) refl, (refl, refl))

pub returns-else-left-eq0 : goal.returns-else-left-eq0
unfolding state_as
returns-else-left-eq0 c = (λ w. rw (c.in-1.is, c.number.ensures) (sym (end-records _ _ _ _ _ c.if-left-eq0.false)), (refl, refl))

pub returns-then-left-eq0-2 : goal.returns-then-left-eq0-2
unfolding state_as at_end
returns-then-left-eq0-2 c = (λ w. rw (c.in-2.is, c.if-left-eq0-2.true, c.number-then-left-eq0-2.ensures) refl, (refl, refl))

pub returns-else-left-eq0-2 : goal.returns-else-left-eq0-2
unfolding state_as
returns-else-left-eq0-2 c = (λ w. rw (c.in-2.is, c.number.ensures) (sym (end-counting _ _ c.if-left-eq0-2.false)), (refl, refl))

pub returns-in-0 : goal.returns-in-0
unfolding state_as at_end
returns-in-0 c = (λ w. rw (c.in-0.is, c.number.ensures) refl, (refl, refl))

pub returns-in-3 : goal.returns-in-3
unfolding state_as at_end
returns-in-3 c = (λ w. rw c.in-3.is refl, (refl, refl))

pub returns-in_default : goal.returns-in_default
unfolding state_as at_end
returns-in_default c =
    let s = c.args.s in
    (λ w. sym (ap at_end (at-accepted s.stage s.left s.last s.above (take s.count (numbers_in w)) (take s.carried (held_in w)) (λ z. omega arith) (λ z. omega arith) (λ z. omega arith) (λ z. omega arith))), (refl, refl))
