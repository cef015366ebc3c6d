-- `pieces::calls::whole_at` meets its contract, by its stage.
-- Assumes nothing.
use native.Mathlib.Omega.{arith}
use mathlib.Core.Path.{refl, sym}
use lib.ListN.{take}
use Rattle.pieces.specs.Record.{numbers_in, state_as}
use Rattle.pieces.proofs.Stages.{whole-other, whole-counting}
use Rattle.pieces.proofs.calls.whole_at.Goals as goal

pub returns-in-2 : goal.returns-in-2
unfolding state_as
returns-in-2 c = λ w. rw (c.in-2.is, c.if-s-eq0.true) refl

pub returns-in-0 : goal.returns-in-0
unfolding state_as
returns-in-0 c = λ w. rw c.in-0.is refl

pub returns-in-3 : goal.returns-in-3
unfolding state_as
returns-in-3 c = λ w. rw c.in-3.is refl

pub returns-in_default : goal.returns-in_default
unfolding state_as
returns-in_default c =
    let s = c.args.s in
    λ w. rw c.in-2.is (sym (whole-counting (take s.count (numbers_in w)) s.left c.if-s-eq0.false))

pub returns-in_default-2 : goal.returns-in_default-2
returns-in_default-2 c = λ w. sym (whole-other _ _ _ _ _ _ (λ z. omega arith) (λ z. omega arith) (λ z. omega arith))
