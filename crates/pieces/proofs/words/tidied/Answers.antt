-- `pieces::words::tidied` meets its contract, by its stage.
-- Assumes nothing.
use native.Mathlib.Omega.{arith}
use mathlib.Core.Path.{refl, sym, ap}
use borrow.Author.Rules.{rules}
use Rattle.pieces.specs.Record.{state_as, body_of}
use Rattle.pieces.proofs.Stages.{at-accepted}
use Rattle.pieces.proofs.words.tidied.Goals as goal

pub returns-in-0 : goal.returns-in-0
unfolding state_as body_of
returns-in-0 c = (λ w. rw c.in-0.is refl, (search rules, search rules))

pub returns-in-1 : goal.returns-in-1
unfolding state_as body_of
returns-in-1 c = (λ w. rw c.in-1.is refl, (search rules, search rules))

pub returns-in-2 : goal.returns-in-2
unfolding state_as body_of
returns-in-2 c = (λ w. rw c.in-2.is refl, (search rules, search rules))

pub returns-in-3 : goal.returns-in-3
unfolding state_as body_of
returns-in-3 c = (λ w. rw c.in-3.is refl, (search rules, search rules))

pub returns-in_default : goal.returns-in_default
unfolding body_of
returns-in_default c = (λ w. sym (ap body_of (at-accepted _ _ _ _ _ _ (λ z. omega arith) (λ z. omega arith) (λ z. omega arith) (λ z. omega arith))), (search rules, search rules))
