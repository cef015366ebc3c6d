-- `sent::hearing::changed` meets its contract. The loop's invariant: the words up to here are made.
-- Assumes nothing.
use native.Mathlib.Omega.{arith}
use Rattle.sent.proofs.Words.{changing-none, changing-more}
use Rattle.sent.proofs.hearing.changed.Goals as goal

pub loop-i-init : goal.loop-i-init
loop-i-init c = changing-none _ _ _

pub loop-i-preserved : goal.loop-i-preserved
loop-i-preserved c =
    let s = c.args in
    changing-more s.losses.now s.frame.now s.due.now c.loop-i.words c.loop-i.i _ _ _ (omega arith) c.either-acked.ensures c.either.ensures c.without.ensures c.loop-i.invariant
