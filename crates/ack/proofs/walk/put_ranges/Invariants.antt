-- `ack::walk::put_ranges` meets its contract. The loop's invariant: the ranges stored so far fit, and with those still to come they give the whole.
-- Assumes nothing.
use Prim.Native.Nat.{◌<◌}
use mathlib.Core.Bool.{false}
use Rattle.window.specs.Window.{lent_value}
use Rattle.ack.specs.Walk.{marks_from, Others}
use Rattle.ack.proofs.Walking.{Walking}
use Rattle.ack.proofs.walk.put_ranges.Given as goal

abbrev pub invariant-loop-place : goal.invariant-loop-place
invariant-loop-place l =
    Walking (marks_from l.words l.told.end l.told.least) l.told.delay l.told.room l.most l.from l.initial.buf l.buf l.at l.place l.count × (l.told.least < l.place → Others false (lent_value l.words) l.place l.index l.left)

abbrev pub decreases-loop-place : goal.decreases-loop-place
decreases-loop-place l = l.place
