-- `tracker::counting::loss_end` meets its contract: its test is the definition's, and each step its part.
-- Assumes nothing.
use Prim.Native.Nat.{◌+◌, ◌-◌, max}
use mathlib.Core.Path.{ap, ◌∙◌}
use borrow.Author.Tests.{eq-eqb, ne_eqb}
use Rattle.tracker.specs.Record.{interval_of, named_of}
use Rattle.tracker.specs.Counting.{reach_of, loss_end}
use Rattle.tracker.proofs.counting.loss_end.Goals as goal

pub returns-then-named-eq0 : goal.returns-then-named-eq0
unfolding loss_end
returns-then-named-eq0 c = rw (eq-eqb (named_of c.args.tracker.now) 0 c.if-named-eq0.true)

pub returns : goal.returns
unfolding loss_end
returns c =
    let r = c.args.tracker.now in
    rw (ne_eqb (named_of r) 0 c.if-named-eq0.false) (c.max.ensures ∙ ap (max c.args.top) (ap (◌+◌ (named_of r - 1)) (c.reach.ensures.0 ∙ ap (reach_of (interval_of r)) c.saturating_sub.ensures)))
