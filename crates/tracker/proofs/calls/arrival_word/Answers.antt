-- `tracker::calls::arrival_word` meets its contract: its tests are the definition's.
-- Assumes nothing.
use Prim.Native.Nat.{◌-◌}
use borrow.Author.Tests.{eq-eqb, ne_eqb, lt-ltb, le-ltb}
use Rattle.tracker.proofs.calls.arrival_word.Goals as goal

pub returns-then-deadline-eq0 : goal.returns-then-deadline-eq0
returns-then-deadline-eq0 c = rw (eq-eqb c.args.deadline 0 c.if-deadline-eq0.true)

pub returns-then-deadline-time : goal.returns-then-deadline-time
returns-then-deadline-time c =
    let a = c.args in
    rw (ne_eqb a.deadline 0 c.if-deadline-eq0.false, lt-ltb (a.deadline - 1) a.time c.if-deadline-time.true)

pub returns : goal.returns
returns c =
    let a = c.args in
    rw (ne_eqb a.deadline 0 c.if-deadline-eq0.false, le-ltb (a.deadline - 1) a.time c.if-deadline-time.false)
