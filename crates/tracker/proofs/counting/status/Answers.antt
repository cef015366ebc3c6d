-- `tracker::counting::status` meets its contract: its tests are the definition's, in its order.
-- Assumes nothing.
use Prim.Native.Nat.{◌+◌}
use mathlib.Core.Path.{sym, ◌∙◌}
use borrow.Author.Tests.{eq-eqb, ne_eqb, lt-ltb, le-ltb}
use Rattle.tracker.specs.Record.{state_of, received, late, ended_early}
use Rattle.tracker.proofs.Fates.{status-tests}
use Rattle.tracker.proofs.counting.status.Goals as goal

pub returns-then-known-eq-RECEIVED : goal.returns-then-known-eq-RECEIVED
returns-then-known-eq-RECEIVED c = rw (status-tests, eq-eqb (state_of c.args.word) received (sym c.state-known.ensures ∙ c.if-known-eq-RECEIVED.true))

pub returns-then-known-eq-LATE : goal.returns-then-known-eq-LATE
returns-then-known-eq-LATE c = rw (status-tests, ne_eqb (state_of c.args.word) received (λ e. c.if-known-eq-RECEIVED.false (c.state-known.ensures ∙ e)), eq-eqb (state_of c.args.word) late (sym c.state-known.ensures ∙ c.if-known-eq-LATE.true))

pub returns-then-known-eq-ENDED_EARLY : goal.returns-then-known-eq-ENDED_EARLY
returns-then-known-eq-ENDED_EARLY c = rw (status-tests, ne_eqb (state_of c.args.word) received (λ e. c.if-known-eq-RECEIVED.false (c.state-known.ensures ∙ e)), ne_eqb (state_of c.args.word) late (λ e. c.if-known-eq-LATE.false (c.state-known.ensures ∙ e)), eq-eqb (state_of c.args.word) ended_early (sym c.state-known.ensures ∙ c.if-known-eq-ENDED_EARLY.true))

pub returns-then-place-end : goal.returns-then-place-end
returns-then-place-end c = rw (status-tests, ne_eqb (state_of c.args.word) received (λ e. c.if-known-eq-RECEIVED.false (c.state-known.ensures ∙ e)), ne_eqb (state_of c.args.word) late (λ e. c.if-known-eq-LATE.false (c.state-known.ensures ∙ e)), ne_eqb (state_of c.args.word) ended_early (λ e. c.if-known-eq-ENDED_EARLY.false (c.state-known.ensures ∙ e)), lt-ltb (c.args.place + 1) c.args.end c.if-place-end.true)

pub returns : goal.returns
returns c = rw (status-tests, ne_eqb (state_of c.args.word) received (λ e. c.if-known-eq-RECEIVED.false (c.state-known.ensures ∙ e)), ne_eqb (state_of c.args.word) late (λ e. c.if-known-eq-LATE.false (c.state-known.ensures ∙ e)), ne_eqb (state_of c.args.word) ended_early (λ e. c.if-known-eq-ENDED_EARLY.false (c.state-known.ensures ∙ e)), le-ltb (c.args.place + 1) c.args.end c.if-place-end.false)
