-- `sent::calls::send` meets its contract: the refusal, or five stores.
-- Assumes nothing.
use mathlib.Core.Path.{sym, ap, ◌∙◌}
use native.Mathlib.Omega.{arith}
use Rattle.wire.specs.Refusals.{refusal_number}
use Rattle.sent.proofs.Sends.{accepted-small, accepted}
use Rattle.sent.proofs.calls.send.Goals as goal

pub overflow_add-losses-2 : goal.overflow_add-losses-2
overflow_add-losses-2 c =
    let s = accepted-small _ (sym c.check_send.ensures ∙ ap refusal_number c.in_default.is) in
    omega (arith, s.0, s.1)

pub overflow_add-losses-3 : goal.overflow_add-losses-3
overflow_add-losses-3 c =
    let s = accepted-small _ (sym c.check_send.ensures ∙ ap refusal_number c.in_default.is) in
    omega (arith, s.0, s.1)

pub overflow_add-losses-4 : goal.overflow_add-losses-4
overflow_add-losses-4 c =
    let s = accepted-small _ (sym c.check_send.ensures ∙ ap refusal_number c.in_default.is) in
    omega (arith, s.0, s.1)

pub returns : goal.returns
returns c =
    accepted _ _ _ _ c.check_send.ensures (ap refusal_number c.in_default.is) c.cleared.ensures c.cleared-2.ensures
