-- `receiver::causes::gap_reached` meets its contract: places stand for numbers, and the comparison adds where the rule subtracts.
-- Assumes nothing.
use Prim.Native.Nat.{ℕ, ◌-◌}
use mathlib.Core.Path.{sym, ap, ◌∙◌}
use native.Mathlib.Omega.{arith}
use Rattle.seen.specs.Received.{over, first_missing}
use Rattle.seen.proofs.Missing.{place-below}
use Rattle.receiver.proofs.Missing.{gap_at, gap-none}
use Rattle.receiver.proofs.causes.gap_reached.Goals as goal

pub overflow_add-result : goal.overflow_add-result
overflow_add-result c =
    let a = c.args in
    omega (arith, place-below (over a.words.now a.seen) _ _ _ (sym c.first_missing_in.ensures ∙ c.in-Some.is), c.requires.0, c.requires.1)

pub overflow_add-result-in-Some : goal.overflow_add-result-in-Some
overflow_add-result-in-Some c =
    let a = c.args in
    omega (arith, place-below (over a.words.now a.seen) _ _ _ (sym c.first_missing_in.ensures ∙ c.in-Some.is), c.requires.0, c.requires.1)

pub returns-in-Some : goal.returns-in-Some
returns-in-Some c =
    let a = c.args in
    gap_at (over a.words.now a.seen) a.reach a.acknowledged a.end _ c.requires.1.some
    (sym c.in-Some.is ∙ c.first_missing_in.ensures ∙ ap (λ (k : ℕ). first_missing (over a.words.now a.seen) k (a.end - 1)) c.minus_or_zero-from.ensures)

pub returns-in-None : goal.returns-in-None
returns-in-None c =
    let a = c.args in
    gap-none (over a.words.now a.seen) a.reach a.acknowledged a.end
    (sym c.in-None.is ∙ c.first_missing_in.ensures ∙ ap (λ (k : ℕ). first_missing (over a.words.now a.seen) k (a.end - 1)) c.minus_or_zero-from.ensures)
