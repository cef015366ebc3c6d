-- `pieces::fitness::counted_fit` meets its contract: its tests are the definition's, and its product is small.
-- Assumes nothing.
use mathlib.Core.Path.{sym, ◌∙◌}
use native.Mathlib.Omega.{arith}
use Prim.Native.Nat.{◌-◌}
use Rattle.pieces.proofs.Parts.{count_fits, counted-part, counted_none, counted-last, bytes-few}
use Rattle.pieces.proofs.fitness.counted_fit.Goals as goal

pub returns-then-not-is_whole : goal.returns-then-not-is_whole
returns-then-not-is_whole c =
    let a = c.args in
    counted-part a.profile a.numbers.now a.left (sym c.is_whole.ensures ∙ c.if-not-is_whole.true)

pub returns-then-count-eq0 : goal.returns-then-count-eq0
returns-then-count-eq0 c =
    let a = c.args in
    counted_none a.profile a.numbers.now (sym c.is_whole.ensures ∙ c.if-not-is_whole.false) _ c.last_of-count.ensures a.left c.if-count-eq0.true

pub overflow_mul-result : goal.overflow_mul-result
overflow_mul-result c =
    let a = c.args in
    let f = count_fits a.profile a.numbers.now c.requires (sym c.is_whole.ensures ∙ c.if-not-is_whole.false) in
    let k = c.last_of-count in
    rw c.record_size.ensures (record { fits = omega (arith, bytes-few a.profile (k.result - 1) (omega (arith, f, k.ensures))) })

pub returns : goal.returns
returns c =
    let a = c.args in
    counted-last a.profile a.numbers.now (sym c.is_whole.ensures ∙ c.if-not-is_whole.false) _ c.last_of-count.ensures a.left c.if-count-eq0.false _ c.record_size.ensures
