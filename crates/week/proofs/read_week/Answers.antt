-- `week::read_week` meets its contract: the program stands where the definitions stand after the same reads.
use Rattle.std.proofs.Common.{ℕ, ◌≡◌, refl, sym, ◌∙◌, arith, Bool, true, false}
use Rattle.week.proofs.Turning.{reached-start, reached-more, has-read}
use Rattle.week.proofs.read_week.Goals as goal

pub loop-turns-init : goal.loop-turns-init
loop-turns-init g c = reached-start _ _ c.start.ensures refl refl refl

pub loop-turns-preserved : goal.loop-turns-preserved
loop-turns-preserved g c = reached-more c.loop-turns.invariant (sym c.goes_on.ensures ∙ c.if-goes_on.true) (omega (arith, c.loop-turns-test.true)) c.turn-place.ensures

pub returns-else-goes_on : goal.returns-else-goes_on
returns-else-goes_on g c =
    has-read c.loop-turns.invariant (λ m. let z : ◌≡◌ {A = Bool} true false = sym m ∙ sym c.goes_on.ensures ∙ c.if-goes_on.false in let n : ◌≡◌ {A = ℕ} 0 1 = cc in absurd (omega arith))

pub returns-after-loop-turns : goal.returns-after-loop-turns
returns-after-loop-turns g c = has-read c.loop-turns.invariant (λ m. omega (arith, c.loop-turns-test.false))
