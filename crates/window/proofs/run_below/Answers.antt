-- `run_below` meets its contract: the places from 1,024 on are not marked. Assumes nothing.
use mathlib.Core.Path.{sym, ap, ◌∙◌}
use mathlib.Core.Bool.{Bool, false}
use Prim.Native.Nat.{ℕ, ◌+◌, ◌-◌}
use native.Mathlib.Omega.{arith}
use Rattle.window.specs.Window.{lent_value, run_below}
use Rattle.window.proofs.Sixteen.{lent}
use Rattle.window.proofs.Runs.{run-le, run-past-marked, run-past-not}
use Rattle.window.proofs.run_below.Goals as goal

pub returns-then-marked : goal.returns-then-marked
returns-then-marked c =
    let s = c in
    sym (ap (λ (b : Bool). run_below b s.args.n (lent_value s.args.words.now)) c.if-marked.true ∙ run-past-marked _ (lent s.args.words.now) s.args.n c.if-n-le-PLACES.false)

pub overflow_add-result : goal.overflow_add-result
overflow_add-result c =
    let s = c in omega (arith, c.run_within-2.ensures, run-le false 1024 (lent_value s.args.words.now))

pub returns : goal.returns
returns c =
    let s = c in
    ap (λ (r : ℕ). s.args.n - 1024 + r) c.run_within-2.ensures
    ∙ sym (ap (λ (b : Bool). run_below b s.args.n (lent_value s.args.words.now)) c.if-marked.false ∙ run-past-not _ (lent s.args.words.now) s.args.n c.if-n-le-PLACES.false)
