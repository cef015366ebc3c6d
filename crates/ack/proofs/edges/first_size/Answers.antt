-- `ack::edges::first_size` meets its contract: the run of all marks, cut off at `least`. Assumes nothing.
use Prim.Native.Nat.{ℕ, ◌-◌, max}
use mathlib.Core.Path.{sym, ap, ◌∙◌}
use mathlib.Core.Bool.{true}
use native.Mathlib.Omega.{arith}
use Rattle.window.specs.Window.{lent_value}
use Rattle.window.proofs.Runs.{run-le}
use Rattle.ack.proofs.Least.{run-cut}
use Rattle.ack.proofs.edges.first_size.Goals as goal

pub overflow_sub-run : goal.overflow_sub-run
overflow_sub-run c = omega (arith, c.first_run-run.ensures, run-le true 1024 (lent_value c.args.words.now))

pub overflow_sub-result : goal.overflow_sub-result
overflow_sub-result c = omega (arith, c.larger_of-low.ensures, c.requires)

pub returns : goal.returns
returns c =
    ap (λ (m : ℕ). 1024 - m) (c.larger_of-low.ensures ∙ ap (λ (m : ℕ). max (1024 - m) c.args.least) c.first_run-run.ensures)
    ∙ sym (run-cut c.args.least (lent_value c.args.words.now) 1024 c.requires)
