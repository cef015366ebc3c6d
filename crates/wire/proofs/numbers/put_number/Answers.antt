-- `wire::numbers::put_number` meets its contract: the arm taken is the code of the shortest form, or none holds the number.
-- Assumes nothing.
use mathlib.Core.Path.{sym, ◌∙◌}
use native.Mathlib.Omega.{arith}
use lib.Dec.{lit<}
use Rattle.std.proofs.lemmas.Result.{err_from_is_err_and}
use Rattle.wire.proofs.Writing.{code-found, one-done, one-large}
use Rattle.wire.proofs.numbers.put_number.Goals as goal

pub returns-in_err-fit : goal.returns-in_err-fit
returns-in_err-fit c =
    let p = err_from_is_err_and c.from_residual.result c.from_residual.ensures.1 in
    rw (p.1, p.2, c.in_err-fit.ensures.0) (one-large _ _ _ c.in_err-fit.ensures.1)

pub put_form-requires : goal.put_form-requires
put_form-requires c = (lit< tt, code-found _ 0 (sym c.in-0.is ∙ c.in_ok-fit.ensures.0) (lit< tt))

pub put_form-requires-in-1 : goal.put_form-requires-in-1
put_form-requires-in-1 c = (lit< tt, code-found _ 1 (sym c.in-1.is ∙ c.in_ok-fit.ensures.0) (lit< tt))

pub put_form-requires-in-2 : goal.put_form-requires-in-2
put_form-requires-in-2 c = (lit< tt, code-found _ 2 (sym c.in-2.is ∙ c.in_ok-fit.ensures.0) (lit< tt))

pub put_form-requires-in_default : goal.put_form-requires-in_default
put_form-requires-in_default c = (lit< tt, code-found _ 3 (omega (arith, c.in_ok-fit.ensures)) (lit< tt))

pub returns-in-0 : goal.returns-in-0
returns-in-0 c = one-done _ _ _ 0 (sym c.in-0.is ∙ c.in_ok-fit.ensures.0) (lit< tt) c.put_form.ensures.0 c.put_form.ensures.1

pub returns-in-1 : goal.returns-in-1
returns-in-1 c = one-done _ _ _ 1 (sym c.in-1.is ∙ c.in_ok-fit.ensures.0) (lit< tt) c.put_form-in-1.ensures.0 c.put_form-in-1.ensures.1

pub returns-in-2 : goal.returns-in-2
returns-in-2 c = one-done _ _ _ 2 (sym c.in-2.is ∙ c.in_ok-fit.ensures.0) (lit< tt) c.put_form-in-2.ensures.0 c.put_form-in-2.ensures.1

pub returns-in_default : goal.returns-in_default
returns-in_default c = one-done _ _ _ 3 (omega (arith, c.in_ok-fit.ensures)) (lit< tt) c.put_form-in_default.ensures.0 c.put_form-in_default.ensures.1
