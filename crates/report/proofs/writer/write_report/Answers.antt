-- `report::write_report` meets its contract: the number is that of the profile which was found, or of none.
-- Assumes nothing.
use mathlib.Core.Path.{sym, ap, ◌∙◌}
use lib.ListN.{length}
use Rattle.std.specs.Prelude.{Err}
use Rattle.std.proofs.lemmas.Result.{err_from_is_err_and}
use Rattle.wire.specs.declared.Refusal.TheVariants.{OtherProfile}
use Rattle.report.specs.Writer.{write_answer, write_bytes}
use Rattle.report.proofs.Numbered.{asked-for, asked-none}
use Rattle.report.proofs.writer.write_report.Goals as goal

pub returns-in_err-known : goal.returns-in_err-known
returns-in_err-known c =
    let a = c.args in
    let e = sym c.in_err-known.was ∙ c.try_from.ensures in
    let n = asked-none a.profile (Err OtherProfile) (λ p. write_answer p a.header a.entries.now a.maximum (length a.buf.now)) e in
    let p = err_from_is_err_and c.from_residual.result c.from_residual.ensures.1 in
    rw (p.1, p.2) (ap Err n.0 ∙ n.1, (asked-none a.profile a.buf.now (λ p. write_bytes p a.header a.entries.now a.maximum a.buf.now) e).1)

pub returns : goal.returns
returns c =
    let a = c.args in
    let e = sym c.in_ok-known.was ∙ c.try_from.ensures in
    let w = c.write_as.ensures in
    (w.0 ∙ asked-for a.profile (Err OtherProfile) (λ p. write_answer p a.header a.entries.now a.maximum (length a.buf.now)) _ e, w.1 ∙ asked-for a.profile a.buf.now (λ p. write_bytes p a.header a.entries.now a.maximum a.buf.now) _ e)
