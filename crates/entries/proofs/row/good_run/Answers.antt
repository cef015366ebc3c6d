-- `entries::good_run` meets its contract: a floor that lies above every object number asks the same as the one just above them.
-- Assumes nothing.
use Rattle.std.proofs.Common.{ℕ, ◌/◌, length, ap, ◌∙◌, eq-eqb, ne_eqb}
use Rattle.entries.specs.Profiles.{record_size}
use Rattle.entries.specs.Runs.{run_of}
use Rattle.entries.proofs.Runs.{run-low}
use Rattle.entries.proofs.row.good_run.Goals as goal

pub returns-then-run-eq0 : goal.returns-then-run-eq0
returns-then-run-eq0 c =
    let a = c.args in
    let r = c.run_from-run in
    let low = r.ensures ∙ ap (λ (m : ℕ). run_of a.profile a.last m a.entries.now) c.min.ensures in
    let all = run-low a.profile a.last a.above (length a.entries.now / record_size a.profile) a.entries.now r.result low in
    c.run_to.ensures ∙ (rw (eq-eqb r.result.good 0 c.if-run-eq0.true) at all)

pub returns : goal.returns
returns c =
    let a = c.args in
    let r = c.run_from-run in
    let low = r.ensures ∙ ap (λ (m : ℕ). run_of a.profile a.last m a.entries.now) c.min.ensures in
    let all = run-low a.profile a.last a.above (length a.entries.now / record_size a.profile) a.entries.now r.result low in
    rw (ne_eqb r.result.good 0 c.if-run-eq0.false) at all
