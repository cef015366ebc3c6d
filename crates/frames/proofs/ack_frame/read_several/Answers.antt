-- `frames::ack_frame::read_several` meets its contract: one law for each end of the frame, and the room as a halved length.
-- Assumes nothing.
use mathlib.Core.Path.{refl, sym, ◌∙◌}
use native.Mathlib.Omega.{arith}
use Rattle.std.proofs.lemmas.Result.{err_from_is_err_and}
use Rattle.frames.proofs.Answers.{both, ended_so, ended-whole, no_room, accepted}
use Rattle.frames.proofs.Few.{kept-few}
use Rattle.frames.proofs.ack_frame.read_several.Goals as goal

pub returns-in_err-end : goal.returns-in_err-end
returns-in_err-end c =
    let p = err_from_is_err_and c.from_residual.result c.from_residual.ensures.1 in
    rw (p.1, p.2) (both (ended_so _ _ _ _ _ _ _ (sym c.in_err-end.was ∙ c.walk_ranges.ensures.0) refl _ refl))

pub returns-in_err-tail : goal.returns-in_err-tail
returns-in_err-tail c =
    let r = c.from_residual-in_err-tail in
    let p = err_from_is_err_and r.result r.ensures.1 in
    rw (p.1, p.2) (both (ended_so _ _ _ _ _ _ _ (sym c.in_ok-end.was ∙ c.walk_ranges.ensures.0) c.read_tail.ensures _ c.in_err-tail.was))

pub returns-then-pairs-header : goal.returns-then-pairs-header
returns-then-pairs-header c =
    both (no_room _ _ _ _ _ _ _ (sym c.in_ok-end.was ∙ c.walk_ranges.ensures.0) c.read_tail.ensures c.in_ok-tail.was (omega arith))

pub write_ranges-requires : goal.write_ranges-requires
write_ranges-requires c =
    let w = c.walk_ranges in
    let whole = ended-whole _ _ (sym c.in_ok-end.was ∙ w.ensures.0) c.read_tail.ensures c.in_ok-tail.was in
    (whole, omega arith, λ h. kept-few _ _ _ _ whole _ w.new.ranges w.ensures.1 refl h)

pub returns : goal.returns
returns c =
    both (accepted _ _ _ _ _ _ _ (sym c.in_ok-end.was ∙ c.walk_ranges.ensures.0) c.read_tail.ensures c.in_ok-tail.was (omega arith) c.write_ranges.ensures)
