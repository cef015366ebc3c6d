-- Only one: two results that meet the contract of a public call, as its source states it, are equal, and so are the lent buffers that they leave.
-- Assumes nothing.
use mathlib.Core.Path.{refl, sym, ◌∙◌}
use Rattle.wire.proofs.Only.{OneAnswer, OneBuffer}
use Rattle.totals.proofs.Totals.add.Reads as add
use Rattle.totals.proofs.Totals.add.Kinds as add-kinds
use Rattle.totals.proofs.Standing.start.Reads as start
use Rattle.totals.proofs.Standing.start.Kinds as start-kinds
use Rattle.totals.proofs.Standing.add.Reads as report
use Rattle.totals.proofs.Standing.add.Kinds as report-kinds
use Rattle.totals.proofs.Standing.piece.Reads as piece
use Rattle.totals.proofs.Standing.piece.Kinds as piece-kinds
use Rattle.totals.proofs.files.keep_rest.Reads as keep-rest
use Rattle.totals.proofs.files.keep_rest.Kinds as keep-rest-kinds

pub add-one : OneAnswer 1 add-kinds.ps add-kinds.r add.Post
add-one κs given x y s t p q = p ∙ sym q

pub start-one : OneAnswer 0 start-kinds.ps start-kinds.r start.Post
start-one κs given x y s t p q = p ∙ sym q

pub report-one : OneAnswer 1 report-kinds.ps report-kinds.r report.Post
report-one κs given x y s t p q = p ∙ sym q

pub piece-one : OneAnswer 1 piece-kinds.ps piece-kinds.r piece.Post
piece-one κs given x y s t p q = p.0 ∙ sym q.0

pub keep-rest-one : OneBuffer 1 keep-rest-kinds.ps keep-rest-kinds.r (λ κs s. s.0.now) keep-rest.Post
keep-rest-one κs given x y s t p q = (refl, p ∙ sym q)
