-- Only one: two results that meet the contract of an exported call, as its source states it, are equal, and so are the lent buffers that they leave.
-- Assumes nothing.
use mathlib.Core.Path.{sym, ◌∙◌}
use Rattle.wire.proofs.Only.{OneAnswer, OneBuffer}
use Rattle.host_totals.proofs.week.lumbixet_totals_open.Reads as totals-open
use Rattle.host_totals.proofs.week.lumbixet_totals_open.Kinds as totals-open-kinds
use Rattle.host_totals.proofs.week.lumbixet_totals_add.Reads as totals-add
use Rattle.host_totals.proofs.week.lumbixet_totals_add.Kinds as totals-add-kinds
use Rattle.host_totals.proofs.week.lumbixet_totals_piece.Reads as totals-piece
use Rattle.host_totals.proofs.week.lumbixet_totals_piece.Kinds as totals-piece-kinds
use Rattle.host_totals.proofs.week.lumbixet_totals_page.Reads as totals-page
use Rattle.host_totals.proofs.week.lumbixet_totals_page.Kinds as totals-page-kinds

pub totals-open-one : OneAnswer 0 totals-open-kinds.ps totals-open-kinds.r totals-open.Post
totals-open-one κs given x y s t p q = p ∙ sym q

pub totals-add-one : OneAnswer 1 totals-add-kinds.ps totals-add-kinds.r totals-add.Post
totals-add-one κs given x y s t p q = p ∙ sym q

pub totals-piece-one : OneAnswer 1 totals-piece-kinds.ps totals-piece-kinds.r totals-piece.Post
totals-piece-one κs given x y s t p q = p ∙ sym q

pub totals-page-one : OneBuffer 1 totals-page-kinds.ps totals-page-kinds.r (λ κs s. s.1.1.0.now) totals-page.Post
totals-page-one κs given x y s t p q = (p.0 ∙ sym q.0, p.1 ∙ sym q.1)
