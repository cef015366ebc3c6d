-- Only one: two results that meet the contract of an exported call, as its source states it, are equal, and so are the lent record and the lent buffer that they leave.
-- Assumes nothing.
use mathlib.Core.Path.{sym, ◌∙◌}
use Rattle.wire.proofs.Only.{OneBuffer}
use Rattle.host_pieces.proofs.lumbixet_pieces_open.Reads as pieces-open
use Rattle.host_pieces.proofs.lumbixet_pieces_open.Kinds as pieces-open-kinds
use Rattle.host_pieces.proofs.lumbixet_pieces_take.Reads as pieces-take
use Rattle.host_pieces.proofs.lumbixet_pieces_take.Kinds as pieces-take-kinds
use Rattle.host_pieces.proofs.lumbixet_pieces_end.Reads as Pieces-end
use Rattle.host_pieces.proofs.lumbixet_pieces_end.Kinds as pieces-end-kinds

pub pieces-open-one : OneBuffer 1 pieces-open-kinds.ps pieces-open-kinds.r (λ κs s. s.0.now) pieces-open.Post
pieces-open-one κs given x y s t p q = (p.0 ∙ sym q.0, p.1 ∙ sym q.1)

-- the record that a part leaves
pub pieces-take-one : OneBuffer 3 pieces-take-kinds.ps pieces-take-kinds.r (λ κs s. s.0.now) pieces-take.Post
pieces-take-one κs given x y s t p q = (p.0 ∙ sym q.0, p.1.0 ∙ sym q.1.0)

-- and the buffer
pub pieces-take-buffer-one : OneBuffer 3 pieces-take-kinds.ps pieces-take-kinds.r (λ κs s. s.1.1.0.now) pieces-take.Post
pieces-take-buffer-one κs given x y s t p q = (p.0 ∙ sym q.0, p.1.1 ∙ sym q.1.1)

pub pieces-end-one : OneBuffer 1 pieces-end-kinds.ps pieces-end-kinds.r (λ κs s. s.0.now) Pieces-end.Post
pieces-end-one κs given x y s t p q = (p.0 ∙ sym q.0, p.1 ∙ sym q.1)
