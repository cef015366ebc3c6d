-- Only one: two results that meet the contract of a public call, as its source states it, are equal, and so are the record and the lent buffer that they leave.
-- Assumes nothing.
use mathlib.Core.Path.{◌≡◌, sym, ◌∙◌}
use borrow.Fn.Kinds.{Dens, res_t, ended_of}
use contract.Lifetimes.{Lfts}
use denote.Triple.Clauses.{AtExit}
use Rattle.wire.proofs.Only.{OneBuffer}
use Rattle.pieces.proofs.calls.open.Reads as opening
use Rattle.pieces.proofs.calls.open.Kinds as opening-kinds
use Rattle.pieces.proofs.calls.take.Reads as taking
use Rattle.pieces.proofs.calls.take.Kinds as taking-kinds
use Rattle.pieces.proofs.calls.end.Reads as ending
use Rattle.pieces.proofs.calls.end.Kinds as ending-kinds

pub open-one : OneBuffer 1 opening-kinds.ps opening-kinds.r (λ κs s. s.0.now) opening.Post
open-one κs given x y s t p q = (p.0 ∙ sym q.0, p.1 ∙ sym q.1)

pub end-one : OneBuffer 1 ending-kinds.ps ending-kinds.r (λ κs s. s.0.now) ending.Post
end-one κs given x y s t p q = (p.0 ∙ sym q.0, p.1 ∙ sym q.1)

-- a part: the answer, every word of the record and every byte of the buffer
pub take-one : (κs : Lfts 3) (given : Dens κs taking-kinds.ps) (x y : (res_t taking-kinds.r κs).Denot) (s t : AtExit (ended_of 3 taking-kinds.ps taking-kinds.r) κs)
    → taking.Post κs given x s → taking.Post κs given y t → (x ≡ y) × ((s.0.now ≡ t.0.now) × (s.1.1.0.now ≡ t.1.1.0.now))
take-one κs given x y s t p q = (p.0 ∙ sym q.0, (p.1.0 ∙ sym q.1.0, p.1.1 ∙ sym q.1.1))
