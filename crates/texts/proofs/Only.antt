-- Only one: two results that meet the contract of a public call, as its source states it, are equal, and so are the lent buffers that they leave.
-- Assumes nothing.
use mathlib.Core.Path.{refl, sym, ◌∙◌}
use Rattle.wire.proofs.Only.{OneAnswer, OneBuffer}
use Rattle.texts.proofs.places.Reads as places
use Rattle.texts.proofs.places.Kinds as places-kinds
use Rattle.texts.proofs.fill.Reads as fill
use Rattle.texts.proofs.fill.Kinds as fill-kinds

pub places-one : OneAnswer 0 places-kinds.ps places-kinds.r places.Post
places-one κs given x y s t p q = p.0 ∙ sym q.0

pub fill_one : OneBuffer 1 fill-kinds.ps fill-kinds.r (λ κs s. s.0.now) fill.Post
fill_one κs given x y s t p q = (refl, p ∙ sym q)
