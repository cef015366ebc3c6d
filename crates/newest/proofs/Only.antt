-- Only one: two results that meet the contract of a public call, as its source states it, are equal.
-- Assumes nothing.
use mathlib.Core.Path.{sym, ◌∙◌}
use Rattle.wire.proofs.Only.{OneAnswer}
use Rattle.newest.proofs.whole.newest_lost.Reads as newest-lost
use Rattle.newest.proofs.whole.newest_lost.Kinds as newest-lost-kinds

pub newest-lost-one : OneAnswer 1 newest-lost-kinds.ps newest-lost-kinds.r newest-lost.Post
newest-lost-one κs given x y s t p q = p ∙ sym q
