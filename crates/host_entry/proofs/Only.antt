-- Only one: two results that meet the contract of the exported call, as its source states it, are equal.
-- Assumes nothing.
use mathlib.Core.Path.{sym, ◌∙◌}
use Rattle.wire.proofs.Only.{OneAnswer}
use Rattle.host_entry.proofs.lumbixet_read_entry.Reads as read-entry
use Rattle.host_entry.proofs.lumbixet_read_entry.Kinds as read-entry-kinds

pub read-entry-one : OneAnswer 1 read-entry-kinds.ps read-entry-kinds.r read-entry.Post
read-entry-one κs given x y s t p q = p ∙ sym q
