-- Only one: two results that meet the contract of a public function, as its source states it, are equal.
-- Assumes nothing.
use mathlib.Core.Path.{sym, ◌∙◌}
use Rattle.wire.proofs.Only.{OneAnswer}
use Rattle.ecn.proofs.given.MarkFromU64.from.Reads as mark_of
use Rattle.ecn.proofs.given.MarkFromU64.from.Kinds as mark-of-kinds
use Rattle.ecn.proofs.given.KindFromBool.from.Reads as kind-of
use Rattle.ecn.proofs.given.KindFromBool.from.Kinds as kind-of-kinds
use Rattle.ecn.proofs.Mark.is_ce.Reads as is-ce
use Rattle.ecn.proofs.Mark.is_ce.Kinds as is-ce-kinds
use Rattle.ecn.proofs.Totals.obey.Reads as obey
use Rattle.ecn.proofs.Totals.obey.Kinds as obey-kinds
use Rattle.ecn.proofs.Totals.counted.Reads as counted
use Rattle.ecn.proofs.Totals.counted.Kinds as counted-kinds
use Rattle.ecn.proofs.Totals.said.Reads as said
use Rattle.ecn.proofs.Totals.said.Kinds as said-kinds

pub mark-of-one : OneAnswer 0 mark-of-kinds.ps mark-of-kinds.r mark_of.Post
mark-of-one κs given x y s t p q = p ∙ sym q

pub kind-of-one : OneAnswer 0 kind-of-kinds.ps kind-of-kinds.r kind-of.Post
kind-of-one κs given x y s t p q = p ∙ sym q

pub is-ce-one : OneAnswer 0 is-ce-kinds.ps is-ce-kinds.r is-ce.Post
is-ce-one κs given x y s t p q = p ∙ sym q

pub obey-one : OneAnswer 0 obey-kinds.ps obey-kinds.r obey.Post
obey-one κs given x y s t p q = p ∙ sym q

pub counted-one : OneAnswer 0 counted-kinds.ps counted-kinds.r counted.Post
counted-one κs given x y s t p q = p ∙ sym q

pub said-one : OneAnswer 0 said-kinds.ps said-kinds.r said.Post
said-one κs given x y s t p q = p ∙ sym q
