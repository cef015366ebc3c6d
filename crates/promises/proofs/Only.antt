-- Only one, for the window: two results that meet the contract of a public call, as its source states it, are equal, and so are the lent words that they leave.
-- The calls of the other crates have theirs in proofs/Only.antt of each.
-- Assumes nothing.
use mathlib.Core.Path.{refl, sym, ◌∙◌}
use Rattle.wire.proofs.Only.{OneAnswer, OneBuffer}
use Rattle.window.proofs.Window.empty.Reads as empty
use Rattle.window.proofs.Window.empty.Kinds as empty-kinds
use Rattle.window.proofs.is_marked.Reads as is-marked
use Rattle.window.proofs.is_marked.Kinds as is-marked-kinds
use Rattle.window.proofs.mark.Reads as mark
use Rattle.window.proofs.mark.Kinds as mark-kinds
use Rattle.window.proofs.advance.Reads as advance
use Rattle.window.proofs.advance.Kinds as advance-kinds
use Rattle.window.proofs.first_missing.Reads as first-missing
use Rattle.window.proofs.first_missing.Kinds as first-missing-kinds
use Rattle.window.proofs.run_below.Reads as run-below
use Rattle.window.proofs.run_below.Kinds as run-below-kinds
use Rattle.window.proofs.none_below.Reads as none_below
use Rattle.window.proofs.none_below.Kinds as none-below-kinds

pub empty-one : OneAnswer 0 empty-kinds.ps empty-kinds.r empty.Post
empty-one κs given x y s t p q = p ∙ sym q

pub is-marked-one : OneAnswer 1 is-marked-kinds.ps is-marked-kinds.r is-marked.Post
is-marked-one κs given x y s t p q = p ∙ sym q

pub mark-one : OneBuffer 1 mark-kinds.ps mark-kinds.r (λ κs s. s.0.now) mark.Post
mark-one κs given x y s t p q = (refl, p ∙ sym q)

pub advance-one : OneBuffer 1 advance-kinds.ps advance-kinds.r (λ κs s. s.0.now) advance.Post
advance-one κs given x y s t p q = (refl, p ∙ sym q)

pub first-missing-one : OneAnswer 1 first-missing-kinds.ps first-missing-kinds.r first-missing.Post
first-missing-one κs given x y s t p q = p ∙ sym q

pub run-below-one : OneAnswer 1 run-below-kinds.ps run-below-kinds.r run-below.Post
run-below-one κs given x y s t p q = p ∙ sym q

pub none_below_one : OneAnswer 1 none-below-kinds.ps none-below-kinds.r none_below.Post
none_below_one κs given x y s t p q = p ∙ sym q
