-- `frames::ack_ranges::put_range` meets its contract: there is no room, or two stores.
-- Assumes nothing.
use mathlib.Core.Path.{refl}
use native.Mathlib.Omega.{arith}
use lib.ListN.{length-set}
use Rattle.frames.proofs.ack_ranges.put_range.Goals as goal

pub returns-then-ranges-i-lt2 : goal.returns-then-ranges-i-lt2
returns-then-ranges-i-lt2 c = (refl, omega arith, λ h. absurd (omega (arith, h, c.if-ranges-i-lt2.true)))

pub bounds-ranges-i-2 : goal.bounds-ranges-i-2
bounds-ranges-i-2 c = simp length-set (omega arith)

pub returns : goal.returns
returns c = (simp length-set refl, omega arith, λ h. (refl, refl))
