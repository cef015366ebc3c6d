-- `totals::Brought::add_in` meets its contract: nine places grow by what the report brings, and it brings nothing to the others.
-- Assumes nothing.
use mathlib.Core.Path.{refl}
use native.Mathlib.Omega.{arith}
use Rattle.totals.specs.Adding.{share, over}
use Rattle.totals.proofs.Growing.{number-added, place-added, all-added}
use Rattle.totals.proofs.Brought.add_in.Goals as goal

pub returns : goal.returns
unfolding share
returns c =
    let t = over c.args.sums.now c.args.full.now in
    let b = c.args.self in
    let p = c.requires in
    let g21 = number-added t b p.1 p.0 c.add_at.ensures.0 c.add_at.ensures.1 in
    let g22 = place-added t b p.1 21 (omega arith) g21 refl c.add_at-2.ensures.0 c.add_at-2.ensures.1 in
    let g23 = place-added t b p.1 22 (omega arith) g22 refl c.add_at-3.ensures.0 c.add_at-3.ensures.1 in
    let g24 = place-added t b p.1 23 (omega arith) g23 refl c.add_at-4.ensures.0 c.add_at-4.ensures.1 in
    let g25 = place-added t b p.1 24 (omega arith) g24 refl c.add_at-5.ensures.0 c.add_at-5.ensures.1 in
    let g26 = place-added t b p.1 25 (omega arith) g25 refl c.add_at-6.ensures.0 c.add_at-6.ensures.1 in
    let g27 = place-added t b p.1 26 (omega arith) g26 refl c.add_at-7.ensures.0 c.add_at-7.ensures.1 in
    let g28 = place-added t b p.1 27 (omega arith) g27 refl c.add_at-8.ensures.0 c.add_at-8.ensures.1 in
    let g29 = place-added t b p.1 28 (omega arith) g28 refl c.add_at-9.ensures.0 c.add_at-9.ensures.1 in
    all-added t b p.1 g29
