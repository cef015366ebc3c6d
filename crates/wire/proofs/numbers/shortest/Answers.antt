-- `wire::numbers::shortest` meets its contract: how many bits the number has says which forms are too short and which holds it.
-- Assumes nothing.
use mathlib.Core.Path.{refl}
use lib.Dec.{lit<}
use Rattle.wire.proofs.Zeros.{one, two, four, eight, no-form, found, none}
use Rattle.wire.proofs.numbers.shortest.Goals as goal

pub returns-then-bits-le6 : goal.returns-then-bits-le6
returns-then-bits-le6 c = found _ 0 (one _ c.ranges.v.fits c.if-bits-le6.true) (lit< tt)

pub returns-then-bits-le14 : goal.returns-then-bits-le14
returns-then-bits-le14 c = found _ 1 (two _ c.ranges.v.fits c.if-bits-le6.false c.if-bits-le14.true) (lit< tt)

pub returns-then-bits-le30 : goal.returns-then-bits-le30
returns-then-bits-le30 c = found _ 2 (four _ c.ranges.v.fits c.if-bits-le14.false c.if-bits-le30.true) (lit< tt)

pub returns-then-bits-le62 : goal.returns-then-bits-le62
returns-then-bits-le62 c = found _ 3 (eight _ c.ranges.v.fits c.if-bits-le30.false c.if-bits-le62.true) (lit< tt)

pub returns : goal.returns
returns c = (refl, none _ (no-form _ c.ranges.v.fits c.if-bits-le62.false))
