-- `decimal::places` meets its contract: the power of ten that the number has just reached says how many digits there are.
-- Assumes nothing.
use native.Mathlib.Omega.{arith}
use Rattle.decimal.proofs.Decimal.{places-one, places-power}
use Rattle.decimal.proofs.places.Goals as goal

pub returns-in-Some : goal.returns-in-Some
returns-in-Some c =
    let e = c.in-Some.ensures in
    (omega (arith, places-power c.in-Some.power c.args.n e.power_le e.next_power_gt), omega (arith, e.bound))

pub returns-in-None : goal.returns-in-None
returns-in-None c = (omega (arith, c.in-None.ensures.none, places-one c.args.n (omega (arith, c.in-None.ensures.none))), omega arith)
