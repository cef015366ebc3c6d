-- `totals::put_number` meets its contract: the digits that `fill` left go back in their place.
-- Assumes nothing.
use native.Mathlib.Omega.{arith}
use Rattle.decimal.proofs.Decimal.{length-decimal}
use Rattle.page.proofs.Laid.{number-laid}
use Rattle.page.proofs.put_number.Goals as goal

pub returns : goal.returns
returns c =
    let o = c.args in
    let e = c.places.ensures in
    (omega (arith, e.0, length-decimal o.n), number-laid o.buf.now _ o.at c.places.result o.n e.0 (omega arith) c.fill.ensures, omega arith)
