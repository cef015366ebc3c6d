-- `call_log::put_number` meets its contract.
-- Assumes nothing.
use native.Mathlib.Omega.{arith}
use Rattle.call_log.proofs.Laws.{number-laid}
use Rattle.call_log.proofs.parts.put_number.Goals as goal

pub returns : goal.returns
returns c =
    let o = c.args in
    let e = c.places.ensures in
    (number-laid o.buf.now _ o.at c.places.result o.n e.0 (omega arith) c.fill.ensures, omega arith)
