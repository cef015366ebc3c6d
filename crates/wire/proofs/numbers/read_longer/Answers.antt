-- `wire::numbers::read_longer` meets its contract: the field is read in the form of the code that the first byte gives, and compared with what the next shorter form holds.
-- Assumes nothing.
use mathlib.Core.Path.{sym}
use native.Mathlib.Omega.{arith}
use Rattle.wire.proofs.Reading.{number_cut, number-value}
use Rattle.wire.proofs.numbers.read_longer.Goals as goal

pub returns-in_default : goal.returns-in_default
returns-in_default c = number_cut _ _ _ (sym c.from-code.ensures) c.read_longer_form.ensures c.in_default.is

pub returns : goal.returns
returns c =
    number-value _ _ _ (sym c.from-code.ensures) c.read_longer_form.ensures _ (omega arith) (omega (arith, c.type_inv.s c.args.at))
    c.form_at-shorter.ensures.1 c.in-Ok.is
