-- `pieces::records::after_bad` meets its contract: the numbers are small.
-- Assumes nothing.
use mathlib.Core.Path.{refl}
use native.Mathlib.Omega.{arith}
use Rattle.pieces.proofs.Parts.{bytes-few}
use Rattle.pieces.proofs.records.after_bad.Goals as goal

pub overflow_mul-now : goal.overflow_mul-now
overflow_mul-now c = rw c.record_size.ensures (record { fits = omega (arith, bytes-few c.args.profile c.args.left c.requires) })

pub returns : goal.returns
returns c = rw c.record_size.ensures refl
