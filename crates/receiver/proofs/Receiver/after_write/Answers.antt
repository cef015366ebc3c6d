-- `receiver::Receiver::after_write` meets its contract: field by field the definition's record.
-- Assumes nothing.
use mathlib.Core.Path.{refl}
use Rattle.receiver.specs.Write.{after_write}
use Rattle.receiver.proofs.Receiver.after_write.Goals as goal

pub returns : goal.returns
unfolding after_write
returns c = refl
