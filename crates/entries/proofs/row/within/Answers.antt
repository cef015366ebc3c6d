-- `entries::within` meets its contract: what the difference wraps to is below what is left above the floor exactly where the number is inside.
-- Assumes nothing.
use Rattle.std.proofs.Common.{rules}
use Rattle.entries.proofs.Steps.{wraps-inside}
use Rattle.entries.proofs.row.within.Goals as goal

pub returns : goal.returns
returns c = let a = c.args in wraps-inside a.floor a.number c.wrapping_sub_u64.result c.requires (search rules) c.wrapping_sub_u64.ensures.value
