-- `ack::walk::short_width` meets its contract.
-- Assumes nothing.
use mathlib.Core.Path.{sym}
use native.Mathlib.Omega.{arith}
use Rattle.ack.proofs.Short.{one_width, two-width}
use Rattle.ack.proofs.walk.short_width.Goals as goal

pub returns-then-v-lt64 : goal.returns-then-v-lt64
returns-then-v-lt64 c = sym (one_width c.args.v c.if-v-lt64.true)

pub returns-else-v-lt64 : goal.returns-else-v-lt64
returns-else-v-lt64 c = sym (two-width c.args.v c.if-v-lt64.false (omega (arith, c.requires)))
