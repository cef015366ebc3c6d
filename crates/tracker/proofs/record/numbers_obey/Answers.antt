-- `tracker::record::numbers_obey` meets its contract: a first number above the limit has a last one above it.
-- Assumes nothing.
use Prim.Native.Nat.{◌+◌}
use native.Mathlib.Omega.{arith}
use borrow.Author.Tests.{lt-leb}
use Rattle.wire.specs.Numbers.{limit}
use Rattle.tracker.proofs.record.numbers_obey.Goals as goal

pub returns-then-first-gt-LARGEST : goal.returns-then-first-gt-LARGEST
returns-then-first-gt-LARGEST c = rw (lt-leb (c.args.first + 255) limit (omega arith))
