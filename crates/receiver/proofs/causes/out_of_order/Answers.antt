-- `receiver::causes::out_of_order` meets its contract: its test and its search are the rule's.
-- Assumes nothing.
use Prim.Native.Nat.{ℕ, ◌+◌, ◌<◌}
use mathlib.Core.Path.{◌≡◌, refl, ◌∙◌}
use mathlib.Core.Bool.{false}
use native.Mathlib.Omega.{arith}
use borrow.Author.Tests.{le-ltb}
use lib.Dec.{ltb}
use Rattle.std.specs.Option.{is_some}
use Rattle.std.specs.Prelude.{Option, Some, None}
use Rattle.seen.specs.Received.{is_any}
use Rattle.receiver.specs.Packet.{out_of_order}
use Rattle.receiver.proofs.Missing.{not_beyond}
use Rattle.receiver.proofs.causes.out_of_order.Goals as goal

pub returns-then-number-highest : goal.returns-then-number-highest
returns-then-number-highest c = not_beyond _ _ _ c.if-number-highest.true

-- a number above the earlier H is not below it
above : (number highest : ℕ) → highest < number → ltb (number + 1) highest ≡ false
above number highest l = le-ltb (number + 1) highest (omega arith)

-- the code asks std's test, the rule its own
same : (m : Option ℕ) → is_some m ≡ is_any m
same None = refl
same (Some place) = refl

pub returns : goal.returns
unfolding out_of_order
returns c = rw (above _ _ c.if-number-highest.false, ← c.first_missing_in.ensures) (c.is_some.ensures ∙ same _)
