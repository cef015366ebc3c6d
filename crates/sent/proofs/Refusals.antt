-- No refusal has the number 0, which is that of an answer that is accepted.
-- Assumes nothing.
use mathlib.Core.Path.{◌≡◌}
use native.Mathlib.Omega.{arith}
use Rattle.wire.specs.Refusals.{number_of}
use Rattle.wire.specs.declared.Refusal.{Refusal}
use Rattle.wire.specs.declared.Refusal.TheVariants.{Inconsistent, Ends, OtherType, DelayRule, TooLarge, Received, BelowWindow, NothingReceived, NoRoom, BrokenCount, OtherTotal, BrokenEntry, BytesRemain, BelowZero, LongerForm, NeverSent, OtherObject, OtherProfile, NotAcknowledged, TooLong}

pub is_numbered : (refusal : Refusal) → number_of refusal ≡ 0 → ⊥
is_numbered Inconsistent e = omega arith
is_numbered Ends e = omega arith
is_numbered OtherType e = omega arith
is_numbered DelayRule e = omega arith
is_numbered TooLarge e = omega arith
is_numbered Received e = omega arith
is_numbered BelowWindow e = omega arith
is_numbered NothingReceived e = omega arith
is_numbered NoRoom e = omega arith
is_numbered BrokenCount e = omega arith
is_numbered OtherTotal e = omega arith
is_numbered BrokenEntry e = omega arith
is_numbered BytesRemain e = omega arith
is_numbered BelowZero e = omega arith
is_numbered LongerForm e = omega arith
is_numbered NeverSent e = omega arith
is_numbered OtherObject e = omega arith
is_numbered OtherProfile e = omega arith
is_numbered NotAcknowledged e = omega arith
is_numbered TooLong e = omega arith
