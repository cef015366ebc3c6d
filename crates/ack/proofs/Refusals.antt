-- No refusal has the number 0, which says accepted.
-- Assumes nothing.
use mathlib.Core.Path.{◌≡◌}
use native.Mathlib.Omega.{arith}
use Rattle.wire.specs.declared.Refusal.{Refusal}
use Rattle.wire.specs.declared.Refusal.TheVariants.{Inconsistent, Ends, OtherType, DelayRule, TooLarge, Received, BelowWindow, NothingReceived, NoRoom, BrokenCount, OtherTotal, BrokenEntry, BytesRemain, BelowZero, LongerForm, NeverSent, OtherObject, OtherProfile, NotAcknowledged, TooLong}
use Rattle.wire.specs.Refusals.{number_of}

pub some-number : (r : Refusal) → number_of r ≡ 0 → ⊥
some-number Inconsistent e = omega arith
some-number Ends e = omega arith
some-number OtherType e = omega arith
some-number DelayRule e = omega arith
some-number TooLarge e = omega arith
some-number Received e = omega arith
some-number BelowWindow e = omega arith
some-number NothingReceived e = omega arith
some-number NoRoom e = omega arith
some-number BrokenCount e = omega arith
some-number OtherTotal e = omega arith
some-number BrokenEntry e = omega arith
some-number BytesRemain e = omega arith
some-number BelowZero e = omega arith
some-number LongerForm e = omega arith
some-number NeverSent e = omega arith
some-number OtherObject e = omega arith
some-number OtherProfile e = omega arith
some-number NotAcknowledged e = omega arith
some-number TooLong e = omega arith
