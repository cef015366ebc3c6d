-- "Given exactly when": the paper's number for each row of the table, and for an answer, 0 for accepted.
use Rattle.std.specs.Prelude.{ℕ, Result, Ok, Err}
use Rattle.wire.specs.declared.Refusal.{Refusal}
use Rattle.wire.specs.declared.Refusal.TheVariants.{Inconsistent, Ends, OtherType, DelayRule, TooLarge, Received, BelowWindow, NothingReceived, NoRoom, BrokenCount, OtherTotal, BrokenEntry, BytesRemain, BelowZero, LongerForm, NeverSent, OtherObject, OtherProfile, NotAcknowledged, TooLong}

abbrev pub number_of : Refusal → ℕ
number_of Inconsistent = 1
number_of Ends = 2
number_of OtherType = 3
number_of DelayRule = 4
number_of TooLarge = 5
number_of Received = 6
number_of BelowWindow = 7
number_of NothingReceived = 8
number_of NoRoom = 9
number_of BrokenCount = 10
number_of OtherTotal = 11
number_of BrokenEntry = 12
number_of BytesRemain = 13
number_of BelowZero = 14
number_of LongerForm = 15
number_of NeverSent = 16
number_of OtherObject = 17
number_of OtherProfile = 18
number_of NotAcknowledged = 19
number_of TooLong = 20

abbrev pub refusal_number : {A : Type 0} → Result A Refusal → ℕ
refusal_number (Ok answer) = 0
refusal_number (Err refusal) = number_of refusal
