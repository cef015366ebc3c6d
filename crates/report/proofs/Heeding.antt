-- A refusal has a number of the table, and an answer without one is none; reading a number has one refusal.
-- Assumes nothing.
use Prim.Native.Nat.{ℕ, ◌+◌, ◌/◌}
use mathlib.Core.Path.{◌≡◌, refl, sym, ap, ◌∙◌}
use mathlib.Core.Bool.{Bool, true, false}
use mathlib.Core.List.{List, [], ◌∷◌}
use borrow.Author.Tests.{eqb-false}
use lib.Dec.{leb}
use lib.ListN.{length, get_or, take, drop}
use Rattle.std.specs.Prelude.{Result, Ok, Err, is_ok}
use Rattle.wire.specs.Bytes.{pick, be}
use Rattle.wire.specs.Numbers.{len_of, in_form, read_form, read_number}
use Rattle.wire.specs.Fields.{read_fixed}
use Rattle.wire.specs.Refusals.{number_of, refusal_number}
use Rattle.wire.specs.declared.Refusal.{Refusal}
use Rattle.wire.specs.declared.Refusal.TheVariants.{Inconsistent, Ends, OtherType, DelayRule, TooLarge, Received, BelowWindow, NothingReceived, NoRoom, BrokenCount, OtherTotal, BrokenEntry, BytesRemain, BelowZero, LongerForm, NeverSent, OtherObject, OtherProfile, NotAcknowledged, TooLong}

pub number-some : (refusal : Refusal) → number_of refusal ≡ 0 → ⊥
number-some Inconsistent = eqb-false 1 0 refl
number-some Ends = eqb-false 2 0 refl
number-some OtherType = eqb-false 3 0 refl
number-some DelayRule = eqb-false 4 0 refl
number-some TooLarge = eqb-false 5 0 refl
number-some Received = eqb-false 6 0 refl
number-some BelowWindow = eqb-false 7 0 refl
number-some NothingReceived = eqb-false 8 0 refl
number-some NoRoom = eqb-false 9 0 refl
number-some BrokenCount = eqb-false 10 0 refl
number-some OtherTotal = eqb-false 11 0 refl
number-some BrokenEntry = eqb-false 12 0 refl
number-some BytesRemain = eqb-false 13 0 refl
number-some BelowZero = eqb-false 14 0 refl
number-some LongerForm = eqb-false 15 0 refl
number-some NeverSent = eqb-false 16 0 refl
number-some OtherObject = eqb-false 17 0 refl
number-some OtherProfile = eqb-false 18 0 refl
number-some NotAcknowledged = eqb-false 19 0 refl
number-some TooLong = eqb-false 20 0 refl

-- the other way: the row of the table that has the number
refusal_of : ℕ → Refusal
refusal_of n = get_or (Inconsistent ∷ Inconsistent ∷ Ends ∷ OtherType ∷ DelayRule ∷ TooLarge ∷ Received ∷ BelowWindow ∷ NothingReceived ∷ NoRoom ∷ BrokenCount ∷ OtherTotal ∷ BrokenEntry ∷ BytesRemain ∷ BelowZero ∷ LongerForm ∷ NeverSent ∷ OtherObject ∷ OtherProfile ∷ NotAcknowledged ∷ TooLong ∷ []) n Inconsistent

back : (refusal : Refusal) → refusal_of (number_of refusal) ≡ refusal
unfolding refusal_of
back Inconsistent = refl
back Ends = refl
back OtherType = refl
back DelayRule = refl
back TooLarge = refl
back Received = refl
back BelowWindow = refl
back NothingReceived = refl
back NoRoom = refl
back BrokenCount = refl
back OtherTotal = refl
back BrokenEntry = refl
back BytesRemain = refl
back BelowZero = refl
back LongerForm = refl
back NeverSent = refl
back OtherObject = refl
back OtherProfile = refl
back NotAcknowledged = refl
back TooLong = refl

number-same : (one other : Refusal) → number_of one ≡ number_of other → one ≡ other
number-same one other e = sym (back one) ∙ ap refusal_of e ∙ back other

-- an answer with the number of a refusal is that refusal
pub refused-as : (x : Result Unit Refusal) (refusal : Refusal) → refusal_number x ≡ number_of refusal → x ≡ Err refusal
refused-as (Ok u) refusal e = absurd (number-some refusal (sym e))
refused-as (Err other) refusal e = ap Err (number-same other refusal e)

-- an answer without a refusal
pub good-is : (x : Result Unit Refusal) → is_ok x ≡ true → x ≡ Ok tt
good-is (Ok u) e = refl
good-is (Err refusal) e = absurd (cc)

pub not-refused : (x : Result Unit Refusal) → refusal_number x ≡ 0 → x ≡ Ok tt
not-refused (Ok u) e = refl
not-refused (Err refusal) e = absurd (number-some refusal e)

-- the bytes end inside a number that is refused
pub number-refused : (s : List ℕ) (at : ℕ) {refusal : Refusal} → read_number s at ≡ Err refusal → refusal ≡ Ends
unfolding read_number read_form read_fixed
number-refused s at {refusal} e = go (leb (at + len_of k) (length s)) e
  where
    k : ℕ
    k = get_or s at 0 / 64

    go : (b : Bool) → in_form k (pick b (Ok (record { value = be 0 (take (len_of k) (drop at s)); next = at + len_of k })) (Err Ends)) ≡ Err refusal → refusal ≡ Ends
    go true e = absurd (cc)
    go false e = cc
