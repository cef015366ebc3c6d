-- A checked ACK: reading it is the check and then the room, and the walk over its ranges comes to its end.
-- Assumes nothing.
use Prim.Native.Nat.{ℕ, zero, suc, ◌+◌, ◌-◌, ◌≤◌}
use mathlib.Core.Path.{◌≡◌, refl, sym, ap, subst, ◌∙◌}
use mathlib.Core.Bool.{Bool}
use mathlib.Core.List.{List}
use native.Mathlib.Omega.{arith}
use lib.Dec.{leb, eqb}
use Rattle.std.specs.Prelude.{Option, Result, Ok, Err}
use Rattle.wire.specs.Numbers.{read_number}
use Rattle.wire.specs.declared.Refusal.{Refusal}
use Rattle.wire.specs.declared.Refusal.TheVariants.{Ends, OtherType}
use Rattle.frames.specs.Types.{counts_type, is_ack}
use Rattle.frames.specs.Ack.{ranges_from, step, read_range, IsWhole, read_tail, read_rest, AckRead, refused, after_rest, read_ranges, ack_fields_at, ack_fields, read_header_at, read_header, read_header_as, after_header, read_ack, read_ack_as, checked, checked_rest, check_ranges, check_ack, after_check}
use Rattle.frames.specs.EachWay.{CheckThenRoom, RangeByRange}
use Rattle.frames.specs.declared.Range.{Range}
use Rattle.frames.specs.declared.Counts.{Counts}
use Rattle.frames.specs.declared.Ending.{Ending}
use Rattle.frames.specs.declared.Header.{Header}
use Rattle.frames.specs.declared.Checked.{Checked}
use Rattle.frames.proofs.Steps.{formed-both, field_both, pick-both, step_fault, step-last, step-more}
use Rattle.frames.proofs.Lent.{formed-all, field-all, pick_all}

-- ---- the reader is the check, then the room

rest-by : (s : List ℕ) (at largest delay count : ℕ) (xs : List ℕ) (w : Result Ending Refusal)
    → after_rest w largest delay count (ranges_from count s at largest).pairs xs ≡ after_check s (checked_rest at largest delay count w) xs
rest-by s at largest delay count xs (Err refusal) = refl
rest-by s at largest delay count xs (Ok e) = refl

ranges-by : (s : List ℕ) (at largest delay count : ℕ) (counted : Bool) (xs : List ℕ)
    → read_ranges s at largest delay count counted xs ≡ after_check s (check_ranges s at largest delay count counted) xs
unfolding read_ranges
ranges-by s at largest delay count counted xs = rest-by s at largest delay count xs (read_rest counted s (ranges_from count s at largest).walk)

pub check-then-room : CheckThenRoom
check-then-room s xs =
    formed-both Same (read_number s 0) refl (λ kind at0 shortest.
    pick-both Same (is_ack kind)
    (pick-both Same shortest
    (field_both Same (read_number s at0) refl (λ largest at1.
    field_both Same (read_number s at1) refl (λ delay at2.
    field_both Same (read_number s at2) refl (λ count at3.
    ranges-by s at3 largest delay count (eqb kind counts_type) xs))))
    refl)
    refl)
  where
    Same : AckRead → Result Checked Refusal → Type 0
    Same r k = r ≡ after_check s k xs

-- ---- the numbers before the ranges, then what is made of them

-- what the reader goes on with
abbrev reads_on : List ℕ → List ℕ → ℕ → ℕ → ℕ → ℕ → Bool → AckRead
reads_on s xs at largest delay count counted = read_ranges s at largest delay count counted xs

abbrev by_header : {R : Type 0} → (Refusal → R) → (ℕ → ℕ → ℕ → ℕ → Bool → R) → Result Header Refusal → R
by_header fault f (Err refusal) = fault refusal
by_header fault f (Ok h) = f h.at h.largest h.delay h.count h.counted

abbrev pub read_after : List ℕ → List ℕ → Result Header Refusal → AckRead
read_after s xs h = by_header (λ refusal. refused refusal xs) (λ at largest delay count counted. read_ranges s at largest delay count counted xs) h

by_one : (s xs : List ℕ) (h : Result Header Refusal) → after_header s h xs ≡ read_after s xs h
by_one s xs (Err refusal) = refl
by_one s xs (Ok h) = refl

fields-first : {R : Type 0} (kind : ℕ) (s : List ℕ) (at0 : ℕ) (fault : Refusal → R) (f : ℕ → ℕ → ℕ → ℕ → Bool → R)
    → ack_fields_at kind s at0 (fault Ends) f ≡ by_header fault f (read_header_at kind s at0)
fields-first {R} kind s at0 fault f =
    field_both Same (read_number s at0) refl (λ largest at1.
    field_both Same (read_number s at1) refl (λ delay at2.
    field_both Same (read_number s at2) refl (λ count at3. refl)))
  where
    Same : R → Result Header Refusal → Type 0
    Same r h = r ≡ by_header fault f h

header-first : {R : Type 0} (s : List ℕ) (fault : Refusal → R) (f : ℕ → ℕ → ℕ → ℕ → Bool → R) → ack_fields s (fault Ends) (fault OtherType) f ≡ by_header fault f (read_header s)
header-first {R} s fault f =
    formed-both Same (read_number s 0) refl (λ kind at0 shortest.
    pick-both Same (is_ack kind)
    (pick-both Same shortest (fields-first kind s at0 fault f) refl)
    refl)
  where
    Same : R → Result Header Refusal → Type 0
    Same r h = r ≡ by_header fault f h

-- what a header leads to, by what is known of it
pub read-on : (s xs : List ℕ) {h v : Result Header Refusal} → h ≡ v → after_header s v xs ≡ after_header s h xs
read-on s xs t = ap (λ (w : Result Header Refusal). after_header s w xs) (sym t)

-- the reader's answer is what its header leads to, where it is handed the type
pub read-by-as : (kind : ℕ) (s xs : List ℕ) {h : Result Header Refusal} → h ≡ read_header_as kind s → after_header s h xs ≡ read_ack_as kind s xs
read-by-as kind s xs e =
    read-on s xs (sym e)
    ∙ pick-both Same (is_ack kind)
    (by_one s xs (read_header_at kind s 0) ∙ sym (fields-first kind s 0 (λ refusal. refused refusal xs) (reads_on s xs)))
    refl
  where
    Same : Result Header Refusal → AckRead → Type 0
    Same h r = after_header s h xs ≡ r

abbrev pub check_after : List ℕ → Result Header Refusal → Result Checked Refusal
check_after s h = by_header Err (check_ranges s) h

-- h is what reading the numbers answers
module _ (s : List ℕ) {h : Result Header Refusal} (e : h ≡ read_header s) where
  pub checked-by : {v : Result Header Refusal} → h ≡ v → check_after s v ≡ check_ack s
  checked-by t = ap (check_after s) (sym t ∙ e) ∙ sym (header-first s Err (check_ranges s))

  pub read_by : (xs : List ℕ) {v : Result Header Refusal} → h ≡ v → read_after s xs v ≡ read_ack s xs
  read_by xs t = ap (read_after s xs) (sym t ∙ e) ∙ sym (header-first s (λ refusal. refused refusal xs) (λ at largest delay count counted. read_ranges s at largest delay count counted xs))

  -- and where it reads it
  pub read-by-header : (xs : List ℕ) → after_header s h xs ≡ read_ack s xs
  read-by-header xs = by_one s xs h ∙ read_by xs refl

-- ---- the ranges one by one

pub range-by-range : (left : ℕ) (s : List ℕ) (at largest : ℕ) → RangeByRange left s at largest
range-by-range left s at largest = record {
  cut = λ t. sym (step_fault left s at largest refl t);
  low = λ t. sym (step_fault left s at largest refl t);
  last = λ smallest lower next t z. sym (step-last left s at largest refl t z);
  more = λ smallest lower next t h. sym (step-more left s at largest refl t h);
}

-- a step goes down
Falls : ℕ → Result Range Refusal → Type 0
Falls high (Ok r) = (r.smallest ≤ high) × (r.below ≤ high)
Falls high (Err refusal) = Unit

falls : (left : ℕ) (s : List ℕ) (at high : ℕ) → Falls high (read_range left s at high)
unfolding read_range Falls
falls zero s at high =
    field-all (Falls high) (read_number s at) tt (λ len mid.
    pick_all (Falls high) (leb len high) (omega arith, omega arith) tt)
falls (suc left) s at high =
    field-all (Falls high) (read_number s at) tt (λ len mid.
    pick_all (Falls high) (leb len high)
    (field-all (Falls high) (read_number s mid) tt (λ gap to.
    pick_all (Falls high) (leb (gap + 2) (high - len)) (omega arith, omega arith) tt))
    tt)

pub step_falls : (left : ℕ) (s : List ℕ) (at high : ℕ) {r : Result Range Refusal} {lo lower next : ℕ} → r ≡ read_range left s at high → r ≡ step lo lower next → (lo ≤ high) × (lower ≤ high)
unfolding Falls
step_falls left s at high e t = subst (Falls high) (sym e ∙ t) (falls left s at high)

-- ---- an accepted frame's walk is whole

IsWalked : List ℕ → Result Checked Refusal → Type 0
IsWalked s (Ok c) = IsWhole (ranges_from c.count s c.at c.largest).walk
IsWalked s (Err refusal) = Unit

rest-walked : (s : List ℕ) (at largest delay count : ℕ) (w : Result Ending Refusal) → IsWhole (ranges_from count s at largest).walk → IsWalked s (checked_rest at largest delay count w)
unfolding IsWalked
rest-walked s at largest delay count (Err refusal) h = tt
rest-walked s at largest delay count (Ok e) h = h

ranges-walked : (s : List ℕ) (at largest delay count : ℕ) (counted : Bool) → IsWalked s (check_ranges s at largest delay count counted)
unfolding IsWalked
ranges-walked s at largest delay count counted = go (ranges_from count s at largest).walk refl
  where
    go : (w : Result ℕ Refusal) → (ranges_from count s at largest).walk ≡ w → IsWalked s (checked_rest at largest delay count (read_rest counted s w))
    go (Err refusal) t = tt
    go (Ok used) t = rest-walked s at largest delay count (read_tail counted s used) (subst IsWhole (sym t) refl)

is-walked : (s : List ℕ) → IsWalked s (check_ack s)
unfolding IsWalked
is-walked s =
    formed-all (IsWalked s) (read_number s 0) tt (λ kind at0 shortest.
    pick_all (IsWalked s) (is_ack kind)
    (pick_all (IsWalked s) shortest
    (field-all (IsWalked s) (read_number s at0) tt (λ largest at1.
    field-all (IsWalked s) (read_number s at1) tt (λ delay at2.
    field-all (IsWalked s) (read_number s at2) tt (λ count at3.
    ranges-walked s at3 largest delay count (eqb kind counts_type)))))
    tt)
    tt)

pub whole : (s : List ℕ) {k : Result Checked Refusal} {largest delay at count used : ℕ} {tail : Option Counts} → k ≡ check_ack s → k ≡ checked largest delay at count used tail
    → IsWhole (ranges_from count s at largest).walk
unfolding IsWalked
whole s e t = subst (IsWalked s) (sym e ∙ t) (is-walked s)
