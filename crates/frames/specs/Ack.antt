-- "Three frames": ACK (RFC 9000 section 19.3), its ranges, the counts after them (02, No. 2), and the lent slice that the ranges are written to.
use Rattle.std.specs.Prelude.{ℕ, zero, suc, ◌+◌, ◌-◌, ◌*◌, ◌/◌, ◌≤◌, ◌≡◌, Bool, true, false, List, [], ◌∷◌, ◌++◌, Option, Some, None, Result, Ok, Err, IsOk, leb, eqb, length}
use Rattle.wire.specs.Bytes.{pick, splice}
use Rattle.wire.specs.Fields.{field}
use Rattle.wire.specs.Numbers.{limit, read_number}
use Rattle.wire.specs.declared.Refusal.{Refusal}
use Rattle.wire.specs.declared.Refusal.TheVariants.{Ends, OtherType, NoRoom, BelowZero}
use Rattle.frames.specs.declared.Range.{Range}
use Rattle.frames.specs.declared.Counts.{Counts}
use Rattle.frames.specs.declared.Ending.{Ending}
use Rattle.frames.specs.declared.Ack.{Ack}
use Rattle.frames.specs.declared.Header.{Header}
use Rattle.frames.specs.declared.Checked.{Checked}
use Rattle.frames.specs.Types.{ack_type, counts_type, ack_types, typed, typed_as}

-- ---- the ranges

-- the ranges up to the end or the first fault: smallest and largest of each, newest first, and how the walk ends
pub record Ranges : Type 0 where
  pub pairs : List ℕ
  pub walk : Result ℕ Refusal

-- no range more
abbrev pub ended : Result ℕ Refusal → Ranges
ended w = record { pairs = []; walk = w }

-- a range, and those after it
abbrev pub before : ℕ → ℕ → Ranges → Ranges
before smallest largest r = record { pairs = smallest ∷ largest ∷ r.pairs; walk = r.walk }

-- a range's smallest, from its largest and the length at at; cut, low: what the two faults give
abbrev pub smallest_at : {R : Type 0} → List ℕ → ℕ → ℕ → R → R → (ℕ → ℕ → R) → R
smallest_at s at largest cut low f =
    field (read_number s at) cut (λ len next.
    pick (leb len largest) (f (largest - len) next) low)

-- "The next range's largest is the previous range's smallest minus gap minus 2"
abbrev pub largest_at : {R : Type 0} → List ℕ → ℕ → ℕ → R → R → (ℕ → ℕ → R) → R
largest_at s at smallest cut low f =
    field (read_number s at) cut (λ gap next.
    pick (leb (gap + 2) smallest) (f (smallest - gap - 2) next) low)

-- a range by its largest; what f makes of its smallest and the next place comes after it
abbrev pub range : List ℕ → ℕ → ℕ → (ℕ → ℕ → Ranges) → Ranges
range s at largest f =
    smallest_at s at largest (ended (Err Ends)) (ended (Err BelowZero)) (λ smallest next. before smallest largest (f smallest next))

-- the ranges below a range
abbrev pub below : List ℕ → ℕ → ℕ → (ℕ → ℕ → Ranges) → Ranges
below s at smallest f = largest_at s at smallest (ended (Err Ends)) (ended (Err BelowZero)) f

-- "first range, then gap and length pairs", as many as the range count says
unfoldable pub ranges_from : ℕ → List ℕ → ℕ → ℕ → Ranges
ranges_from zero s at largest = range s at largest (λ smallest next. ended (Ok next))
ranges_from (suc count) s at largest =
    range s at largest (λ smallest mid. below s mid smallest (λ lower next. ranges_from count s next lower))

-- a range's smallest, the largest of the one below it, and the place after
abbrev pub step : ℕ → ℕ → ℕ → Result Range Refusal
step smallest lower next = Ok (record { smallest = smallest; below = lower; next = next })

-- one step of that walk: a range and, where some are left, the gap after it
unfoldable pub read_range : ℕ → List ℕ → ℕ → ℕ → Result Range Refusal
read_range zero s at largest = smallest_at s at largest (Err Ends) (Err BelowZero) (λ smallest next. step smallest 0 next)
read_range (suc left) s at largest =
    smallest_at s at largest (Err Ends) (Err BelowZero) (λ smallest mid.
    largest_at s mid smallest (Err Ends) (Err BelowZero) (λ lower next.
    step smallest lower next))

-- the walk came to its end
abbrev pub IsWhole : Result ℕ Refusal → Type 0
IsWhole walk = IsOk walk

-- ys is xs with the ranges of a whole walk, where xs has room for all of them
abbrev pub Filled : ℕ → List ℕ → ℕ → ℕ → List ℕ → List ℕ → Type 0
Filled count s at largest xs ys =
    IsWhole (ranges_from count s at largest).walk → 2 * (count + 1) ≤ length xs → ys ≡ splice xs 0 (ranges_from count s at largest).pairs

-- ---- what comes after the ranges: nothing for type 02, and "then three ECN counts" for type 03 (02, No. 2)

-- what came after the ranges, and the place after that
abbrev pub ending : Option Counts → ℕ → Result Ending Refusal
ending tail used = Ok (record { tail = tail; used = used })

-- "ECT0 Count (i), ECT1 Count (i), ECN-CE Count (i)" (RFC 9000 section 19.3.2)
unfoldable pub read_tail : Bool → List ℕ → ℕ → Result Ending Refusal
read_tail false s at = ending None at
read_tail true s at =
    field (read_number s at) (Err Ends) (λ ect0 at1.
    field (read_number s at1) (Err Ends) (λ ect1 at2.
    field (read_number s at2) (Err Ends) (λ ce used.
    ending (Some (record { ect0 = ect0; ect1 = ect1; ce = ce })) used)))

-- after a walk over the ranges that ended so
abbrev pub read_rest : Bool → List ℕ → Result ℕ Refusal → Result Ending Refusal
read_rest counted s (Err refusal) = Err refusal
read_rest counted s (Ok used) = read_tail counted s used

-- ---- the reader

-- the answer, and the lent slice after it
pub record AckRead : Type 0 where
  pub answer : Result Ack Refusal
  pub slice : List ℕ

-- an ACK that was read
abbrev pub ack : ℕ → ℕ → ℕ → ℕ → Option Counts → Result Ack Refusal
ack largest delay ranges used tail = Ok (record { largest = largest; delay = delay; ranges = ranges; used = used; tail = tail })

-- a refusal "writes no element of a lent buffer"
abbrev pub refused : Refusal → List ℕ → AckRead
refused refusal xs = record { answer = Err refusal; slice = xs }

-- "checks the whole frame, 2 and 14 included, before it judges room": two elements for each range
abbrev pub after_rest : Result Ending Refusal → ℕ → ℕ → ℕ → List ℕ → List ℕ → AckRead
after_rest (Err refusal) largest delay count pairs xs = refused refusal xs
after_rest (Ok end) largest delay count pairs xs =
    pick (leb (2 * (count + 1)) (length xs))
    (record { answer = ack largest delay (count + 1) end.used end.tail; slice = splice xs 0 pairs })
    (refused NoRoom xs)

-- the ranges from at on and what comes after them, and what is made of it
unfoldable pub read_ranges : List ℕ → ℕ → ℕ → ℕ → ℕ → Bool → List ℕ → AckRead
read_ranges s at largest delay count counted xs =
    after_rest (read_rest counted s (ranges_from count s at largest).walk) largest delay count (ranges_from count s at largest).pairs xs

-- "largest, delay, range count", from at0 on; cut: what their fault gives
abbrev pub ack_fields_at : {R : Type 0} → ℕ → List ℕ → ℕ → R → (ℕ → ℕ → ℕ → ℕ → Bool → R) → R
ack_fields_at kind s at0 cut f =
    field (read_number s at0) cut (λ largest at1.
    field (read_number s at1) cut (λ delay at2.
    field (read_number s at2) cut (λ count at3.
    f at3 largest delay count (eqb kind counts_type))))

-- "type 02, largest, delay, range count"; cut, other: what the two faults give
abbrev pub ack_fields : {R : Type 0} → List ℕ → R → R → (ℕ → ℕ → ℕ → ℕ → Bool → R) → R
ack_fields s cut other f =
    typed ack_types s cut other (λ kind at0.
    field (read_number s at0) cut (λ largest at1.
    field (read_number s at1) cut (λ delay at2.
    field (read_number s at2) cut (λ count at3.
    f at3 largest delay count (eqb kind counts_type)))))

-- the same of the bytes after a type that was read already
abbrev pub ack_fields_as : {R : Type 0} → ℕ → List ℕ → R → R → (ℕ → ℕ → ℕ → ℕ → Bool → R) → R
ack_fields_as kind s cut other f = typed_as ack_types kind other (ack_fields_at kind s 0 cut f)

-- those fields by themselves
abbrev pub numbers_of : ℕ → ℕ → ℕ → ℕ → Bool → Result Header Refusal
numbers_of at largest delay count counted = Ok (record { largest = largest; delay = delay; count = count; at = at; counted = counted })

abbrev pub read_header_at : ℕ → List ℕ → ℕ → Result Header Refusal
read_header_at kind s at = ack_fields_at kind s at (Err Ends) numbers_of

abbrev pub read_header : List ℕ → Result Header Refusal
read_header s = ack_fields s (Err Ends) (Err OtherType) numbers_of

abbrev pub read_header_as : ℕ → List ℕ → Result Header Refusal
read_header_as kind s = ack_fields_as kind s (Err Ends) (Err OtherType) numbers_of

-- then the ranges; type 03 has "the same fields, then three ECN counts"
abbrev pub read_ack : List ℕ → List ℕ → AckRead
read_ack s xs =
    ack_fields s (refused Ends xs) (refused OtherType xs) (λ at largest delay count counted.
    read_ranges s at largest delay count counted xs)

-- the same of the bytes after a type that was read already
abbrev pub read_ack_as : ℕ → List ℕ → List ℕ → AckRead
read_ack_as kind s xs =
    ack_fields_as kind s (refused Ends xs) (refused OtherType xs) (λ at largest delay count counted.
    read_ranges s at largest delay count counted xs)

-- what a header's answer leads to
abbrev pub after_header : List ℕ → Result Header Refusal → List ℕ → AckRead
after_header s (Err refusal) xs = refused refusal xs
after_header s (Ok h) xs = read_ranges s h.at h.largest h.delay h.count h.counted xs

-- ---- the same check without a slice, for a caller who walks over the ranges itself

abbrev pub checked : ℕ → ℕ → ℕ → ℕ → ℕ → Option Counts → Result Checked Refusal
checked largest delay at count used tail = Ok (record { largest = largest; delay = delay; at = at; count = count; used = used; tail = tail })

abbrev pub checked_rest : ℕ → ℕ → ℕ → ℕ → Result Ending Refusal → Result Checked Refusal
checked_rest at largest delay count (Err refusal) = Err refusal
checked_rest at largest delay count (Ok end) = checked largest delay at count end.used end.tail

abbrev pub check_ranges : List ℕ → ℕ → ℕ → ℕ → ℕ → Bool → Result Checked Refusal
check_ranges s at largest delay count counted =
    checked_rest at largest delay count (read_rest counted s (ranges_from count s at largest).walk)

abbrev pub check_ack : List ℕ → Result Checked Refusal
check_ack s = ack_fields s (Err Ends) (Err OtherType) (check_ranges s)

-- the whole frame is checked, then the room is judged
abbrev pub after_check : List ℕ → Result Checked Refusal → List ℕ → AckRead
after_check s (Err refusal) xs = refused refusal xs
after_check s (Ok c) xs =
    after_rest (ending c.tail c.used) c.largest c.delay c.count (ranges_from c.count s c.at c.largest).pairs xs

-- ---- the numbers of a frame that says given ranges: smallest and largest of each, newest first

-- the gap and the length of each range below the smallest of the one before it
unfoldable pub gaps_from : ℕ → List ℕ → List ℕ
gaps_from above [] = []
gaps_from above (smallest ∷ []) = []
gaps_from above (smallest ∷ largest ∷ pairs) = (above - largest - 2) ∷ (largest - smallest) ∷ gaps_from smallest pairs

-- "type 02, largest, delay, range count, first range, then gap and length pairs"; the count is of the ranges after the first
unfoldable pub range_numbers : ℕ → ℕ → List ℕ → List ℕ
range_numbers kind delay [] = []
range_numbers kind delay (smallest ∷ []) = []
range_numbers kind delay (smallest ∷ largest ∷ pairs) =
    kind ∷ largest ∷ delay ∷ (length pairs / 2) ∷ (largest - smallest) ∷ gaps_from smallest pairs

-- the type of a frame with that tail, and the numbers of the tail
abbrev pub type_of : Option Counts → ℕ
type_of None = ack_type
type_of (Some c) = counts_type

abbrev pub counts_of : Option Counts → List ℕ
counts_of None = []
counts_of (Some c) = c.ect0 ∷ c.ect1 ∷ c.ce ∷ []

-- "the same fields, then three ECN counts": one frame for both types
abbrev pub ack_numbers : Option Counts → ℕ → List ℕ → List ℕ
ack_numbers tail delay pairs = range_numbers (type_of tail) delay pairs ++ counts_of tail

-- each range holds a number, and a number is missing between it and the one above
unfoldable pub RangesBelow : ℕ → List ℕ → Type 0
RangesBelow above [] = Unit
RangesBelow above (smallest ∷ []) = ⊥
RangesBelow above (smallest ∷ largest ∷ pairs) = (smallest ≤ largest) × (largest + 2 ≤ above) × RangesBelow smallest pairs

-- one range or more, of numbers up to the limit
unfoldable pub AckRanges : List ℕ → Type 0
AckRanges [] = ⊥
AckRanges (smallest ∷ []) = ⊥
AckRanges (smallest ∷ largest ∷ pairs) = (smallest ≤ largest) × (largest ≤ limit) × RangesBelow smallest pairs
