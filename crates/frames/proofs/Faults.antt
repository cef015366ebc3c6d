-- Which refusals the readers of frames give: none but those of their rows.
-- Assumes nothing.
use Prim.Native.Nat.{ℕ, zero, suc, ◌+◌, ◌-◌, ◌*◌}
use mathlib.Core.Path.{refl}
use mathlib.Core.Logic.{inl, inr, ⊎_elim}
use mathlib.Core.Bool.{Bool, true, false}
use mathlib.Core.List.{List, [], ◌∷◌}
use lib.Dec.{leb, eqb}
use lib.ListN.{length}
use Rattle.std.specs.Prelude.{Result, Ok, Err}
use Rattle.wire.specs.Numbers.{read_number}
use Rattle.wire.specs.Refusals.{refusal_number}
use Rattle.wire.specs.Exactly.{OneOf}
use Rattle.wire.specs.declared.Refusal.{Refusal}
use Rattle.wire.specs.declared.Refusal.TheVariants.{Ends, OtherType}
use Rattle.frames.specs.Types.{frequency_type, immediate_type, counts_type, among, typed, is_ack}
use Rattle.frames.specs.Frequency.{read_thresholds, read_frequency, read_frequency_as}
use Rattle.frames.specs.Immediate.{read_immediate}
use Rattle.frames.specs.Ack.{Ranges, ranges_from, read_range, read_tail, read_rest, AckRead, refused, after_rest, read_ranges, ack_fields_at, read_ack, read_ack_as, checked_rest, check_ack}
use Rattle.frames.specs.Exactly.{RangeReads}
use Rattle.frames.specs.declared.Ending.{Ending}
use Rattle.frames.proofs.Lent.{formed-all, field-all, pick_all}

-- an answer's number is one of these
abbrev pub Gives : {A : Type 0} → List ℕ → Result A Refusal → Type 0
Gives numbers answer = OneOf (refusal_number answer) numbers

-- ---- frames that judge nothing but their type

abbrev Plain : {A : Type 0} → Result A Refusal → Type 0
Plain answer = Gives (0 ∷ 2 ∷ 3 ∷ []) answer

typed-plain : {A : Type 0} (kinds s : List ℕ) (f : ℕ → ℕ → Result A Refusal) → ((kind at : ℕ) → Plain (f kind at)) → Plain (typed kinds s (Err Ends) (Err OtherType) f)
typed-plain kinds s f h =
    formed-all Plain (read_number s 0) (inr (inl refl)) (λ kind at shortest.
    pick_all Plain (among kind kinds) (pick_all Plain shortest (h kind at) (inr (inr (inl refl)))) (inr (inr (inl refl))))

thresholds-plain : (s : List ℕ) (at : ℕ) → Plain (read_thresholds s at)
thresholds-plain s at =
    field-all Plain (read_number s at) (inr (inl refl)) (λ q at1.
    field-all Plain (read_number s at1) (inr (inl refl)) (λ t at2.
    field-all Plain (read_number s at2) (inr (inl refl)) (λ d at3.
    field-all Plain (read_number s at3) (inr (inl refl)) (λ r used. inl refl))))

pub frequency-others : (s : List ℕ) → Plain (read_frequency s)
frequency-others s = typed-plain (frequency_type ∷ []) s (λ kind at. read_thresholds s at) (λ kind at. thresholds-plain s at)

pub frequency-others-as : (kind : ℕ) (s : List ℕ) → Plain (read_frequency_as kind s)
frequency-others-as kind s = pick_all Plain (among kind (frequency_type ∷ [])) (thresholds-plain s 0) (inr (inr (inl refl)))

pub immediate-others : (s : List ℕ) → Plain (read_immediate s)
immediate-others s = typed-plain (immediate_type ∷ []) s (λ kind used. Ok used) (λ kind used. inl refl)

-- ---- the ranges, one by one and all of them, and the counts

abbrev Inside : {A : Type 0} → Result A Refusal → Type 0
Inside answer = Gives (0 ∷ 2 ∷ 14 ∷ []) answer

abbrev InsideWalk : Ranges → Type 0
InsideWalk r = Inside r.walk

pub range-reads : RangeReads
unfolding read_range
range-reads zero s at high =
    field-all Inside (read_number s at) (inr (inl refl)) (λ len mid.
    pick_all Inside (leb len high) (inl refl) (inr (inr (inl refl))))
range-reads (suc left) s at high =
    field-all Inside (read_number s at) (inr (inl refl)) (λ len mid.
    pick_all Inside (leb len high)
    (field-all Inside (read_number s mid) (inr (inl refl)) (λ gap next.
    pick_all Inside (leb (gap + 2) (high - len)) (inl refl) (inr (inr (inl refl)))))
    (inr (inr (inl refl))))

walk-inside : (count : ℕ) (s : List ℕ) (at high : ℕ) → InsideWalk (ranges_from count s at high)
unfolding ranges_from
walk-inside zero s at high =
    field-all InsideWalk (read_number s at) (inr (inl refl)) (λ len mid.
    pick_all InsideWalk (leb len high) (inl refl) (inr (inr (inl refl))))
walk-inside (suc count) s at high =
    field-all InsideWalk (read_number s at) (inr (inl refl)) (λ len mid.
    pick_all InsideWalk (leb len high)
    (field-all InsideWalk (read_number s mid) (inr (inl refl)) (λ gap next.
    pick_all InsideWalk (leb (gap + 2) (high - len)) (walk-inside count s next (high - len - gap - 2)) (inr (inr (inl refl)))))
    (inr (inr (inl refl))))

tail-inside : (counted : Bool) (s : List ℕ) (at : ℕ) → Inside (read_tail counted s at)
unfolding read_tail
tail-inside false s at = inl refl
tail-inside true s at =
    field-all Inside (read_number s at) (inr (inl refl)) (λ ect0 at1.
    field-all Inside (read_number s at1) (inr (inl refl)) (λ ect1 at2.
    field-all Inside (read_number s at2) (inr (inl refl)) (λ ce used. inl refl)))

rest-inside : (counted : Bool) (s : List ℕ) (w : Result ℕ Refusal) → Inside w → Inside (read_rest counted s w)
rest-inside counted s (Err refusal) g = g
rest-inside counted s (Ok used) g = tail-inside counted s used

-- ---- ACK: checked, and read

abbrev Checks : {A : Type 0} → Result A Refusal → Type 0
Checks answer = Gives (0 ∷ 2 ∷ 3 ∷ 14 ∷ []) answer

checks : {n : ℕ} → OneOf n (0 ∷ 2 ∷ 14 ∷ []) → OneOf n (0 ∷ 2 ∷ 3 ∷ 14 ∷ [])
checks g = ⊎_elim inl (⊎_elim (λ e. inr (inl e)) (⊎_elim (λ e. inr (inr (inr (inl e)))) (λ z. absurd z))) g

checked-others : (at largest delay count : ℕ) (e : Result Ending Refusal) → Inside e → Checks (checked_rest at largest delay count e)
checked-others at largest delay count (Err refusal) g = checks g
checked-others at largest delay count (Ok e) g = inl refl

pub check-others : (s : List ℕ) → Checks (check_ack s)
check-others s =
    formed-all Checks (read_number s 0) (inr (inl refl)) (λ kind at0 shortest.
    pick_all Checks (is_ack kind)
    (pick_all Checks shortest
    (field-all Checks (read_number s at0) (inr (inl refl)) (λ largest at1.
    field-all Checks (read_number s at1) (inr (inl refl)) (λ delay at2.
    field-all Checks (read_number s at2) (inr (inl refl)) (λ count at3.
    checked-others at3 largest delay count (read_rest (eqb kind counts_type) s (ranges_from count s at3 largest).walk)
    (rest-inside (eqb kind counts_type) s (ranges_from count s at3 largest).walk (walk-inside count s at3 largest))))))
    (inr (inr (inl refl))))
    (inr (inr (inl refl))))

abbrev Answers : AckRead → Type 0
Answers r = Gives (0 ∷ 2 ∷ 3 ∷ 9 ∷ 14 ∷ []) r.answer

answers : {n : ℕ} → OneOf n (0 ∷ 2 ∷ 14 ∷ []) → OneOf n (0 ∷ 2 ∷ 3 ∷ 9 ∷ 14 ∷ [])
answers g = ⊎_elim inl (⊎_elim (λ e. inr (inl e)) (⊎_elim (λ e. inr (inr (inr (inr (inl e))))) (λ z. absurd z))) g

judged-others : (largest delay count : ℕ) (pairs xs : List ℕ) (e : Result Ending Refusal) → Inside e → Answers (after_rest e largest delay count pairs xs)
judged-others largest delay count pairs xs (Err refusal) g = answers g
judged-others largest delay count pairs xs (Ok e) g = pick_all Answers (leb (2 * (count + 1)) (length xs)) (inl refl) (inr (inr (inr (inl refl))))

ranges-others : (s : List ℕ) (at largest delay count : ℕ) (counted : Bool) (xs : List ℕ) → Answers (read_ranges s at largest delay count counted xs)
unfolding read_ranges
ranges-others s at largest delay count counted xs =
    judged-others largest delay count (ranges_from count s at largest).pairs xs (read_rest counted s (ranges_from count s at largest).walk)
    (rest-inside counted s (ranges_from count s at largest).walk (walk-inside count s at largest))

fields-others : (kind : ℕ) (s : List ℕ) (at : ℕ) (xs : List ℕ)
    → Answers (ack_fields_at kind s at (refused Ends xs) (λ at3 largest delay count counted. read_ranges s at3 largest delay count counted xs))
fields-others kind s at xs =
    field-all Answers (read_number s at) (inr (inl refl)) (λ largest at1.
    field-all Answers (read_number s at1) (inr (inl refl)) (λ delay at2.
    field-all Answers (read_number s at2) (inr (inl refl)) (λ count at3.
    ranges-others s at3 largest delay count (eqb kind counts_type) xs)))

pub ack-others : (s xs : List ℕ) → Answers (read_ack s xs)
ack-others s xs =
    formed-all Answers (read_number s 0) (inr (inl refl)) (λ kind at shortest.
    pick_all Answers (is_ack kind)
    (pick_all Answers shortest (fields-others kind s at xs) (inr (inr (inl refl))))
    (inr (inr (inl refl))))

pub ack-others-as : (kind : ℕ) (s xs : List ℕ) → Answers (read_ack_as kind s xs)
ack-others-as kind s xs = pick_all Answers (is_ack kind) (fields-others kind s 0 xs) (inr (inr (inl refl)))
