-- What one byte more brings: the next state, and the record that it makes whole. Bytes one after the other are a fold over that.
use Rattle.std.specs.Prelude.{ℕ, zero, suc, ◌*◌, List, [], ◌∷◌, ◌++◌, Result, Ok, Err, leb, ltb, length}
use Rattle.wire.specs.Bytes.{pick}
use Rattle.wire.specs.Fields.{formed}
use Rattle.wire.specs.Numbers.{read_number}
use Rattle.wire.specs.Refusals.{number_of}
use Rattle.wire.specs.declared.Refusal.{Refusal}
use Rattle.entries.specs.Profiles.{record_size}
use Rattle.entries.specs.Entries.{entry_of, records_good}
use Rattle.entries.specs.declared.Profile.{Profile}
use Rattle.entries.specs.declared.Entry.{Entry}
use Rattle.report.specs.Header.{heeding, judge_field, wanted_of, count_of}
use Rattle.uncut.specs.State.{State, Numbers, Records, Counting, Refused, Accepted}

-- ---- the header

-- behind a number: a further field where one is wanted, otherwise the records that are counted
unfoldable pub with_number : Profile → List ℕ → State
with_number p ns = pick (leb (wanted_of p ns) (length ns)) (Records ns (count_of ns) 0 0 []) (Numbers ns [])

-- a refusal is carried as its number
abbrev pub refused : Refusal → State
refused refusal = Refused (number_of refusal)

-- the field is carried until it is whole; then the step of the whole reader judges it
unfoldable pub field_grown : Profile → List ℕ → List ℕ → State
field_grown p ns held =
    formed (read_number held 0) (Numbers ns held) (λ v next shortest.
    heeding (judge_field p ns v shortest) refused (with_number p (ns ++ (v ∷ []))))

-- ---- the entries

-- what a good record leaves for the next one
abbrev pub group_in : Result Entry Refusal → ℕ
group_in (Ok entry) = entry.group
group_in (Err refusal) = 0

abbrev pub above_in : Result Entry Refusal → ℕ
above_in (Ok entry) = suc entry.object
above_in (Err refusal) = 0

-- "After a bad record it delivers nothing more and counts the bytes on": those of the n records still to come
abbrev pub after_bad : Profile → List ℕ → ℕ → State
after_bad p ns n = Counting ns (record_size p * n)

-- a whole record, n more to come
unfoldable pub record_judged : Profile → List ℕ → ℕ → ℕ → ℕ → List ℕ → State
record_judged p ns n last above r =
    pick (records_good p 1 last above r) (Records ns n (group_in (entry_of p r)) (above_in (entry_of p r)) []) (after_bad p ns n)

-- the record is carried until it is whole
unfoldable pub record_grown : Profile → List ℕ → ℕ → ℕ → ℕ → List ℕ → State
record_grown p ns n last above held = pick (ltb (length held) (record_size p)) (Records ns (suc n) last above held) (record_judged p ns n last above held)

-- and is delivered if it is good
unfoldable pub record_given : Profile → ℕ → ℕ → List ℕ → List ℕ
record_given p last above held = pick (ltb (length held) (record_size p)) [] (pick (records_good p 1 last above held) held [])

-- ---- one byte

-- 13 comes with the first byte too many, and a refusal that stands stays
unfoldable pub step : Profile → State → ℕ → State
step p (Numbers ns held) b = field_grown p ns (held ++ (b ∷ []))
step p (Records ns zero last above held) b = Refused 13
step p (Records ns (suc n) last above held) b = record_grown p ns n last above (held ++ (b ∷ []))
step p (Counting ns zero) b = Counting ns zero
step p (Counting ns (suc n)) b = Counting ns n
step p (Refused n) b = Refused n
step p (Accepted ns) b = Accepted ns

-- the record that the byte makes whole, or nothing
unfoldable pub given : Profile → State → ℕ → List ℕ
given p (Numbers ns held) b = []
given p (Records ns zero last above held) b = []
given p (Records ns (suc n) last above held) b = record_given p last above (held ++ (b ∷ []))
given p (Counting ns n) b = []
given p (Refused n) b = []
given p (Accepted ns) b = []

-- ---- bytes one after the other

unfoldable pub after : Profile → State → List ℕ → State
after p st [] = st
after p st (b ∷ bs) = after p (step p st b) bs

unfoldable pub delivered : Profile → State → List ℕ → List ℕ
delivered p st [] = []
delivered p st (b ∷ bs) = given p st b ++ delivered p (step p st b) bs
