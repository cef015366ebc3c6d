-- A file of reports: "each after a four-byte length with the high byte first", whole, and piece by piece.
use Rattle.std.specs.Prelude.{ℕ, zero, suc, ◌+◌, ◌-◌, min, List, [], ◌∷◌, Result, Ok, Err, eqb, leb, ltb, length, take, drop, replicate}
use Rattle.wire.specs.Bytes.{pick, be, splice}
use Rattle.wire.specs.Fields.{read_fixed}
use Rattle.wire.specs.declared.Fixed.{Fixed}
use Rattle.wire.specs.declared.Refusal.{Refusal}
use Rattle.totals.specs.declared.Totals.{Totals}
use Rattle.totals.specs.declared.Standing.{Standing}
use Rattle.totals.specs.declared.Taken.{Taken}
use Rattle.totals.specs.declared.Step.{Step}
use Rattle.totals.specs.declared.Added.{Added}
use Rattle.totals.specs.Totals.{longest, too_long, number_of, places}
use Rattle.totals.specs.Adding.{refused_brings, with, added}

-- ---- the whole file

abbrev pub length_size : ℕ
length_size = 4

-- "a four-byte length with the high byte first"
abbrev pub length_at : List ℕ → ℕ
length_at s = be 0 (take length_size s)

-- the bytes of the report behind its length, and what follows them
abbrev pub report_at : List ℕ → List ℕ
report_at s = take (length_at s) (drop length_size s)

abbrev pub behind : List ℕ → List ℕ
behind s = drop (length_size + length_at s) s

-- the reports of a file in their order, or that it ends early: in a length or in a report
pub data Cut : Type 0 where
  Reports : List (List ℕ) → Cut
  EndsEarly : Cut

abbrev pub before : List ℕ → Cut → Cut
before r (Reports rs) = Reports (r ∷ rs)
before r EndsEarly = EndsEarly

-- at most n reports; a file has no more of them than bytes
unfoldable pub cut_from : ℕ → List ℕ → Cut
cut_from zero s = Reports []
cut_from (suc n) s =
    pick (eqb (length s) 0) (Reports [])
    (pick (leb (length_size + length_at s) (length s)) (before (report_at s) (cut_from n (behind s))) EndsEarly)

abbrev pub cut : List ℕ → Cut
cut s = cut_from (length s) s

-- ---- a piece of it

-- no report yet
unfoldable pub start : Standing
start = record { totals = record { sums = replicate places 0; full = replicate places 0 }; skip = 0 }

-- "20 for a report longer than 8,192 bytes, which is skipped"
unfoldable pub with_long : Totals → Totals
with_long t = with t (refused_brings too_long)

abbrev pub nothing : Standing → Taken
nothing st = record { next = st; used = 0 }

-- skipping takes as many bytes as there are
abbrev pub skipped : Standing → ℕ → Taken
skipped st n = record { next = record { totals = st.totals; skip = st.skip - n }; used = n }

-- a report of so many bytes that is whole is taken, and of one that is too long its length
abbrev pub one_report : Standing → List ℕ → ℕ → Taken
one_report st s n =
    pick (leb n longest)
    (pick (leb (length_size + n) (length s))
    (record { next = record { totals = added st.totals (take n (drop length_size s)); skip = 0 }; used = length_size + n }) (nothing st))
    (record { next = record { totals = with_long st.totals; skip = n }; used = length_size })

-- the length is whole, or nothing is taken
abbrev pub behind_length : Result Fixed Refusal → Standing → List ℕ → Taken
behind_length (Ok field) st s = one_report st s field.value
behind_length (Err refusal) st s = nothing st

-- one step: bytes to be skipped, or a report behind its length
unfoldable pub step_of : Standing → List ℕ → Taken
step_of st s =
    pick (ltb 0 st.skip) (skipped st (min st.skip (length s)))
    (behind_length (read_fixed length_size s 0) st s)

-- a step that leaves the totals in lent sums
abbrev pub stepped : Totals → Step → Taken
stepped t k = record { next = record { totals = t; skip = k.skip }; used = k.used }

-- at most n steps, as long as they take something; at is how many bytes were taken before
unfoldable pub taken_from : ℕ → Standing → List ℕ → ℕ → Taken
taken_from zero st s at = record { next = st; used = at }
taken_from (suc n) st s at =
    pick (eqb (step_of st s).used 0) (record { next = st; used = at })
    (taken_from n (step_of st s).next (drop (step_of st s).used s) (at + (step_of st s).used))

-- all that is whole at the start of s; each step takes a byte or more
abbrev pub taken : Standing → List ℕ → Taken
taken st s = taken_from (length s) st s 0

-- a report that is handed over by itself: the number under which it is counted, and the totals with it
unfoldable pub reported : Standing → List ℕ → Added
reported st r = record { counted_as = number_of r; next = record { totals = added st.totals r; skip = st.skip } }

-- what stands from used up to end goes to the start of the buffer
abbrev pub moved : List ℕ → ℕ → ℕ → List ℕ
moved xs used end = pick (leb end (length xs)) (splice xs 0 (take (end - used) (drop used xs))) xs
