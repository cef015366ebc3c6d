-- "1 for a record whose parts disagree or break 5": which records are served.
use Rattle.std.specs.Prelude.{ℕ, ◌+◌, ◌-◌, ◌*◌, Bool, true, false, ◌&&◌, List, is_ok, is_err, eqb, leb, ltb, length, get_or}
use Rattle.wire.specs.Bytes.{pick}
use Rattle.wire.specs.Numbers.{limit, all_small, read_number}
use Rattle.entries.specs.Profiles.{record_size, of_profile}
use Rattle.entries.specs.declared.Profile.{Profile}
use Rattle.entries.specs.declared.Profile.TheVariants.{One, Two}
use Rattle.report.specs.Limits.{most_numbers}
use Rattle.report.specs.Header.{first_fault, wanted_of, count_of}
use Rattle.uncut.specs.State.{State, Numbers, Records, Counting, Refused, Accepted}
use Rattle.pieces.specs.Record.{Stand, most_carried, stand_at, state_in}

-- numbers of a header: none breaks 5, and none brings a fault
unfoldable pub numbers_fit : Profile → List ℕ → Bool
numbers_fit p ns = all_small ns && is_ok (first_fault p ns)

-- the refusals that stand: those of 01 and No. 5 that a report brings
abbrev pub can_stand : ℕ → Bool
can_stand n = pick (eqb n 2) true (pick (eqb n 10) true (pick (eqb n 11) true (pick (eqb n 12) true (pick (eqb n 13) true (eqb n 15)))))

-- a further number is wanted, and the bytes that are carried are no whole field
unfoldable pub field_fit : Profile → List ℕ → List ℕ → Bool
field_fit p ns held = ltb (length ns) (wanted_of p ns) && is_err (read_number held 0)

-- they are all that their header has
abbrev pub is_whole : Profile → List ℕ → Bool
is_whole p ns = eqb (length ns) (wanted_of p ns)

-- groups are those of profile 2, "at most 2^62 - 1"
abbrev pub largest_group : Profile → ℕ
largest_group One = 0
largest_group Two = limit

-- the place of the record before is one: its group, and one past its object number. Before the first record, while as many are left as
-- the header counts, there is none
unfoldable pub place_fit : Profile → ℕ → ℕ → ℕ → ℕ → Bool
place_fit p count left last above =
    pick (eqb left count) (eqb last 0 && eqb above 0)
    (leb last (largest_group p) && (ltb 0 above && leb above (limit + 1)))

-- a record that is carried is unfinished; nothing is carried where none is left
abbrev pub carried_fit : Profile → ℕ → ℕ → Bool
carried_fit p left carried = pick (eqb left 0) (eqb carried 0) (ltb carried (record_size p))

-- no more records are left than the header counts, and what is known of the others agrees with it
unfoldable pub rows_fit : Profile → ℕ → ℕ → ℕ → ℕ → ℕ → Bool
rows_fit p count left last above carried = leb left count && (place_fit p count left last above && carried_fit p left carried)

-- a bad record is one of those that the header counts, and no more bytes are left than the others have
unfoldable pub counted_fit : Profile → ℕ → ℕ → Bool
counted_fit p count left = ltb 0 count && leb left (record_size p * (count - 1))

unfoldable pub fit : Profile → State → Bool
fit p (Numbers ns held) = numbers_fit p ns && field_fit p ns held
fit p (Records ns n last above held) = numbers_fit p ns && (is_whole p ns && rows_fit p (count_of ns) n last above (length held))
fit p (Counting ns n) = numbers_fit p ns && (is_whole p ns && counted_fit p (count_of ns) n)
fit p (Refused n) = can_stand n
fit p (Accepted ns) = numbers_fit p ns && is_whole p ns

-- the words of a profile: within their places, and fit
unfoldable pub stand_fit : Profile → Stand → Bool
stand_fit p s = leb s.stage 4 && (leb s.count most_numbers && (leb s.carried most_carried && fit p (state_in s)))

unfoldable pub consistent : List ℕ → Bool
consistent w = of_profile (get_or w 0 0) false (λ p. stand_fit p (stand_at w))
