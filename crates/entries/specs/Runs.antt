-- How many records in a row are good, and what the last of them leaves for the next: what a reader asks that gets a report in parts.
use Rattle.std.specs.Prelude.{ℕ, zero, suc, ◌/◌, List, length, take, drop}
use Rattle.entries.specs.Profiles.{record_size}
use Rattle.entries.specs.Entries.{entry_of, follows_or}
use Rattle.entries.specs.declared.Profile.{Profile}
use Rattle.entries.specs.declared.Run.{Run}

abbrev pub run_to : ℕ → ℕ → ℕ → Run
run_to good last above = record { good = good; last = last; above = above }

-- of n records, counted on from good, up to the first that breaks the rule of a row
unfoldable pub run_from : Profile → ℕ → ℕ → ℕ → ℕ → List ℕ → Run
run_from p zero good last above s = run_to good last above
run_from p (suc n) good last above s =
    follows_or last above (entry_of p (take (record_size p) s)) (λ group next. run_from p n (suc good) group next (drop (record_size p) s)) (run_to good last above)

-- of all records that the bytes hold
abbrev pub run_of : Profile → ℕ → ℕ → List ℕ → Run
run_of p last above s = run_from p (length s / record_size p) 0 last above s
