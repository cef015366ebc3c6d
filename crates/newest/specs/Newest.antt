-- The answer for a whole report.
use Rattle.std.specs.Prelude.{ℕ, ◌+◌, ◌*◌, List, Option, Result, Err, eqb, leb, length}
use Rattle.wire.specs.Bytes.{pick}
use Rattle.wire.specs.declared.Refusal.{Refusal}
use Rattle.wire.specs.declared.Refusal.TheVariants.{Ends, BytesRemain, OtherProfile}
use Rattle.entries.specs.Profiles.{record_size, of_profile}
use Rattle.entries.specs.declared.Profile.{Profile}
use Rattle.report.specs.Header.{count_of}
use Rattle.report.specs.Reader.{Reading, Whole, Stopped, read_numbers, part_of}
use Rattle.newest.specs.Search.{newest_in}
use Rattle.newest.specs.declared.Lost.{Lost}

-- what follows from the numbers: their refusal, too few bytes for the entries (2), "13 comes first if bytes remain", then the search
unfoldable pub after_numbers : Profile → List ℕ → Reading → Result (Option Lost) Refusal
after_numbers p s (Stopped refusal) = Err refusal
after_numbers p s (Whole ns at) =
    pick (leb (at + record_size p * count_of ns) (length s))
    (pick (eqb (at + record_size p * count_of ns) (length s)) (newest_in p (part_of p s ns at) (count_of ns)) (Err BytesRemain))
    (Err Ends)

abbrev pub newest_lost : Profile → List ℕ → Result (Option Lost) Refusal
newest_lost p s = after_numbers p s (read_numbers p s)

-- "Both profiles", by the number that the caller passes; 18 for another
abbrev pub newest_by : ℕ → List ℕ → Result (Option Lost) Refusal
newest_by n s = of_profile n (Err OtherProfile) (λ p. newest_lost p s)
