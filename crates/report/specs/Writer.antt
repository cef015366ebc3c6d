-- The writer: what it judges and in which order, how many records it keeps, and the bytes.
use Rattle.std.specs.Prelude.{ℕ, ◌+◌, ◌-◌, ◌/◌, List, [], ◌∷◌, ◌++◌, Result, Ok, Err, leb, length}
use Rattle.wire.specs.Bytes.{pick, splice}
use Rattle.wire.specs.Numbers.{encode_all, all_small}
use Rattle.wire.specs.declared.Refusal.{Refusal}
use Rattle.wire.specs.declared.Refusal.TheVariants.{TooLarge, NoRoom, BrokenCount, OtherProfile}
use Rattle.entries.specs.Limits.{most_entries}
use Rattle.entries.specs.Entries.{entries_fault}
use Rattle.entries.specs.Fitting.{size_of, fitting_of, last_of}
use Rattle.entries.specs.Profiles.{record_size, of_profile}
use Rattle.report.specs.Header.{heeding, first_fault, numbers_of}
use Rattle.entries.specs.declared.Profile.{Profile}
use Rattle.report.specs.declared.Header.{Header}
use Rattle.report.specs.declared.Written.{Written}

-- what was written: the place after it, and how many records were kept
abbrev pub done : ℕ → ℕ → Result Written Refusal
done next kept = Ok (record { next = next; kept = kept })

-- how long the report is with k records behind a head of so many bytes
abbrev pub report_size : Profile → ℕ → ℕ → ℕ
report_size p head k = head + size_of p k

-- "the longest run of last records" that fits, at most the maximum
abbrev pub kept_of : Profile → List ℕ → List ℕ → ℕ → ℕ → ℕ
kept_of p ns entries maximum room = fitting_of p (length entries / record_size p) maximum (room - length (encode_all ns))

-- "room (9)": the report with no record is the smallest
abbrev pub fitted : Profile → List ℕ → List ℕ → ℕ → ℕ → Result Written Refusal
fitted p ns entries maximum room =
    pick (leb (report_size p (length (encode_all ns)) 0) room)
    (done (report_size p (length (encode_all ns)) (kept_of p ns entries maximum room)) (kept_of p ns entries maximum room))
    (Err NoRoom)

-- "numbers (5 ..), the sum (11), metric count and types (10), an entry length .. (12), .. (10), each record (12), room (9)";
-- "10 for a maximum above 200, right after the metric types" (02, No. 8)
unfoldable pub planned : Profile → List ℕ → List ℕ → ℕ → ℕ → Result Written Refusal
planned p ns entries maximum room =
    pick (all_small ns)
    (heeding (first_fault p ns) Err
    (pick (leb maximum most_entries)
    (heeding (entries_fault p entries) Err
    (fitted p ns entries maximum room))
    (Err BrokenCount)))
    (Err TooLarge)

abbrev pub write_answer : Profile → Header → List ℕ → ℕ → ℕ → Result Written Refusal
write_answer p h entries maximum room = planned p (numbers_of p h) entries maximum room

-- by the number that the caller passes: "18 for a profile other than 1 or 2, first" (02, No. 10)
abbrev pub answer_by : ℕ → Header → List ℕ → ℕ → ℕ → Result Written Refusal
answer_by n h entries maximum room = of_profile n (Err OtherProfile) (λ p. write_answer p h entries maximum room)

-- the report: the numbers, the number kept, and that many last records
abbrev pub report_bytes : Profile → List ℕ → List ℕ → ℕ → List ℕ
report_bytes p ns entries k = encode_all (ns ++ (k ∷ [])) ++ last_of p entries k

-- the lent buffer after the answer: the report and the bytes that stood behind it, or as it was
unfoldable pub stored_as : Profile → Result Written Refusal → List ℕ → List ℕ → List ℕ → List ℕ
stored_as p (Ok written) ns entries xs = splice xs 0 (report_bytes p ns entries written.kept)
stored_as p (Err refusal) ns entries xs = xs

abbrev pub write_bytes : Profile → Header → List ℕ → ℕ → List ℕ → List ℕ
write_bytes p h entries maximum xs = stored_as p (write_answer p h entries maximum (length xs)) (numbers_of p h) entries xs

abbrev pub bytes_by : ℕ → Header → List ℕ → ℕ → List ℕ → List ℕ
bytes_by n h entries maximum xs = of_profile n xs (λ p. write_bytes p h entries maximum xs)
