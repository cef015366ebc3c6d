-- The whole reader: "Readers go field by field and give the first fault".
use Rattle.std.specs.Prelude.{ℕ, zero, suc, ◌+◌, ◌*◌, List, [], ◌∷◌, ◌++◌, Result, Ok, Err, eqb, leb, length, take, drop}
use Rattle.wire.specs.Bytes.{pick}
use Rattle.wire.specs.Fields.{formed}
use Rattle.wire.specs.Numbers.{read_number}
use Rattle.wire.specs.Refusals.{number_of}
use Rattle.wire.specs.declared.Refusal.{Refusal}
use Rattle.wire.specs.declared.Refusal.TheVariants.{Ends, BrokenEntry, BytesRemain, OtherProfile}
use Rattle.report.specs.Limits.{most_numbers}
use Rattle.entries.specs.Profiles.{record_size, of_profile}
use Rattle.report.specs.Header.{unless, heeding, judge_field, wanted_of, count_of, header_of, empty_header}
use Rattle.entries.specs.Entries.{entries_good}
use Rattle.entries.specs.declared.Profile.{Profile}
use Rattle.report.specs.declared.NumbersRead.{NumbersRead}
use Rattle.report.specs.declared.Report.{Report}

-- the numbers and the place after them, or a refusal
pub data Reading : Type 0 where
  Whole : List ℕ → ℕ → Reading
  Stopped : Refusal → Reading

-- one number more, up to n, and each judged as soon as it is read; "Report readers refuse a longer form" (02, No. 5)
unfoldable pub numbers_from : Profile → ℕ → List ℕ → ℕ → List ℕ → Reading
numbers_from p zero s at ns = Whole ns at
numbers_from p (suc n) s at ns =
    pick (leb (wanted_of p ns) (length ns)) (Whole ns at)
    (formed (read_number s at) (Stopped Ends) (λ v next shortest.
    heeding (judge_field p ns v shortest) Stopped (numbers_from p n s next (ns ++ (v ∷ [])))))

abbrev pub read_numbers : Profile → List ℕ → Reading
read_numbers p s = numbers_from p most_numbers s 0 []

-- the bytes of the entries, behind the numbers
abbrev pub part_of : Profile → List ℕ → List ℕ → ℕ → List ℕ
part_of p s ns at = take (record_size p * count_of ns) (drop at s)

-- "If too few bytes remain for the entries, 2 comes before any 12; 13 is last"
unfoldable pub judge_entries : Profile → List ℕ → Reading → Reading
judge_entries p s (Stopped refusal) = Stopped refusal
judge_entries p s (Whole ns at) =
    pick (leb (at + record_size p * count_of ns) (length s))
    (pick (entries_good p (part_of p s ns at))
    (pick (eqb (at + record_size p * count_of ns) (length s)) (Whole ns at) (Stopped BytesRemain))
    (Stopped BrokenEntry)) (Stopped Ends)

-- the same without the numbers: what k entries at at bring, as the code asks for it
abbrev pub fault_behind : Profile → List ℕ → ℕ → ℕ → Result Unit Refusal
fault_behind p s at k =
    pick (leb (at + record_size p * k) (length s))
    (pick (entries_good p (take (record_size p * k) (drop at s)))
    (unless BytesRemain (eqb (at + record_size p * k) (length s))) (Err BrokenEntry)) (Err Ends)

-- the whole report: its numbers, then its entries
unfoldable pub report_reading : Profile → List ℕ → Reading
report_reading p s = judge_entries p s (read_numbers p s)

-- what the reader answers: the header, or the refusal and the empty header
unfoldable pub report_of : Reading → Report
report_of (Whole ns at) = record { refusal = 0; header = header_of ns }
report_of (Stopped refusal) = record { refusal = number_of refusal; header = empty_header }

abbrev pub read_report : Profile → List ℕ → Report
read_report p s = report_of (report_reading p s)

-- by the number that "The caller passes"; "18 for a profile other than 1 or 2, first" (02, No. 10)
abbrev pub read_by : ℕ → List ℕ → Report
read_by n s = of_profile n (report_of (Stopped OtherProfile)) (λ p. read_report p s)

-- what its companion answers: "a part of the caller's own bytes", empty on a refusal
unfoldable pub entries_in : Profile → List ℕ → Reading → List ℕ
entries_in p s (Whole ns at) = part_of p s ns at
entries_in p s (Stopped refusal) = []

abbrev pub entries_of : Profile → List ℕ → List ℕ
entries_of p s = entries_in p s (report_reading p s)

-- by the number that the caller passes
abbrev pub entries_by : ℕ → List ℕ → List ℕ
entries_by n s = of_profile n [] (λ p. entries_of p s)

-- the numbers that the code's own answer holds
unfoldable pub reading_of : Result NumbersRead Refusal → Reading
reading_of (Ok read) = Whole (take read.count read.numbers) read.next
reading_of (Err refusal) = Stopped refusal
