-- The three calls: what each answers, the record afterwards, and the lent buffer.
use Rattle.std.specs.Prelude.{ℕ, zero, suc, ◌/◌, List, leb, length, take}
use Rattle.wire.specs.Bytes.{pick, splice}
use Rattle.entries.specs.Profiles.{record_size, of_profile}
use Rattle.report.specs.Header.{empty_header}
use Rattle.report.specs.declared.Report.{Report}
use Rattle.uncut.specs.State.{State, start, standing, header_at, whole_at, report_at, at_end}
use Rattle.uncut.specs.Step.{after, delivered}
use Rattle.uncut.specs.Cutting.{taking}
use Rattle.pieces.specs.Record.{profile_in, state_of, words_of}
use Rattle.pieces.specs.Fitness.{consistent}
use Rattle.pieces.specs.declared.Taken.{Taken}

-- a where no refusal is given, b beside one
abbrev pub unless_refused : {A : Type 0} → ℕ → A → A → A
unless_refused zero a b = a
unless_refused (suc n) a b = b

-- a refusal and the empty header
abbrev pub refused_report : ℕ → Report
refused_report n = record { refusal = n; header = empty_header }

-- ---- opening: "18 for a profile other than 1 or 2, first"

abbrev pub open_refusal : ℕ → ℕ
open_refusal profile = of_profile profile 18 (λ p. 0)

abbrev pub open_after : List ℕ → ℕ → List ℕ
open_after w profile = of_profile profile w (λ p. words_of p start)

-- ---- a part

-- 1, then "9 if the buffer holds no whole record, before any byte is taken", then the refusal that stands: "later calls give these again"
unfoldable pub take_refusal : List ℕ → ℕ → ℕ
take_refusal w room = pick (consistent w) (pick (leb (record_size (profile_in w)) room) (standing (state_of w)) 9) 1

-- the bytes that are taken, where they lead to, and the records that they bring
abbrev pub taken_of : List ℕ → List ℕ → ℕ → List ℕ
taken_of w part room = take (taking (profile_in w) room (state_of w) part) part

abbrev pub state_after : List ℕ → List ℕ → ℕ → State
state_after w part room = after (profile_in w) (state_of w) (taken_of w part room)

abbrev pub given_of : List ℕ → List ℕ → ℕ → List ℕ
given_of w part room = delivered (profile_in w) (state_of w) (taken_of w part room)

-- an answer: the refusal that stands or 0, how many bytes were taken, how many records were written, and the header once it is whole
abbrev pub answer_of : State → ℕ → ℕ → Taken
answer_of st taken records = record { result = standing st; taken = taken; records = records; whole = whole_at st; header = header_at st }

abbrev pub refused_as : ℕ → Taken
refused_as n = record { result = n; taken = 0; records = 0; whole = 0; header = empty_header }

unfoldable pub take_answer : List ℕ → List ℕ → ℕ → Taken
take_answer w part room =
    unless_refused (take_refusal w room)
    (answer_of (state_after w part room) (length (taken_of w part room)) (length (given_of w part room) / record_size (profile_in w)))
    (refused_as (take_refusal w room))

-- a call that is refused so changes nothing
unfoldable pub take_after : List ℕ → List ℕ → ℕ → List ℕ
take_after w part room = unless_refused (take_refusal w room) (words_of (profile_in w) (state_after w part room)) w

-- "writes complete entries to a lent buffer": at its start, and the rest stays
unfoldable pub take_bytes : List ℕ → List ℕ → List ℕ → List ℕ
take_bytes w part xs = unless_refused (take_refusal w (length xs)) (splice xs 0 (given_of w part (length xs))) xs

-- ---- "The caller says the end"

-- 1, then the refusal that stands
unfoldable pub end_refusal : List ℕ → ℕ
end_refusal w = pick (consistent w) (standing (state_of w)) 1

unfoldable pub end_answer : List ℕ → Report
end_answer w = unless_refused (end_refusal w) (report_at (at_end (state_of w))) (refused_report (end_refusal w))

-- a call that is refused so changes nothing
unfoldable pub end_after : List ℕ → List ℕ
end_after w = unless_refused (end_refusal w) (words_of (profile_in w) (at_end (state_of w))) w
