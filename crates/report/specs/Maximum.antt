-- The maximum that the writer is given (02, No. 8): with more room or a higher one no entry is dropped that was kept with less, and what is written is for receivers that take no more.
use Rattle.std.specs.Prelude.{ℕ, ◌≤◌, ◌≡◌, List, length, take}
use Rattle.wire.specs.Refusals.{refusal_number}
use Rattle.entries.specs.Limits.{most_entries}
use Rattle.entries.specs.Fitting.{last_of}
use Rattle.report.specs.Reader.{read_report, entries_of}
use Rattle.report.specs.Writer.{done, write_answer, write_bytes}
use Rattle.entries.specs.declared.Profile.{Profile}
use Rattle.report.specs.declared.Header.{Header}

-- of two reports the second keeps no fewer records, and those of the first are the last of its own
pub record Still (p : Profile) (first second : List ℕ) (kept kept' : ℕ) : Type 0 where
  pub more : kept ≤ kept'
  pub last : entries_of p first ≡ last_of p (entries_of p second) kept

-- "more room, or a higher maximum, never drops an entry that was kept with less": the same header and records, written twice
abbrev pub NeverDrops : Type 0
NeverDrops =
    (p : Profile) (h : Header) (entries : List ℕ) (maximum maximum' : ℕ) (xs ys : List ℕ) (next next' kept kept' : ℕ) → maximum ≤ maximum' → length xs ≤ length ys
    → done next kept ≡ write_answer p h entries maximum (length xs) → done next' kept' ≡ write_answer p h entries maximum' (length ys)
    → Still p (take next (write_bytes p h entries maximum xs)) (take next' (write_bytes p h entries maximum' ys)) kept kept'

-- nor is what was accepted refused with more room or another maximum that passes
abbrev pub StaysAccepted : Type 0
StaysAccepted =
    (p : Profile) (h : Header) (entries : List ℕ) (maximum maximum' room room' : ℕ) → maximum' ≤ most_entries → room ≤ room'
    → refusal_number (write_answer p h entries maximum room) ≡ 0 → refusal_number (write_answer p h entries maximum' room') ≡ 0

-- "old receivers, which refuse more than 50 with 10": one that takes at most so many entries, and is otherwise as the reader, accepts the report
pub record TakenBy (p : Profile) (limit : ℕ) (s : List ℕ) : Type 0 where
  pub accepted : (read_report p s).refusal ≡ 0
  pub few : (read_report p s).header.entries ≤ limit

-- what is written with a maximum is accepted by a receiver whose limit is that maximum
abbrev pub ForOldReceivers : Type 0
ForOldReceivers =
    (p : Profile) (h : Header) (entries : List ℕ) (maximum : ℕ) (xs : List ℕ) (next kept : ℕ) → done next kept ≡ write_answer p h entries maximum (length xs)
    → TakenBy p maximum (take next (write_bytes p h entries maximum xs))
