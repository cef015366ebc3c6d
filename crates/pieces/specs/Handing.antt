-- The calls on the words that the caller lends: consistency is kept, and a report may be handed in anyhow.
use Rattle.std.specs.Prelude.{ℕ, ◌*◌, ◌≤◌, ◌≡◌, true, List, [], ◌++◌, length, take, drop}
use Rattle.wire.specs.Bytes.{Octets}
use Rattle.entries.specs.Profiles.{record_size, number_of}
use Rattle.entries.specs.declared.Profile.{Profile}
use Rattle.report.specs.Reader.{read_numbers, read_report}
use Rattle.uncut.specs.State.{State, standing}
use Rattle.pieces.specs.Record.{state_of, words_of}
use Rattle.pieces.specs.Fitness.{consistent}
use Rattle.pieces.specs.Calls.{open_refusal, open_after, take_answer, take_after, take_bytes, end_answer, end_after}
use Rattle.pieces.specs.Kept.{Kept}
use Rattle.uncut.specs.Whole.{good_records, header_in}

-- ---- consistency is kept, and an opening has it

pub record KeepsConsistent : Type 0 where
  pub opening : (w : List ℕ) (profile : ℕ) → open_refusal profile ≡ 0 → consistent (open_after w profile) ≡ true
  pub part : (w part : List ℕ) (room : ℕ) → Octets part → consistent w ≡ true → consistent (take_after w part room) ≡ true
  pub end : (w : List ℕ) → consistent w ≡ true → consistent (end_after w) ≡ true

-- what the words say is what was put there
abbrev pub SaidBack : Type 0
SaidBack = (p : Profile) (st : State) → Kept p st → state_of (words_of p st) ≡ st

-- ---- a report that is handed in by calls

-- the bytes s are handed in part by part, from the words w on: what a call did not take is handed in again with the next part, each
-- buffer xs holds at least one record, and after a refusal the caller may stop; out is what the calls wrote
pub data Handed (p : Profile) : List ℕ → List ℕ → List ℕ → List ℕ → Type 0 where
  over : {w : List ℕ} → Handed p w [] w []
  shut : {w s : List ℕ} → (standing (state_of w) ≡ 0 → ⊥) → Handed p w s w []
  call : {w w' out : List ℕ} (part rest xs : List ℕ) → record_size p ≤ length xs
      → Handed p (take_after w part (length xs)) (drop (take_answer w part (length xs)).taken part ++ rest) w' out
      → Handed p w (part ++ rest) w' (take (record_size p * (take_answer w part (length xs)).records) (take_bytes w part xs) ++ out)

-- "For all cuttings, and a buffer that holds at least one record, the header, the entries in order of an accepted report, and the
-- refusal number equal those of the whole reader"; "Of a refused report exactly the good records before the first bad or missing one"
abbrev pub HandedAnyhow : Type 0
HandedAnyhow =
    (p : Profile) (before s w out : List ℕ) → Octets s → Handed p (open_after before (number_of p)) s w out
    → (end_answer w ≡ read_report p s) × (out ≡ good_records p s)

-- the header that a call hands over before the end, s being what was taken before and rest what is still to come: that of the report's
-- numbers, as the whole reader reads them; of an accepted report the one that it answers
pub record HandsHeader (p : Profile) (s w part rest xs : List ℕ) : Type 0 where
  pub numbers : (take_answer w part (length xs)).header ≡ header_in (read_numbers p (s ++ (part ++ rest)))
  pub accepted : (read_report p (s ++ (part ++ rest))).refusal ≡ 0 → (take_answer w part (length xs)).header ≡ (read_report p (s ++ (part ++ rest))).header

abbrev pub HeaderEarly : Type 0
HeaderEarly =
    (p : Profile) (before s w out part rest xs : List ℕ) → Octets s → record_size p ≤ length xs → Handed p (open_after before (number_of p)) s w out
    → (take_answer w part (length xs)).whole ≡ 1 → HandsHeader p s w part rest xs
