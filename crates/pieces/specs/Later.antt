-- "and later calls give these again": what calls answer after a refusal, and after the end was said, one after the other.
use Rattle.std.specs.Prelude.{ℕ, ◌≤◌, ◌≡◌, List, [], ◌∷◌, length}
use Rattle.wire.specs.Bytes.{Octets}
use Rattle.entries.specs.Profiles.{record_size}
use Rattle.report.specs.declared.Report.{Report}
use Rattle.report.specs.declared.Header.{Header}
use Rattle.pieces.specs.Record.{profile_in}
use Rattle.pieces.specs.Calls.{refused_report, refused_as, take_answer, take_after, take_bytes, end_answer, end_after}
use Rattle.pieces.specs.declared.Taken.{Taken}

-- a later call: a part, with the buffer that is lent, or the end
pub data Later : Type 0 where
  handed : List ℕ → List ℕ → Later
  said : Later

-- the record after such calls
unfoldable pub later : List ℕ → List Later → List ℕ
later w [] = w
later w (handed part xs ∷ calls) = later (take_after w part (length xs)) calls
later w (said ∷ calls) = later (end_after w) calls

-- whatever later calls come, then a part with a buffer that holds a record is answered so, nothing is ever written, and the end answers so
pub record Again (w : List ℕ) (taken : Taken) (ended : Report) : Type 0 where
  pub part : (calls : List Later) (part xs : List ℕ) → record_size (profile_in w) ≤ length xs → take_answer (later w calls) part (length xs) ≡ taken
  pub buffer : (calls : List Later) (part xs : List ℕ) → take_bytes (later w calls) part xs ≡ xs
  pub end : (calls : List Later) → end_answer (later w calls) ≡ ended

-- a refusal of the report's own; 1 and 9 do not stand
abbrev pub Own : ℕ → Type 0
Own n = (n ≡ 0 → ⊥) × ((n ≡ 1 → ⊥) × (n ≡ 9 → ⊥))

-- nothing is taken or written, and the header is handed over again
abbrev pub accepted_as : Header → Taken
accepted_as h = record { result = 0; taken = 0; records = 0; whole = 1; header = h }

pub record GivenAgain : Type 0 where
  -- a part is refused with n: so is every later part, nothing of it is taken or written, and so is the end
  pub part : (w part xs : List ℕ) (n : ℕ) → Octets part → (take_answer w part (length xs)).result ≡ n → Own n → Again (take_after w part (length xs)) (refused_as n) (refused_report n)
  -- the end is refused with n
  pub end : (w : List ℕ) (n : ℕ) → (end_answer w).refusal ≡ n → Own n → Again (end_after w) (refused_as n) (refused_report n)
  -- the report is accepted
  pub accepted : (w : List ℕ) → (end_answer w).refusal ≡ 0 → Again (end_after w) (accepted_as (end_answer w).header) (end_answer w)
