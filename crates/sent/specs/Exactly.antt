-- The rows of the refusal table for the loss list's calls: each number is given exactly when its row says, the first fault first, and no other number is.
use Rattle.std.specs.Prelude.{ℕ, ◌+◌, ◌-◌, ◌≤◌, ◌<◌, ◌≡◌, ◌↔◌, true, List, [], ◌∷◌, Result, Ok, Err, length}
use Rattle.wire.specs.Numbers.{limit}
use Rattle.wire.specs.Exactly.{OneOf}
use Rattle.wire.specs.Refusals.{refusal_number}
use Rattle.wire.specs.declared.Refusal.{Refusal}
use Rattle.frames.specs.Ack.{check_ack}
use Rattle.frames.specs.declared.Checked.{Checked}
use Rattle.sent.specs.Record.{is_acknowledged, is_lost, most_held, next_of, acked_before, lost_before, end_of, floor_of, acked_at, lost_at, is_outstanding, consistent}
use Rattle.sent.specs.Calls.{send_refusal, send_after}
use Rattle.sent.specs.Heard.{ranges_of, end_after, newly_in, hear}

-- ---- 1: "a record whose parts disagree or break 5"

-- one of the 1,024 numbers from the oldest held on, for which the record has marks
abbrev pub HasMarks : List ℕ → ℕ → Type 0
HasMarks r n = (floor_of r ≤ n) × (n < floor_of r + most_held)

pub record Consistent (r : List ℕ) : Type 0 where
  -- the next number obeys 5, or is one past the last that does
  pub next : next_of r ≤ limit + 1
  -- the largest acknowledged was sent
  pub largest : end_of r ≤ next_of r
  -- the totals of the forgotten add up to their number
  pub totals : acked_before r + lost_before r ≡ next_of r - most_held
  -- no number is both acknowledged and lost
  pub one-mark : (n : ℕ) → HasMarks r n → acked_at r n ≡ true → lost_at r n ≡ true → ⊥
  -- none is outstanding that should be lost by the rule: the largest acknowledged is at least n + 3
  pub settled : (n : ℕ) → HasMarks r n → n + 3 < end_of r → is_outstanding r n ≡ true → ⊥
  -- no mark stands outside the held numbers
  pub inside : (n : ℕ) → HasMarks r n → next_of r ≤ n → is_outstanding r n ≡ true

abbrev pub ConsistentExactly : Type 0
ConsistentExactly = (r : List ℕ) → consistent r ≡ true ↔ Consistent r

-- ---- a send: "5 past number 2^62 - 1, then 9 when 1,024 are held and the oldest is outstanding"

abbrev pub IsFull : List ℕ → Type 0
IsFull r = (most_held ≤ next_of r) × (is_outstanding r (floor_of r) ≡ true)

pub record SendRows (r : List ℕ) (refusal : ℕ) : Type 0 where
  pub one : refusal ≡ 1 ↔ (Consistent r → ⊥)
  pub five : refusal ≡ 5 ↔ (Consistent r × (limit < next_of r))
  pub nine : refusal ≡ 9 ↔ (Consistent r × ((next_of r ≤ limit) × IsFull r))
  pub accepted : refusal ≡ 0 ↔ (Consistent r × ((next_of r ≤ limit) × (IsFull r → ⊥)))
  pub others : OneOf refusal (0 ∷ 1 ∷ 5 ∷ 9 ∷ [])

-- ---- a frame: "after those of the ACK reader: 16 for an acknowledged number never sent, then 9 for a list without room"

-- the frame is accepted by the ACK reader's check, and P holds of its largest and its ranges
abbrev pub Checks : List ℕ → Result Checked Refusal → (ℕ → List ℕ → Type 0) → Type 0
Checks s (Ok c) P = P c.largest (ranges_of s c).pairs
Checks s (Err refusal) P = ⊥

abbrev pub HasRoom : List ℕ → ℕ → ℕ → ℕ → List ℕ → Type 0
HasRoom r ackedRoom lostRoom largest pairs =
    (length (newly_in is_acknowledged r pairs (end_after r largest)) ≤ ackedRoom) × (length (newly_in is_lost r pairs (end_after r largest)) ≤ lostRoom)

pub record HeardRows (r s : List ℕ) (ackedRoom lostRoom : ℕ) (check : Result Checked Refusal) (refusal : ℕ) : Type 0 where
  pub one : refusal ≡ 1 ↔ (Consistent r → ⊥)
  pub two : refusal ≡ 2 ↔ (Consistent r × (refusal_number check ≡ 2))
  pub three : refusal ≡ 3 ↔ (Consistent r × (refusal_number check ≡ 3))
  pub fourteen : refusal ≡ 14 ↔ (Consistent r × (refusal_number check ≡ 14))
  pub sixteen : refusal ≡ 16 ↔ (Consistent r × Checks s check (λ largest pairs. next_of r ≤ largest))
  pub nine : refusal ≡ 9 ↔ (Consistent r × Checks s check (λ largest pairs. (largest < next_of r) × (HasRoom r ackedRoom lostRoom largest pairs → ⊥)))
  pub accepted : refusal ≡ 0 ↔ (Consistent r × Checks s check (λ largest pairs. (largest < next_of r) × HasRoom r ackedRoom lostRoom largest pairs))
  pub others : OneOf refusal (0 ∷ 1 ∷ 2 ∷ 3 ∷ 9 ∷ 14 ∷ 16 ∷ [])

pub record Exactly : Type 0 where
  pub send : (r : List ℕ) → SendRows r (send_refusal r)
  pub heard : (r s : List ℕ) (ackedRoom lostRoom : ℕ) → HeardRows r s ackedRoom lostRoom (check_ack s) (hear r s ackedRoom lostRoom).result

-- a refused call leaves every word of the record as it was, and lists nothing
pub record Unchanged : Type 0 where
  pub send : (r : List ℕ) → (send_refusal r ≡ 0 → ⊥) → send_after r ≡ r
  pub heard : (r s : List ℕ) (ackedRoom lostRoom : ℕ) → ((hear r s ackedRoom lostRoom).result ≡ 0 → ⊥) → (hear r s ackedRoom lostRoom).words ≡ r
  pub acked : (r s : List ℕ) (ackedRoom lostRoom : ℕ) → ((hear r s ackedRoom lostRoom).result ≡ 0 → ⊥) → (hear r s ackedRoom lostRoom).acked ≡ []
  pub lost : (r s : List ℕ) (ackedRoom lostRoom : ℕ) → ((hear r s ackedRoom lostRoom).result ≡ 0 → ⊥) → (hear r s ackedRoom lostRoom).lost ≡ []
  pub used : (r s : List ℕ) (ackedRoom lostRoom : ℕ) → ((hear r s ackedRoom lostRoom).result ≡ 0 → ⊥) → (hear r s ackedRoom lostRoom).used ≡ 0
