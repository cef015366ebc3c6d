-- What the calls on a loss list tell of each number, and what holds of it over every list of calls from an opening.
use Rattle.std.specs.Prelude.{ℕ, ◌+◌, ◌-◌, ◌≤◌, ◌<◌, ◌≡◌, Bool, true, false, List, [], ◌∷◌, Result, Ok, Err, ltb, eqb, length}
use Rattle.wire.specs.Bytes.{pick}
use Rattle.wire.specs.declared.Refusal.{Refusal}
use Rattle.frames.specs.Ack.{check_ack}
use Rattle.frames.specs.declared.Checked.{Checked}
use Rattle.marks.specs.Marks.{listed}
use Rattle.sent.specs.Record.{State, Outstanding, Acknowledged, Lost, is_acknowledged, is_lost, most_held, is_due, record_of, next_of, floor_of, acked_before, lost_before, acked_at, lost_at, is_outstanding, consistent}
use Rattle.sent.specs.Calls.{unless_refused}
use Rattle.sent.specs.Heard.{ranges_of, within, heard_state, newly}
use Rattle.losses.specs.Sequence.{Calls, none, ◌then◌, send_next, hear_frame, after, sending, hearing}

-- ---- a frame, as the ACK reader's check reads it

abbrev pub largest_in : Result Checked Refusal → ℕ
largest_in (Ok c) = c.largest
largest_in (Err refusal) = 0

abbrev pub ranges_in : List ℕ → Result Checked Refusal → List ℕ
ranges_in s (Ok c) = (ranges_of s c).pairs
ranges_in s (Err refusal) = []

-- ---- what the calls tell; a refused call tells nothing

-- "the number sent"
unfoldable pub sent_told : Calls → ℕ
sent_told none = 0
sent_told (cs then send_next) = unless_refused (sending cs) (sent_told cs) (sent_told cs + 1)
sent_told (cs then hear_frame s ackedRoom lostRoom) = sent_told cs

-- how many of them are forgotten: all but the last 1,024
abbrev pub forgotten : Calls → ℕ
forgotten cs = sent_told cs - most_held

-- the end of "the largest acknowledged", over all frames
unfoldable pub end_told : Calls → ℕ
end_told none = 0
end_told (cs then send_next) = end_told cs
end_told (cs then hear_frame s ackedRoom lostRoom) =
    unless_refused (hearing cs s ackedRoom lostRoom).result (end_told cs) (end_told cs + (largest_in (check_ack s) + 1 - end_told cs))

-- a number's state after an accepted frame: "an ACK range over [a forgotten number] changes nothing"
abbrev pub then_told : ℕ → List ℕ → ℕ → ℕ → State → State
then_told gone pairs end n before = pick (ltb n gone) before (heard_state (within pairs n) (is_due end n) before)

-- "each outstanding, acknowledged or lost"
unfoldable pub told : Calls → ℕ → State
told none n = Outstanding
told (cs then send_next) n = told cs n
told (cs then hear_frame s ackedRoom lostRoom) n =
    unless_refused (hearing cs s ackedRoom lostRoom).result (told cs n)
    (then_told (forgotten cs) (ranges_in s (check_ack s)) (end_told (cs then hear_frame s ackedRoom lostRoom)) n (told cs n))

abbrev pub is_out : State → Bool
is_out Outstanding = true
is_out Acknowledged = false
is_out Lost = false

-- how many numbers below k are so
abbrev pub count_of : (State → Bool) → (ℕ → State) → ℕ → ℕ
count_of is f k = length (listed (λ n. is (f n)) k 0)

-- the record that says exactly this
abbrev pub record_told : Calls → List ℕ
record_told cs = record_of (told cs) (sent_told cs) (count_of is_acknowledged (told cs) (forgotten cs)) (count_of is_lost (told cs) (forgotten cs)) (end_told cs)

pub record ToldOf (cs : Calls) : Type 0 where
  -- the record says exactly what the calls say
  pub says : after cs ≡ record_told cs
  -- no call after an opening is refused with 1
  pub sound : consistent (after cs) ≡ true

abbrev pub ToldAlways : Type 0
ToldAlways = (cs : Calls) → ToldOf cs

-- ---- "Outstanding, acknowledged and lost add up to the number sent"

-- of a record: those of the forgotten, and those held
abbrev pub held_as : (ℕ → Bool) → List ℕ → ℕ
held_as is r = length (listed is (next_of r - floor_of r) (floor_of r))

abbrev pub acknowledged_of : List ℕ → ℕ
acknowledged_of r = acked_before r + held_as (acked_at r) r

abbrev pub lost_of : List ℕ → ℕ
lost_of r = lost_before r + held_as (lost_at r) r

abbrev pub outstanding_of : List ℕ → ℕ
outstanding_of r = held_as (is_outstanding r) r

pub record TotalsOf (cs : Calls) : Type 0 where
  pub sent : next_of (after cs) ≡ sent_told cs
  pub acknowledged : acknowledged_of (after cs) ≡ count_of is_acknowledged (told cs) (sent_told cs)
  pub lost : lost_of (after cs) ≡ count_of is_lost (told cs) (sent_told cs)
  pub outstanding : outstanding_of (after cs) ≡ count_of is_out (told cs) (sent_told cs)
  pub add-up : outstanding_of (after cs) + (acknowledged_of (after cs) + lost_of (after cs)) ≡ next_of (after cs)

abbrev pub TotalsAddUp : Type 0
TotalsAddUp = (cs : Calls) → TotalsOf cs

-- ---- "The answer lists newly acknowledged and newly lost numbers, rising, each once"

-- how often a number stands in a list
unfoldable pub times : ℕ → List ℕ → ℕ
times n [] = 0
times n (x ∷ xs) = pick (eqb x n) 1 0 + times n xs

-- each is above the one before
unfoldable pub Rises : List ℕ → Type 0
Rises [] = Unit
Rises (x ∷ []) = Unit
Rises (x ∷ y ∷ xs) = (x < y) × Rises (y ∷ xs)

-- how often the calls listed a number as acknowledged, and as lost
unfoldable pub listed_acked : Calls → ℕ → ℕ
listed_acked none n = 0
listed_acked (cs then send_next) n = listed_acked cs n
listed_acked (cs then hear_frame s ackedRoom lostRoom) n = listed_acked cs n + times n (hearing cs s ackedRoom lostRoom).acked

unfoldable pub listed_lost : Calls → ℕ → ℕ
listed_lost none n = 0
listed_lost (cs then send_next) n = listed_lost cs n
listed_lost (cs then hear_frame s ackedRoom lostRoom) n = listed_lost cs n + times n (hearing cs s ackedRoom lostRoom).lost

-- one frame: what it lists are exactly the changes of state, rising
pub record ListsOf (cs : Calls) (s : List ℕ) (ackedRoom lostRoom : ℕ) : Type 0 where
  pub acked-rises : Rises (hearing cs s ackedRoom lostRoom).acked
  pub lost-rises : Rises (hearing cs s ackedRoom lostRoom).lost
  pub acked-changes : (n : ℕ) → times n (hearing cs s ackedRoom lostRoom).acked ≡ pick (newly is_acknowledged (told cs n) (told (cs then hear_frame s ackedRoom lostRoom) n)) 1 0
  pub lost-changes : (n : ℕ) → times n (hearing cs s ackedRoom lostRoom).lost ≡ pick (newly is_lost (told cs n) (told (cs then hear_frame s ackedRoom lostRoom) n)) 1 0

abbrev pub ListsAreChanges : Type 0
ListsAreChanges = (cs : Calls) (s : List ℕ) (ackedRoom lostRoom : ℕ) → ListsOf cs s ackedRoom lostRoom

-- all frames: at most once as acknowledged, at most once as lost, and never as lost once it was acknowledged
pub record OnceOf (cs : Calls) (n : ℕ) : Type 0 where
  pub acked-once : listed_acked cs n ≤ 1
  pub lost-once : listed_lost cs n ≤ 1
  pub acked-so : listed_acked cs n ≡ pick (is_acknowledged (told cs n)) 1 0
  pub never-lost-after : (s : List ℕ) (ackedRoom lostRoom : ℕ) → 0 < listed_acked (cs then hear_frame s ackedRoom lostRoom) n → times n (hearing cs s ackedRoom lostRoom).lost ≡ 0

abbrev pub ListedOnce : Type 0
ListedOnce = (cs : Calls) (n : ℕ) → OnceOf cs n
