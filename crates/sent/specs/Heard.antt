-- An ACK frame is heard: what it refuses, the state of each number afterwards, and what the answer lists.
use Rattle.std.specs.Prelude.{ℕ, ◌+◌, ◌-◌, ◌^◌, ◌≤◌, ◌<◌, ◌≡◌, Bool, true, false, not, ◌&&◌, ◌||◌, List, [], ◌∷◌, Result, Ok, Err, leb, ltb, length, get_or}
use Rattle.wire.specs.Bytes.{pick, splice}
use Rattle.window.specs.Window.{is_set}
use Rattle.wire.specs.Refusals.{number_of}
use Rattle.wire.specs.declared.Refusal.{Refusal}
use Rattle.frames.specs.Ack.{Ranges, ranges_from, check_ack}
use Rattle.frames.specs.declared.Checked.{Checked}
use Rattle.marks.specs.Marks.{mark, between, listed}
use Rattle.sent.specs.Record.{State, Outstanding, Acknowledged, Lost, is_acknowledged, is_lost, next_of, acked_before, lost_before, end_of, floor_of, acked_at, lost_at, state_at, is_due, record_of, consistent}
use Rattle.sent.specs.declared.Reply.{Reply}

-- the ranges of a frame that was checked
abbrev pub ranges_of : List ℕ → Checked → Ranges
ranges_of s c = ranges_from c.count s c.at c.largest

-- whether a number lies in one of the ranges: smallest and largest of each
unfoldable pub within : List ℕ → ℕ → Bool
within [] n = false
within (smallest ∷ []) n = false
within (smallest ∷ largest ∷ pairs) n = between smallest (largest + 1) n || within pairs n

-- the end of "the largest acknowledged", over all frames so far and this one
abbrev pub end_after : List ℕ → ℕ → ℕ
end_after r largest = end_of r + (largest + 1 - end_of r)

-- "An ACK frame marks its ranges; then an outstanding number n is lost if the largest acknowledged is at least n + 3"
-- "A lost number acknowledged later becomes acknowledged"
abbrev pub heard_state : Bool → Bool → State → State
heard_state true due before = Acknowledged
heard_state false true Outstanding = Lost
heard_state false true Acknowledged = Acknowledged
heard_state false true Lost = Lost
heard_state false false before = before

-- the state of a held number afterwards, given the ranges and that end
abbrev pub state_after : List ℕ → List ℕ → ℕ → ℕ → State
state_after r pairs end n = heard_state (within pairs n) (is_due end n) (state_at r n)

-- it is so, and was not
abbrev pub newly : (State → Bool) → State → State → Bool
newly is before after = is after && not (is before)

-- "The answer lists newly acknowledged and newly lost numbers, rising, each once"
unfoldable pub newly_in : (State → Bool) → List ℕ → List ℕ → ℕ → List ℕ
newly_in is r pairs end = listed (λ n. newly is (state_at r n) (state_after r pairs end n)) (next_of r - floor_of r) (floor_of r)

-- ---- what hearing a frame comes to: the answer's number, the bytes used, what is listed, and the record afterwards

pub record Hearing : Type 0 where
  pub result : ℕ
  pub used : ℕ
  pub acked : List ℕ
  pub lost : List ℕ
  pub words : List ℕ

-- a refusal: nothing is listed, and the record is as it came
abbrev pub refused_as : ℕ → List ℕ → Hearing
refused_as refusal r = record { result = refusal; used = 0; acked = []; lost = []; words = r }

abbrev pub accepted_as : List ℕ → List ℕ → ℕ → ℕ → Hearing
accepted_as r pairs end used = record {
  result = 0;
  used = used;
  acked = newly_in is_acknowledged r pairs end;
  lost = newly_in is_lost r pairs end;
  words = record_of (state_after r pairs end) (next_of r) (acked_before r) (lost_before r) end;
}

-- "then 9 for a list without room"
unfoldable pub hear_ranges : List ℕ → List ℕ → ℕ → ℕ → ℕ → ℕ → Hearing
hear_ranges r pairs end used ackedRoom lostRoom =
    pick (leb (length (newly_in is_acknowledged r pairs end)) ackedRoom && leb (length (newly_in is_lost r pairs end)) lostRoom) (accepted_as r pairs end used) (refused_as 9 r)

-- "Refusals, after those of the ACK reader: 16 for an acknowledged number never sent"
abbrev pub hear_checked : List ℕ → List ℕ → ℕ → ℕ → Result Checked Refusal → Hearing
hear_checked r s ackedRoom lostRoom (Err refusal) = refused_as (number_of refusal) r
hear_checked r s ackedRoom lostRoom (Ok c) =
    pick (ltb c.largest (next_of r)) (hear_ranges r (ranges_of s c).pairs (end_after r c.largest) c.used ackedRoom lostRoom) (refused_as 16 r)

-- the record r hears the frame that s starts with, with lists of so much room
unfoldable pub hear : List ℕ → List ℕ → ℕ → ℕ → Hearing
hear r s ackedRoom lostRoom = pick (consistent r) (hear_checked r s ackedRoom lostRoom (check_ack s)) (refused_as 1 r)

-- the answer says how many were listed
abbrev pub heard_answer : Hearing → Reply
heard_answer h = record { result = h.result; length = h.used; acked = length h.acked; lost = length h.lost }

-- the answer, the record and the two lists xs and ys are what h says; elements behind the lists' ends stay
pub record IsHeard (h : Hearing) (xs ys : List ℕ) (answer : Reply) (words acked lost : List ℕ) : Type 0 where
  pub answers : answer ≡ heard_answer h
  pub leaves : words ≡ h.words
  pub lists-acked : acked ≡ splice xs 0 h.acked
  pub lists-lost : lost ≡ splice ys 0 h.lost

-- ---- the same by words

-- the marks of the ranges' numbers among the 1,024 from floor on
pub record FrameMarks (ws : List ℕ) (floor : ℕ) (pairs : List ℕ) : Type 0 where
  pub marks : (n : ℕ) → floor ≤ n → n < floor + 1024 → mark ws n ≡ within pairs n

-- a word with the marks of both
pub record Either (word a b : ℕ) : Type 0 where
  pub fits : word < 2 ^ 64
  pub marks : (k : ℕ) → is_set word k ≡ (is_set a k || is_set b k)

-- the marks of a word that the other has not
pub record Without (word a b : ℕ) : Type 0 where
  pub fits : word < 2 ^ 64
  pub marks : (k : ℕ) → k < 64 → is_set word k ≡ (is_set a k && not (is_set b k))

-- the marks of a frame that were not there
pub record AckedAnew (ws r frame : List ℕ) : Type 0 where
  pub marks : (n : ℕ) → mark ws n ≡ (mark frame n && not (acked_at r n))

-- those that the rule settles and that have no mark, nor one of the frame
pub record LostAnew (ws r frame due : List ℕ) : Type 0 where
  pub marks : (n : ℕ) → mark ws n ≡ (mark due n && not ((acked_at r n || lost_at r n) || mark frame n))

-- the record with the marks of a frame, and of those that the rule settles
pub record Changed (next r frame due : List ℕ) (end : ℕ) : Type 0 where
  pub long : length next ≡ 36
  pub fits : (i : ℕ) → i < 32 → get_or next i 0 < 2 ^ 64
  pub acked : (n : ℕ) → acked_at next n ≡ (acked_at r n || mark frame n)
  pub lost : (n : ℕ) → lost_at next n ≡ ((lost_at r n || mark due n) && not (acked_at r n || mark frame n))
  pub sent : next_of next ≡ next_of r
  pub acked-before : acked_before next ≡ acked_before r
  pub lost-before : lost_before next ≡ lost_before r
  pub end_is : end_of next ≡ end
