-- What a call after an opening is answered, by what the calls before it told: the edges that the request names.
use Rattle.std.specs.Prelude.{ℕ, ◌+◌, ◌-◌, ◌≤◌, ◌<◌, ◌≡◌, Bool, List, length}
use Rattle.wire.specs.Numbers.{limit}
use Rattle.frames.specs.Ack.{check_ack}
use Rattle.marks.specs.Marks.{listed}
use Rattle.sent.specs.Record.{State, Outstanding, is_acknowledged, is_lost, most_held, acked_before, lost_before}
use Rattle.sent.specs.Calls.{send_answer}
use Rattle.sent.specs.Heard.{newly, hear}
use Rattle.sent.specs.Exactly.{Checks}
use Rattle.losses.specs.Sequence.{Calls, ◌then◌, hear_frame, after, sending, hearing}
use Rattle.losses.specs.Told.{largest_in, ranges_in, sent_told, forgotten, end_told, then_told, told}

-- "for a send 5 past number 2^62 - 1, then 9 when 1,024 are held and the oldest is outstanding"
pub record SendTold (cs : Calls) : Type 0 where
  -- number 2^62 - 1 may be sent; after it 5, also when the list is full
  pub five : limit < sent_told cs → sending cs ≡ 5
  -- the 1,025th send: the oldest is outstanding, or acknowledged or lost
  pub nine : sent_told cs ≤ limit → most_held ≤ sent_told cs → told cs (forgotten cs) ≡ Outstanding → sending cs ≡ 9
  pub uses-its-room : sent_told cs ≤ limit → most_held ≤ sent_told cs → (told cs (forgotten cs) ≡ Outstanding → ⊥) → sending cs ≡ 0
  pub has_room : sent_told cs < most_held → sending cs ≡ 0
  -- an accepted one answers the number
  pub number : sending cs ≡ 0 → (send_answer (after cs)).number ≡ sent_told cs

abbrev pub SendsTold : Type 0
SendsTold = (cs : Calls) → SendTold cs

-- "16 for an acknowledged number never sent, then 9 for a list without room": whatever the room
abbrev pub SixteenFirst : Type 0
SixteenFirst = (cs : Calls) (s : List ℕ) (ackedRoom lostRoom : ℕ) → Checks s (check_ack s) (λ largest pairs. sent_told cs ≤ largest) → (hearing cs s ackedRoom lostRoom).result ≡ 16

-- what the frame makes of a number where it is accepted, and the numbers that it then lists: those sent that are newly so, rising
abbrev pub would_tell : Calls → List ℕ → ℕ → State
would_tell cs s n = then_told (forgotten cs) (ranges_in s (check_ack s)) (end_told cs + (largest_in (check_ack s) + 1 - end_told cs)) n (told cs n)

unfoldable pub would_list : (State → Bool) → Calls → List ℕ → List ℕ
would_list is cs s = listed (λ n. newly is (told cs n) (would_tell cs s n)) (sent_told cs) 0

-- both lists have room for theirs
abbrev pub RoomFor : Calls → List ℕ → ℕ → ℕ → Type 0
RoomFor cs s ackedRoom lostRoom = (length (would_list is_acknowledged cs s) ≤ ackedRoom) × (length (would_list is_lost cs s) ≤ lostRoom)

-- a frame that the ACK reader accepts and whose largest number was sent
pub record NineTold (cs : Calls) (s : List ℕ) (ackedRoom lostRoom : ℕ) : Type 0 where
  pub without-room : (RoomFor cs s ackedRoom lostRoom → ⊥) → (hearing cs s ackedRoom lostRoom).result ≡ 9
  pub with-room : RoomFor cs s ackedRoom lostRoom → (hearing cs s ackedRoom lostRoom).result ≡ 0
  pub lists-acked : RoomFor cs s ackedRoom lostRoom → (hearing cs s ackedRoom lostRoom).acked ≡ would_list is_acknowledged cs s
  pub lists-lost : RoomFor cs s ackedRoom lostRoom → (hearing cs s ackedRoom lostRoom).lost ≡ would_list is_lost cs s

abbrev pub ThenNine : Type 0
ThenNine = (cs : Calls) (s : List ℕ) (ackedRoom lostRoom : ℕ) → Checks s (check_ack s) (λ largest pairs. largest < sent_told cs) → NineTold cs s ackedRoom lostRoom

-- "an ACK range over it changes nothing": of any record, and of what the calls told
pub record ForgottenStay : Type 0 where
  pub acked : (r s : List ℕ) (ackedRoom lostRoom : ℕ) → acked_before (hear r s ackedRoom lostRoom).words ≡ acked_before r
  pub lost : (r s : List ℕ) (ackedRoom lostRoom : ℕ) → lost_before (hear r s ackedRoom lostRoom).words ≡ lost_before r
  pub state : (cs : Calls) (s : List ℕ) (ackedRoom lostRoom n : ℕ) → n < forgotten cs → told (cs then hear_frame s ackedRoom lostRoom) n ≡ told cs n
