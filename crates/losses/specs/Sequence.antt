-- The calls on one loss list from its opening on, in their order: each is given the record that the call before left.
use Rattle.std.specs.Prelude.{ℕ, List}
use Rattle.sent.specs.Calls.{opened, send_refusal, send_after}
use Rattle.sent.specs.Heard.{Hearing, hear}

-- a call and its arguments: of the two lists only their lengths, the room, matter to the record and to what is listed
pub data Call : Type 0 where
  send_next : Call
  hear_frame : (bytes : List ℕ) (ackedRoom lostRoom : ℕ) → Call

-- calls in their order: none yet, or some and then one more
infixl 20 ◌then◌
pub data Calls : Type 0 where
  none : Calls
  ◌then◌ : Calls → Call → Calls

-- the record after the calls, refused ones included
unfoldable pub after : Calls → List ℕ
after none = opened
after (cs then send_next) = send_after (after cs)
after (cs then hear_frame s ackedRoom lostRoom) = (hear (after cs) s ackedRoom lostRoom).words

-- what a send after the calls is answered, and what hearing a frame comes to
abbrev pub sending : Calls → ℕ
sending cs = send_refusal (after cs)

abbrev pub hearing : Calls → List ℕ → ℕ → ℕ → Hearing
hearing cs s ackedRoom lostRoom = hear (after cs) s ackedRoom lostRoom
