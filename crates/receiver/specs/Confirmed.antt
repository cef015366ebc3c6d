-- Settled cases of forgetting what the sender has confirmed (02, No. 12), on the definitions: 0, 1, 3, 4, 5 received and an ACK with largest 5 written.
use Rattle.std.specs.Prelude.{ℕ, ◌^◌, ◌≡◌, List, [], ◌∷◌, replicate}
use Rattle.receiver.specs.declared.Receiver.{Receiver}
use Rattle.ecn.specs.declared.Kind.TheVariants.{Plain}
use Rattle.receiver.specs.Confirm.{confirm_call}
use Rattle.receiver.specs.Write.{write_bytes}
use Rattle.receiver.specs.Examples.{started, arrival, after_frame}
use Rattle.receiver.specs.Settled.{five, at_once}

-- an ACK was written: A is 5
abbrev pub acknowledged : Receiver
acknowledged = after_frame five

-- after the confirmation of an ACK with largest k
abbrev pub up_to : ℕ → Receiver
up_to k = (confirm_call acknowledged k).next

-- what is written then, in a room of seven bytes
abbrev pub written : Receiver → List ℕ
written r = write_bytes r at_once Plain (replicate 7 0)

pub record Confirmed : Type 0 where
  -- "a floor that rises to k + 1": a number below it gives 7 though it was received, and so does one that is missing there
  pub below : (arrival (up_to 3) 3).result ≡ 7
  pub missing : (arrival (up_to 3) 2).result ≡ 7
  -- from the floor up 6 is given as before
  pub from : (arrival (up_to 3) 4).result ≡ 6
  -- the frame is shorter: before, 0 to 1 and 3 to 5; after k = 1, 3 to 5; after k = 3, 4 to 5
  pub whole : written acknowledged ≡ 0x02 ∷ 0x05 ∷ 0x00 ∷ 0x01 ∷ 0x02 ∷ 0x00 ∷ 0x01 ∷ []
  pub shorter : written (up_to 1) ≡ 0x02 ∷ 0x05 ∷ 0x00 ∷ 0x00 ∷ 0x02 ∷ 0x00 ∷ 0x00 ∷ []
  pub cut : written (up_to 3) ≡ 0x02 ∷ 0x05 ∷ 0x00 ∷ 0x00 ∷ 0x01 ∷ 0x00 ∷ 0x00 ∷ []
  -- "or to L where k is L": the range of L alone is left
  pub own : written (up_to 5) ≡ 0x02 ∷ 0x05 ∷ 0x00 ∷ 0x00 ∷ 0x00 ∷ 0x00 ∷ 0x00 ∷ []
  -- "The floor never falls": a smaller k is accepted and leaves it
  pub smaller : confirm_call (up_to 3) 0 ≡ record { result = 0; next = up_to 3 }
  -- "5, 8 [..], then 19 if k is above A or A is absent"
  pub large : (confirm_call (started 3) (2 ^ 62)).result ≡ 5
  pub nothing : (confirm_call (started 3) 0).result ≡ 8
  pub absent : (confirm_call five 0).result ≡ 19
  pub above : (confirm_call acknowledged 6).result ≡ 19
