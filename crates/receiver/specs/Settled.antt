-- The settled examples P6 and P7, and the same with counts (02, No. 2), on the definitions.
use Rattle.std.specs.Prelude.{ℕ, ◌≡◌, List, [], ◌∷◌, replicate}
use Rattle.seen.specs.declared.Micros.{Micros}
use Rattle.receiver.specs.declared.Receiver.{Receiver}
use Rattle.receiver.specs.declared.Wrote.{Wrote}
use Rattle.ecn.specs.declared.Kind.TheVariants.{Plain, Counts}
use Rattle.receiver.specs.Write.{write_answer, write_bytes}
use Rattle.receiver.specs.Examples.{started, arrival}

-- arrivals one after the other, at time 0
unfoldable pub arrived : Receiver → List ℕ → Receiver
arrived r [] = r
arrived r (n ∷ ns) = arrived (arrival r n).next ns

-- "0, 1, 3, 4, 5 received"
abbrev pub five : Receiver
five = arrived (started 3) (0 ∷ 1 ∷ 3 ∷ 4 ∷ 5 ∷ [])

-- "no delay"
abbrev pub at_once : Micros
at_once = record { 0 = 0 }

-- what a write at once answers in a room of so many bytes: result and length
abbrev pub in_room : ℕ → Wrote
in_room room = write_answer five at_once Plain (replicate room 0)

pub record Frames : Type 0 where
  -- "02 05 00 01 02 00 01"
  pub P6 : write_bytes five at_once Plain (replicate 7 0) ≡ 0x02 ∷ 0x05 ∷ 0x00 ∷ 0x01 ∷ 0x02 ∷ 0x00 ∷ 0x01 ∷ []
  pub P6-answer : ((in_room 7).result ≡ 0) × ((in_room 7).length ≡ 7)
  -- "the same in room 5 or 6: 02 05 00 00 02"; in room 6 the last byte stays
  pub P7-five : write_bytes five at_once Plain (replicate 5 0) ≡ 0x02 ∷ 0x05 ∷ 0x00 ∷ 0x00 ∷ 0x02 ∷ []
  pub P7-five-answer : ((in_room 5).result ≡ 0) × ((in_room 5).length ≡ 5)
  pub P7-six : write_bytes five at_once Plain (replicate 6 0xff) ≡ 0x02 ∷ 0x05 ∷ 0x00 ∷ 0x00 ∷ 0x02 ∷ 0xff ∷ []
  pub P7-six-answer : ((in_room 6).result ≡ 0) × ((in_room 6).length ≡ 5)
  -- "room 4: refusal 9"
  pub P7-four : (in_room 4).result ≡ 9
  pub P7-four-answer : ((in_room 4).length ≡ 0) × (write_bytes five at_once Plain (replicate 4 0) ≡ replicate 4 0)
  -- with the counts, all 0 since no packet had a mark, in the rooms with three bytes more
  pub counts : write_bytes five at_once Counts (replicate 10 0xff) ≡ 0x03 ∷ 0x05 ∷ 0x00 ∷ 0x01 ∷ 0x02 ∷ 0x00 ∷ 0x01 ∷ 0x00 ∷ 0x00 ∷ 0x00 ∷ []
  pub counts-nine : write_bytes five at_once Counts (replicate 9 0xff) ≡ 0x03 ∷ 0x05 ∷ 0x00 ∷ 0x00 ∷ 0x02 ∷ 0x00 ∷ 0x00 ∷ 0x00 ∷ 0xff ∷ []
  pub counts-seven : (write_answer five at_once Counts (replicate 7 0)).result ≡ 9
