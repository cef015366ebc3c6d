-- The settled examples P4, P5 and P8, on the definitions.
use Rattle.std.specs.Prelude.{ℕ, zero, suc, ◌≡◌, true, List, [], ◌∷◌, replicate}
use Rattle.receiver.specs.declared.Receiver.{Receiver}
use Rattle.receiver.specs.declared.Answer.{Answer}
use Rattle.ecn.specs.declared.Mark.TheVariants.{None}
use Rattle.ecn.specs.declared.Kind.TheVariants.{Plain}
use Rattle.receiver.specs.Packet.{packet_call}
use Rattle.receiver.specs.Calls.{opened}
use Rattle.receiver.specs.Write.{write_answer}

-- an opening with "T large" and the reordering threshold q
abbrev pub started : ℕ → Receiver
started q = opened 1000 q (record { 0 = 25 }) (record { 0 = 1000 })

-- an ack-eliciting packet without a mark, at time 0
abbrev pub arrival : Receiver → ℕ → Answer
arrival r n = packet_call r n (record { 0 = 0 }) true None

-- the record after a write at time 0, in a room of 1,200 bytes
abbrev pub after_frame : Receiver → Receiver
after_frame r = (write_answer r (record { 0 = 0 }) Plain (replicate 1200 0)).next

-- the arrivals at which an acknowledgment is due, "written when due"
unfoldable pub dues : Receiver → List ℕ → List ℕ
dues r [] = []
dues r (n ∷ ns) =
    let next = (arrival r n).next in
    elim next.cause [ zero ↦ dues next ns | suc cause ↦ n ∷ dues (after_frame next) ns ]

pub record Arrivals : Type 0 where
  -- "R 3, arrivals 0, 1, 3, 4, 5, 8, 9, 10, T large, written when due: due at 5, 9, 10 only"
  pub P4 : dues (started 3) (0 ∷ 1 ∷ 3 ∷ 4 ∷ 5 ∷ 8 ∷ 9 ∷ 10 ∷ []) ≡ 5 ∷ 9 ∷ 10 ∷ []
  -- "R 5, arrivals 0, 1, 3, 5, 6, 7, 8: due at 7 only"
  pub P5 : dues (started 5) (0 ∷ 1 ∷ 3 ∷ 5 ∷ 6 ∷ 7 ∷ 8 ∷ []) ≡ 7 ∷ []
  -- "at L 1,023 number 0 is in the window; at 1,024 it gives 7"
  pub P8-in : (arrival (arrival (started 3) 1023).next 0).result ≡ 0
  pub P8-below : (arrival (arrival (started 3) 1024).next 0).result ≡ 7
