-- No loss is kept back (02, No. 7). While one R from 2 to 1,023 stays in force, a missing number that an ack-eliciting packet has left R or more behind is never passed over in silence:
-- an acknowledgment is due, or one has been written that reaches as far. All is read from the list of calls; what may be absent is an end, one past the number, and 0 for none.
use Rattle.std.specs.Prelude.{ℕ, ◌+◌, ◌≤◌, ◌<◌, max, ◌≡◌, Bool, true, false, List, [], ◌∷◌, ◌⊎◌, eqb}
use Rattle.wire.specs.Bytes.{pick}
use Rattle.receiver.specs.declared.Millis.{Millis}
use Rattle.seen.specs.declared.Micros.{Micros}
use Rattle.receiver.specs.declared.Receiver.{Receiver}
use Rattle.promises.specs.Sequence.{packet, timer, immediate, threshold, write, confirm, Calls, none, ◌then◌, opening}
use Rattle.promises.specs.Accepted.{Packet, packet_of, accepted_of, packets, frames}
use Rattle.promises.specs.Told.{largest, eliciting_of, among, in_force, floor_in}
use Rattle.promises.specs.Due.{due}

-- ---- "since R came into force"

-- the R in force after accepted calls: that of the frame with the largest sequence, and the opening's where there is none
unfoldable pub r_in_force : Receiver → Calls → ℕ
r_in_force opened cs = (in_force opened.agreed (frames cs)).reordering

-- whether R is the same after some calls as after others
unfoldable pub same_r : Receiver → Calls → Calls → Bool
same_r opened old new = eqb (r_in_force opened new) (r_in_force opened old)

-- the packets accepted since R last changed, all of them where it never did; a frame that brings the same R does not start anew
unfoldable pub under_same_r : Receiver → Calls → List Packet
under_same_r opened none = []
under_same_r opened (cs then packet n time eliciting mark) = packet_of n time eliciting mark ∷ under_same_r opened cs
under_same_r opened (cs then timer time) = under_same_r opened cs
under_same_r opened (cs then immediate) = under_same_r opened cs
under_same_r opened (cs then threshold s t d q) = pick (same_r opened cs (cs then threshold s t d q)) (under_same_r opened cs) []
under_same_r opened (cs then write time kind room) = under_same_r opened cs
under_same_r opened (cs then confirm k) = under_same_r opened cs

-- ---- "one has been written whose largest number is"

-- the end of the largest number that any written ACK had: of each it was L then
unfoldable pub written_up_to : Calls → ℕ
written_up_to none = 0
written_up_to (cs then packet n time eliciting mark) = written_up_to cs
written_up_to (cs then timer time) = written_up_to cs
written_up_to (cs then immediate) = written_up_to cs
written_up_to (cs then threshold s t d q) = written_up_to cs
written_up_to (cs then write time kind room) = max (written_up_to cs) (largest (packets cs))
written_up_to (cs then confirm k) = written_up_to cs

-- ---- the statement

-- what holds of accepted calls, with the distance r
abbrev pub KeepsNoneBack : Receiver → Calls → ℕ → Type 0
KeepsNoneBack opened cs r =
    -- "for every window number m still missing"; "No. 7 reads the window from this floor" (02, No. 12)
    (m : ℕ)
    → floor_in cs ≤ m
    → m < largest (packets cs)
    → among (packets cs) m ≡ false
    -- "if an ack-eliciting packet numbered m + R or more was accepted since R came into force"
    → (n : ℕ)
    → among (eliciting_of (under_same_r opened cs)) n ≡ true
    → m + r ≤ n
    -- "then an acknowledgment is due or one has been written whose largest number is at least m + R"
    -- due by the rules as the calls tell them; the record's cause is the same (Due, in its field cause)
    → (due opened cs ≡ 0 → ⊥) ⊎ (m + r < written_up_to cs)

-- "after each call [..] for all orders of calls from an opening, refused ones included": cs are any calls, of which the accepted ones are read
pub record NoLossKeptBack : Type 0 where
  -- "while one R from 2 to 1,023 stays in force"
  pub within : (t q : ℕ) (m : Millis) (u : Micros) (cs : Calls) → 2 ≤ r_in_force (opening t q m u) (accepted_of (opening t q m u) cs)
      → r_in_force (opening t q m u) (accepted_of (opening t q m u) cs) ≤ 1023
      → KeepsNoneBack (opening t q m u) (accepted_of (opening t q m u) cs) (r_in_force (opening t q m u) (accepted_of (opening t q m u) cs))
  -- "An R above 1,023 acts as 1,023": no window number lies further below a packet, and with 1,023 for R the same holds
  pub above : (t q : ℕ) (m : Millis) (u : Micros) (cs : Calls) → 1023 ≤ r_in_force (opening t q m u) (accepted_of (opening t q m u) cs)
      → KeepsNoneBack (opening t q m u) (accepted_of (opening t q m u) cs) 1023
