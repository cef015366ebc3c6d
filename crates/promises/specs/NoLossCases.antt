-- Settled cases of No loss kept back (02, No. 7): lists of calls that meet its premises, each way of its answer, and lists on which it would be false without one of them.
use Rattle.std.specs.Prelude.{ℕ, ◌≡◌, Bool, true, false, List, [], ◌∷◌, leb, ltb}
use Rattle.receiver.specs.declared.Receiver.{Receiver}
use Rattle.ecn.specs.declared.Mark.TheVariants.{None}
use Rattle.promises.specs.Sequence.{Call, packet, confirm, Calls, none, in_order, after}
use Rattle.promises.specs.Accepted.{accepted_of, packets}
use Rattle.promises.specs.Told.{largest, eliciting_of, among, floor_in}
use Rattle.promises.specs.Reached.{opened_with, start, arrives, writes, asks}
use Rattle.promises.specs.NoLoss.{r_in_force, under_same_r, written_up_to}

-- calls from an opening with T 9 and R = q
abbrev pub opened : ℕ → Receiver
opened q = opened_with 9 q

abbrev pub acc : ℕ → List Call → Calls
acc q calls = accepted_of (opened q) (in_order none calls)

-- of calls from it: number m is missing, and whether it is a window number; R in force; whether n came, ack-eliciting, since then; the cause; how far was written
pub record Shows (q : ℕ) (calls : List Call) (m : ℕ) (inWindow : Bool) (r n : ℕ) (counts : Bool) (c w : ℕ) : Type 0 where
  pub missing : among (packets (acc q calls)) m ≡ false
  pub window : leb (floor_in (acc q calls)) m ≡ inWindow
  pub below : ltb m (largest (packets (acc q calls))) ≡ true
  pub in_force : r_in_force (opened q) (acc q calls) ≡ r
  pub since : among (eliciting_of (under_same_r (opened q) (acc q calls))) n ≡ counts
  pub cause : (after (opened q) (in_order none calls)).cause ≡ c
  pub written : written_up_to (acc q calls) ≡ w

pub record Cases : Type 0 where
  -- ---- the premises are met

  -- R 3: 0 and 4 come, and 1 + 3 is reached: due by order
  pub due : Shows 3 (arrives 0 ∷ arrives 4 ∷ []) 1 true 3 4 true 3 0
  -- then it is written: nothing is due, and the ACK's largest number is 4
  pub behind : Shows 3 (arrives 0 ∷ arrives 4 ∷ writes ∷ []) 1 true 3 4 true 0 5
  -- 4, not ack-eliciting, is the largest number of the ACK, and 1 + 3 was reported by it: 5 is not due
  pub either : Shows 3 (arrives 0 ∷ arrives 2 ∷ arrives 3 ∷ packet 4 start false None ∷ writes ∷ arrives 5 ∷ []) 1 true 3 5 true 0 5
  -- R 3, then 3 again: 4 still counts
  pub repeated : Shows 3 (arrives 0 ∷ arrives 4 ∷ asks 0 3 ∷ []) 1 true 3 4 true 3 0
  -- once the sender has confirmed that ACK, 1 is no window number any more
  pub confirmed : Shows 3 (arrives 0 ∷ arrives 4 ∷ writes ∷ confirm 4 ∷ []) 1 false 3 4 true 0 5
  -- R 2,000 acts as 1,023: at 1,024 the missing number 1, which is 1,023 below, is due
  pub above : Shows 2000 (arrives 0 ∷ arrives 1024 ∷ []) 1 true 2000 1024 true 3 0
  -- ---- one of them is not, and nothing is due or written

  -- 4 came before R became 3: it does not count
  pub changed : Shows 4 (arrives 0 ∷ arrives 4 ∷ asks 0 3 ∷ []) 1 true 3 4 false 0 0
  -- R 0: 2 came, and 1 + 0 is reached
  pub never : Shows 0 (arrives 0 ∷ arrives 2 ∷ []) 1 true 0 2 true 0 0
  -- R 1 (RFC 9000's rule) looks between the earlier H and the packet: 1 was passed over under R 0, 3 comes under R 1, and 1 + 1 is reached
  pub one : Shows 0 (arrives 0 ∷ arrives 2 ∷ asks 0 1 ∷ arrives 3 ∷ []) 1 true 1 3 true 0 0
  -- a packet that is not ack-eliciting does not count
  pub plain : Shows 3 (arrives 0 ∷ packet 4 start false None ∷ []) 1 true 3 4 false 0 0
