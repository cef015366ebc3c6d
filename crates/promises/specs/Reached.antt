-- Sequences that meet the premise of demand 3: five reach its bound, in one each of three frames makes one number passed over count anew, and in the last a confirmation takes nothing from S.
use Rattle.std.specs.Prelude.{ℕ, zero, suc, ◌+◌, ◌^◌, ◌≡◌, true, false, List, [], ◌∷◌}
use Rattle.receiver.specs.declared.Millis.{Millis}
use Rattle.seen.specs.declared.Micros.{Micros}
use Rattle.receiver.specs.declared.Receiver.{Receiver}
use Rattle.ecn.specs.declared.Mark.TheVariants.{None, Ce}
use Rattle.ecn.specs.declared.Kind.TheVariants.{Plain}
use Rattle.promises.specs.Sequence.{Call, packet, timer, immediate, threshold, write, confirm, Calls, none, in_order, opening}
use Rattle.promises.specs.Accepted.{accepted_of}
use Rattle.promises.specs.Counted.{E, S, F, C, I, D, W, opening_t}
use Rattle.promises.specs.Bound.{only_due, bound}

-- the usual delays
abbrev pub usual_maximum : Millis
usual_maximum = record { 0 = 25 }

abbrev pub usual_minimum : Micros
usual_minimum = record { 0 = 1000 }

-- an opening with T, R and these
abbrev pub opened_with : ℕ → ℕ → Receiver
opened_with t q = opening t q usual_maximum usual_minimum

-- the accepted ones of calls from it
abbrev pub accepted_from : ℕ → ℕ → List Call → Calls
accepted_from t q calls = accepted_of (opened_with t q) (in_order none calls)

-- n acknowledgments are written, each while one is due, and the bound is n
pub record Reaches (t q : ℕ) (calls : List Call) (n : ℕ) : Type 0 where
  pub due : only_due (opened_with t q) (in_order none calls) ≡ true
  pub written : W (accepted_from t q calls) ≡ n
  pub most : bound (opening_t t q usual_maximum usual_minimum) (accepted_from t q calls) ≡ n

-- each is written while one is due; E, S, F, C + I + D and W of the calls
pub record Comes (t q : ℕ) (calls : List Call) (e s f x w : ℕ) : Type 0 where
  pub due : only_due (opened_with t q) (in_order none calls) ≡ true
  pub eliciting : E (accepted_from t q calls) ≡ e
  pub passed : S (accepted_from t q calls) ≡ s
  pub frames : F (accepted_from t q calls) ≡ f
  pub others : C (accepted_from t q calls) + I (accepted_from t q calls) + D (accepted_from t q calls) ≡ x
  pub written : W (accepted_from t q calls) ≡ w

-- ---- calls

-- time 0
abbrev pub start : Micros
start = record { 0 = 0 }

-- packet n, ack-eliciting, without CE
abbrev pub arrives : ℕ → Call
arrives n = packet n start true None

-- a write in room 64
abbrev pub writes : Call
writes = write start Plain 64

-- n packets from number m on, and a write after each
unfoldable pub each_written : ℕ → ℕ → List Call
each_written zero m = []
each_written (suc n) m = arrives m ∷ writes ∷ each_written n (suc m)

-- nothing was agreed: each of two packets with CE is due
abbrev pub each_mark : List Call
each_mark = packet 0 start true Ce ∷ writes ∷ packet 1 start true Ce ∷ writes ∷ []

-- five packets exceed T 4; 6 passes 5 over; 5 comes late; 7 has CE; 8 waits for the timer; IMMEDIATE_ACK
abbrev pub every_cause : List Call
every_cause =
    arrives 0 ∷ arrives 1 ∷ arrives 2 ∷ arrives 3 ∷ arrives 4 ∷ writes
    ∷ arrives 6 ∷ writes
    ∷ arrives 5 ∷ writes
    ∷ packet 7 start true Ce ∷ writes
    ∷ arrives 8 ∷ timer (record { 0 = 25000 }) ∷ writes
    ∷ immediate ∷ writes
    ∷ []

-- a frame lowers T to 1; no count has the stale frame after it, number 2 the second time (6), the write without room (9), or 3, not ack-eliciting, in E or C
abbrev pub some_refused : List Call
some_refused =
    threshold 5 1 (record { 0 = 25000 }) 1 ∷ threshold 5 0 (record { 0 = 25000 }) 1
    ∷ arrives 0 ∷ arrives 1 ∷ writes
    ∷ arrives 2 ∷ arrives 2 ∷ write start Plain 1
    ∷ packet 3 start false Ce
    ∷ []

-- frame number n asks for R = q, with T 9
abbrev pub asks : ℕ → ℕ → Call
asks n q = threshold n 9 (record { 0 = 25000 }) q

-- number 0 is passed over by 1; each larger R makes it unreported again
abbrev pub raised_r : List Call
raised_r =
    arrives 1 ∷ writes
    ∷ asks 0 2 ∷ arrives 2 ∷ writes
    ∷ asks 1 3 ∷ arrives 3 ∷ writes
    ∷ asks 2 4 ∷ arrives 4 ∷ writes
    ∷ []

-- 1 is passed over by 2, and 3 by 4; the confirmation between them raises the floor above 1, and a second one above A is refused (19)
abbrev pub confirmed : List Call
confirmed = arrives 0 ∷ arrives 2 ∷ writes ∷ confirm 2 ∷ confirm 3 ∷ arrives 4 ∷ writes ∷ []

-- ---- the statement

-- the bound is reached, and F is needed
pub record Reached : Type 0 where
  -- T 0: twenty writes for E = 20
  pub many_writes : Reaches 0 1 (each_written 20 0) 20
  -- T 4, R 1: six writes, and 9 / (4 + 1) + 2 x 1 x (0 + 1) + (1 + 1 + 1)
  pub every_cause : Reaches 4 1 every_cause 6
  -- T 9, R 0: two writes, and C = 2
  pub each_mark : Reaches 9 0 each_mark 2
  -- T 4, then 1: one write, and 3 / (1 + 1)
  pub some_refused : Reaches 4 1 some_refused 1
  -- a refused opening: T is 1, one write, and 2 / (1 + 1)
  pub refused_opening : Reaches (2 ^ 62) 0 (arrives 0 ∷ arrives 1 ∷ writes ∷ []) 1
  -- T 9, R 1, then 2, 3, 4: four writes for S = 1
  pub raised_r : Comes 9 1 raised_r 4 1 3 0 4
  -- T 9, R 1: two writes, and "S [..] still counts all numbers passed over" (02, No. 12), 1 and 3
  pub confirmed : Comes 9 1 confirmed 3 2 0 0 2
