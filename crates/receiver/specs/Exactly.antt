-- The refusal table for the calls on the record: the rows that concern a call, in the paper's order; the first that applies is given.
use Rattle.std.specs.Prelude.{ℕ, zero, suc, ◌≡◌, Bool, not, ◌&&◌, List, [], ◌∷◌, leb, ltb, eqb}
use Rattle.wire.specs.Bytes.{pick}
use Rattle.receiver.specs.declared.Millis.{Millis}
use Rattle.seen.specs.declared.Micros.{Micros}
use Rattle.receiver.specs.declared.Receiver.{Receiver}
use Rattle.ecn.specs.declared.Mark.{Mark}
use Rattle.receiver.specs.declared.Verdict.{Verdict}
use Rattle.receiver.specs.declared.Verdict.TheVariants.{Accepted, Stale, Refused}
use Rattle.seen.specs.Numbers.{small}
use Rattle.seen.specs.Received.{floor, received}
use Rattle.receiver.specs.Record.{limits_rule, delay_rule, consistent}
use Rattle.receiver.specs.Packet.{packet_call}
use Rattle.receiver.specs.Confirm.{not_acknowledged, confirm_call}
use Rattle.receiver.specs.Calls.{usual, open_call, timer_call, immediate_call, threshold_call}

-- a row of the table: its number, and whether it applies to the call
pub record Row : Type 0 where
  pub number : ℕ
  pub applies : Bool

abbrev pub row : ℕ → Bool → Row
row n b = record { number = n; applies = b }

-- the number of the first row that applies, 0 where none does
unfoldable pub first : List Row → ℕ
first [] = 0
first (x ∷ rows) = pick x.applies x.number (first rows)

-- "the record handed in is not consistent"
abbrev pub inconsistent : Receiver → Row
inconsistent r = row 1 (not (consistent r))

abbrev pub open_rows : ℕ → ℕ → Millis → Micros → List Row
open_rows threshold reordering maximum minimum =
    row 5 (not (small threshold && (small reordering && (small maximum.0 && small minimum.0))))
    ∷ row 4 (not (limits_rule (record { maximum = maximum; minimum = minimum })))
    ∷ []

abbrev pub packet_rows : Receiver → ℕ → Micros → List Row
packet_rows r n time =
    inconsistent r
    ∷ row 5 (not (small n && small time.0))
    ∷ row 6 (leb (floor r.seen) n && (ltb n r.seen.end && received r.seen n))
    ∷ row 7 (ltb n (floor r.seen))
    ∷ []

abbrev pub timer_rows : Receiver → Micros → List Row
timer_rows r time = inconsistent r ∷ row 5 (not (small time.0)) ∷ []

abbrev pub immediate_rows : Receiver → List Row
immediate_rows r = inconsistent r ∷ row 8 (eqb r.seen.end 0) ∷ []

abbrev pub threshold_rows : Receiver → ℕ → ℕ → Micros → ℕ → List Row
threshold_rows r sequence threshold delay reordering =
    inconsistent r
    ∷ row 5 (not (small sequence && (small threshold && (small delay.0 && small reordering))))
    ∷ row 4 (not (delay_rule r.limits delay))
    ∷ []

abbrev pub confirm_rows : Receiver → ℕ → List Row
confirm_rows r k =
    inconsistent r ∷ row 5 (not (small k)) ∷ row 8 (eqb r.seen.end 0) ∷ row 19 (not_acknowledged r k) ∷ []

-- stale comes after every refusal
abbrev pub verdict_of : ℕ → Bool → Verdict
verdict_of zero stale = pick stale Stale Accepted
verdict_of (suc k) stale = Refused (suc k)

-- each call's answer is that of its rows
pub record Exactly : Type 0 where
  pub opening : (t q : ℕ) (m : Millis) (u : Micros) → (open_call t q m u).result ≡ first (open_rows t q m u)
  pub packet : (r : Receiver) (n : ℕ) (time : Micros) (eliciting : Bool) (mark : Mark) → (packet_call r n time eliciting mark).result ≡ first (packet_rows r n time)
  pub timer : (r : Receiver) (time : Micros) → (timer_call r time).result ≡ first (timer_rows r time)
  pub immediate : (r : Receiver) → (immediate_call r).result ≡ first (immediate_rows r)
  pub threshold : (r : Receiver) (s t : ℕ) (d : Micros) (q : ℕ) → (threshold_call r s t d q).verdict ≡ verdict_of (first (threshold_rows r s t d q)) (ltb s r.agreed.sequence)
  pub confirm : (r : Receiver) (k : ℕ) → (confirm_call r k).result ≡ first (confirm_rows r k)

-- a refused or stale call hands the record back as it came, and a refused opening the usual record
pub record Unchanged : Type 0 where
  pub opening : (t q : ℕ) (m : Millis) (u : Micros) → ((open_call t q m u).result ≡ 0 → ⊥) → (open_call t q m u).next ≡ usual
  pub packet : (r : Receiver) (n : ℕ) (time : Micros) (eliciting : Bool) (mark : Mark) → ((packet_call r n time eliciting mark).result ≡ 0 → ⊥) → (packet_call r n time eliciting mark).next ≡ r
  pub timer : (r : Receiver) (time : Micros) → ((timer_call r time).result ≡ 0 → ⊥) → (timer_call r time).next ≡ r
  pub immediate : (r : Receiver) → ((immediate_call r).result ≡ 0 → ⊥) → (immediate_call r).next ≡ r
  pub threshold : (r : Receiver) (s t : ℕ) (d : Micros) (q : ℕ) → ((threshold_call r s t d q).verdict ≡ Accepted → ⊥) → (threshold_call r s t d q).next ≡ r
  pub confirm : (r : Receiver) (k : ℕ) → ((confirm_call r k).result ≡ 0 → ⊥) → (confirm_call r k).next ≡ r
