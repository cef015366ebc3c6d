-- Demand 3: how many acknowledgments are written, over every sequence of calls on one receiver from its opening.
use Rattle.std.specs.Prelude.{ℕ, ◌+◌, ◌*◌, ◌/◌, ◌≤◌, ◌≡◌, Bool, true, false, not, ◌&&◌, eqb}
use Rattle.wire.specs.Bytes.{pick}
use Rattle.receiver.specs.declared.Millis.{Millis}
use Rattle.seen.specs.declared.Micros.{Micros}
use Rattle.receiver.specs.declared.Receiver.{Receiver}
use Rattle.receiver.specs.Packet.{starts_congestion, congestion}
use Rattle.promises.specs.Sequence.{Calls, none, ◌then◌, Reply, accepted, stale, refused, after, replied, opening}
use Rattle.promises.specs.Accepted.{accepted_of, packets, frames}
use Rattle.promises.specs.Told.{last_mark, no_frame}
use Rattle.promises.specs.Counted.{E, S, T, F, C, I, D, W, is_write, opening_t}

-- ---- the premise

-- an acknowledgment is due: a cause stands
abbrev pub is_due : Receiver → Bool
is_due r = not (eqb r.cause 0)

abbrev pub is_accepted : Reply → Bool
is_accepted accepted = true
is_accepted stale = false
is_accepted (refused k) = false

-- "if acknowledgments are written only while one is due"
unfoldable pub only_due : Receiver → Calls → Bool
only_due r none = true
only_due r (cs then c) = only_due r cs && pick (is_write c && is_accepted (replied r cs c)) (is_due (after r cs)) true

-- ---- the bound

-- "E divided by T + 1, rounded down, plus 2 x S x (F + 1), plus C + I + D"; t is the opening's T, cs the accepted calls
abbrev pub bound : ℕ → Calls → ℕ
bound t cs = E cs / (T t cs + 1) + 2 * S cs * (F cs + 1) + (C cs + I cs + D cs)

-- "Over every sequence of calls on one receiver from its opening, [..] their number is at most" the bound; a refused opening's sequences too
abbrev pub WrittenAtMost : Type 0
WrittenAtMost =
    (t q : ℕ) (maximum : Millis) (minimum : Micros) (cs : Calls)
    → only_due (opening t q maximum minimum) cs ≡ true
    → W (accepted_of (opening t q maximum minimum) cs) ≤ bound (opening_t t q maximum minimum) (accepted_of (opening t q maximum minimum) cs)

-- "C counts accepted ack-eliciting packets for which the congestion line holds": the packet rule's own line, on the record that a packet with that mark finds, is the one that C reads
abbrev pub StartsAsRead : Type 0
StartsAsRead =
    (t q : ℕ) (maximum : Millis) (minimum : Micros) (cs : Calls) (ce : Bool)
    → congestion (after (opening t q maximum minimum) cs) ce
    ≡ starts_congestion ce (no_frame (frames (accepted_of (opening t q maximum minimum) cs))) (last_mark (packets (accepted_of (opening t q maximum minimum) cs)))
