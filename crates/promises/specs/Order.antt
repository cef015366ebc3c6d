-- The order line read in packet numbers: which of them are missing is seen from the accepted packets, no window and no place is spoken of.
use Rattle.std.specs.Prelude.{ℕ, zero, suc, ◌+◌, ◌-◌, min, max, ◌≡◌, Bool, true, false, ◌||◌, List, leb, ltb, Option, Some, None}
use Rattle.receiver.specs.declared.Millis.{Millis}
use Rattle.seen.specs.declared.Micros.{Micros}
use Rattle.receiver.specs.declared.Receiver.{Receiver}
use Rattle.seen.specs.Received.{is_any}
use Rattle.receiver.specs.Packet.{order}
use Rattle.ecn.specs.declared.Mark.{Mark}
use Rattle.ecn.specs.declared.Mark.TheVariants.{None as Unmarked}
use Rattle.ecn.specs.declared.Kind.TheVariants.{Plain}
use Rattle.promises.specs.Sequence.{packet, write, Calls, none, ◌then◌, accepted, after, replied, opening}
use Rattle.promises.specs.Accepted.{Packet, packets}
use Rattle.promises.specs.Told.{largest, among, floor_in, seen_of}

-- the smallest of k numbers from n on that is not among the packets
unfoldable pub missing_from : List Packet → ℕ → ℕ → Option ℕ
missing_from ps zero n = None
missing_from ps (suc k) n = elim (among ps n) [ true ↦ missing_from ps k (suc n) | false ↦ Some n ]

-- "missing numbers are sought only in the window", from the floor up to L: the smallest from `from` up to below `to`
unfoldable pub smallest_missing : ℕ → List Packet → ℕ → ℕ → Option ℕ
smallest_missing floor ps from to = missing_from ps (min to (largest ps) - max from floor) (max from floor)

-- "U - m >= R", where U's end is `end`
abbrev pub far_below : ℕ → ℕ → Option ℕ → Bool
far_below reach end (Some m) = leb (m + reach) (end - 1)
far_below reach end None = false

-- "3, order": the floor and the packets with this one, R, this one's number, the earlier H, A and U
unfoldable pub order_of : ℕ → List Packet → ℕ → ℕ → ℕ → ℕ → ℕ → Bool
order_of floor ps zero n highest acknowledged end = false
order_of floor ps (suc zero) n highest acknowledged end = ltb (n + 1) highest || is_any (smallest_missing floor ps highest n)
order_of floor ps (suc (suc r)) n highest acknowledged end =
    far_below (min (suc (suc r)) 1023) end (smallest_missing floor ps (acknowledged - min (suc (suc r)) 1023) (end - 1))

-- the line that the calls go by, on the window that any accepted calls tell, says this
abbrev pub InNumbers : Type 0
InNumbers = (cs : Calls) (r n highest acknowledged end : ℕ) → order (seen_of cs) r n highest acknowledged end ≡ order_of (floor_in cs) (packets cs) r n highest acknowledged end

-- ---- U and H

-- "U - m >= R" asked of H instead: for an accepted ack-eliciting packet after any calls from an opening the line says the same. `old` and `new` are the records before and after it.
abbrev pub SameByHighest : Type 0
SameByHighest =
    (t q : ℕ) (maximum : Millis) (minimum : Micros) (cs : Calls) (n : ℕ) (time : Micros) (mark : Mark)
    → replied (opening t q maximum minimum) cs (packet n time true mark) ≡ accepted
    → let old = after (opening t q maximum minimum) cs in
    let new = after (opening t q maximum minimum) (cs then packet n time true mark) in
    order new.seen old.agreed.reordering n old.highest old.acknowledged new.highest
    ≡ order new.seen old.agreed.reordering n old.highest old.acknowledged new.pending.end

-- packets 0 and 2, a write, and packet 1, all ack-eliciting, on a usual opening
abbrev pub apart : Receiver
apart =
    let start : Micros = record { 0 = 0 } in
    after (opening 1 1 (record { 0 = 25 }) (record { 0 = 1000 }))
    (none then packet 0 start true Unmarked then packet 2 start true Unmarked then write start Plain 64 then packet 1 start true Unmarked)

-- and yet the two may be apart: then U is 1 and H is 2
pub record Apart : Type 0 where
  pub unacknowledged : apart.pending.end ≡ 2
  pub highest : apart.highest ≡ 3
