-- Due: after any calls from an opening the cause is the one that the rules give when they are read from the accepted calls.
use Rattle.std.specs.Prelude.{ℕ, ◌≡◌, Bool, true, false, ltb}
use Rattle.wire.specs.Bytes.{pick}
use Rattle.receiver.specs.declared.Millis.{Millis}
use Rattle.seen.specs.declared.Micros.{Micros}
use Rattle.receiver.specs.declared.Receiver.{Receiver}
use Rattle.receiver.specs.Packet.{starts_congestion, nothing_agreed, standing, first_cause}
use Rattle.receiver.specs.Calls.{timer_due}
use Rattle.ecn.specs.declared.Mark.{Mark}
use Rattle.ecn.specs.Totals.{is_ce}
use Rattle.promises.specs.Sequence.{packet, timer, immediate, threshold, write, confirm, Calls, none, ◌then◌, after, opening}
use Rattle.promises.specs.Accepted.{accepted_of, packets, since, before, frames}
use Rattle.promises.specs.Told.{largest, eliciting_of, last_mark, in_force, floor_in, seen_of, pending_of, tell}
use Rattle.promises.specs.Order.{order_of}

-- what the calls tell, no cause among it
abbrev pub known : Receiver → Calls → Receiver
known opened cs = tell opened cs 0

-- the first of the causes 2, 3, 4 that holds for an ack-eliciting packet, 0 where none does: N, U and the window are those with it, T, R, A, H and the last CE mark those before it
abbrev pub of_packet : Receiver → Calls → ℕ → Micros → Mark → ℕ
of_packet opened cs n time mark =
    first_cause (known opened cs) n (is_ce mark) (seen_of (cs then packet n time true mark)) (pending_of (cs then packet n time true mark))

-- "If no cause stands, the first that holds becomes the cause"; "A cause, once set, stays until an ACK is written"
unfoldable pub due : Receiver → Calls → ℕ
due opened none = 0
due opened (cs then packet n time true mark) = standing (due opened cs) (of_packet opened cs n time mark)
due opened (cs then packet n time false mark) = due opened cs
due opened (cs then timer time) = standing (due opened cs) (pick (timer_due (known opened cs) time) 5 0)
due opened (cs then immediate) = standing (due opened cs) 1
due opened (cs then threshold s t d q) = due opened cs
due opened (cs then write time kind room) = 0
due opened (cs then confirm k) = due opened cs

-- the same in numbers, from the lists alone: 2, N > T; 3, order; 4, congestion
abbrev pub in_numbers : Receiver → Calls → ℕ → Micros → Mark → ℕ
in_numbers opened cs n time mark =
    let values = in_force opened.agreed (frames cs) in
    let now = cs then packet n time true mark in
    pick (ltb values.threshold (pending_of now).count) 2
    (pick (order_of (floor_in now) (packets now) values.reordering n (largest (eliciting_of (packets cs))) (largest (before cs)) (largest (eliciting_of (since now)))) 3
    (pick (starts_congestion (is_ce mark) (nothing_agreed values) (last_mark (packets cs))) 4 0))

pub record Due : Type 0 where
  -- the cause after any calls from any opening
  pub cause : (t q : ℕ) (m : Millis) (u : Micros) (cs : Calls) → (after (opening t q m u) cs).cause ≡ due (opening t q m u) (accepted_of (opening t q m u) cs)
  -- and what its packet lines come to in numbers
  pub numbers : (opened : Receiver) (cs : Calls) (n : ℕ) (time : Micros) (mark : Mark) → of_packet opened cs n time mark ≡ in_numbers opened cs n time mark
