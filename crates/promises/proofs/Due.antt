-- Due: the cause is that of the record that the accepted calls tell, its order line the one in numbers, and its congestion line the one that C reads.
-- Assumes nothing.
use Prim.Native.Nat.{ℕ, ◌+◌}
use mathlib.Core.Path.{◌≡◌, refl, ap, ap₂, ◌∙◌}
use mathlib.Core.Bool.{Bool, true, false, not, ◌&&◌}
use mathlib.Core.List.{List, [], ◌∷◌}
use native.Mathlib.Nat.{le-max_right}
use native.Mathlib.Omega.{arith}
use borrow.Author.Tests.{ne_eqb}
use lib.Dec.{ltb, eqb}
use Rattle.wire.specs.Bytes.{pick}
use Rattle.seen.specs.declared.Micros.{Micros}
use Rattle.receiver.specs.declared.Agreed.{Agreed}
use Rattle.receiver.specs.declared.Receiver.{Receiver}
use Rattle.receiver.specs.Packet.{starts_congestion, nothing_agreed, first_cause, congestion}
use Rattle.ecn.specs.declared.Mark.{Mark}
use Rattle.ecn.specs.Totals.{is_ce}
use Rattle.promises.specs.Sequence.{packet, Calls, ◌then◌, opening}
use Rattle.promises.specs.Accepted.{Packet, accepted_of, packets, since, before, frames}
use Rattle.promises.specs.Told.{largest, eliciting_of, last_mark, in_force, seen_of, pending_of}
use Rattle.promises.specs.Due.{known, of_packet, in_numbers, Due}
use Rattle.promises.specs.Bound.{StartsAsRead}
use Rattle.promises.proofs.Order.{in-numbers}
use Rattle.promises.proofs.Along.{no-frame, nothing-processed, agrees, cause-is}

-- a mark that was stored as 1 or 0 is read back
mark-kept : (b : Bool) → not (eqb (pick b 1 0) 0) ≡ b
mark-kept true = refl
mark-kept false = refl

-- where there is no packet the last one had no mark
no-packet : (ce none : Bool) (ps : List Packet)
    → starts_congestion ce none (not (eqb (largest ps) 0) && not (eqb (pick (last_mark ps) 1 0) 0)) ≡ starts_congestion ce none (last_mark ps)
unfolding largest last_mark
no-packet ce none [] = refl
no-packet ce none (p ∷ ps) =
    rw (ne_eqb (largest (p ∷ ps)) 0 (λ z. omega (arith, le-max_right (largest ps) (p.number + 1)))) (ap (starts_congestion ce none) (mark-kept (is_ce p.mark)))

congestion-told : (opened : Receiver) (cs : Calls) (ce : Bool)
    → congestion (known opened cs) ce ≡ starts_congestion ce (nothing_agreed (in_force opened.agreed (frames cs))) (last_mark (packets cs))
unfolding congestion seen_of
congestion-told opened cs ce = no-packet ce (nothing_agreed (in_force opened.agreed (frames cs))) (packets cs)

numbers-are : (opened : Receiver) (cs : Calls) (n : ℕ) (time : Micros) (mark : Mark) → of_packet opened cs n time mark ≡ in_numbers opened cs n time mark
unfolding first_cause seen_of pending_of
numbers-are opened cs n time mark =
    let values : Agreed = in_force opened.agreed (frames cs) in
    let now : Calls = cs then packet n time true mark in
    ap₂ (λ (b c : Bool). pick (ltb values.threshold (pending_of now).count) 2 (pick b 3 (pick c 4 0)))
    (in-numbers now values.reordering n (largest (eliciting_of (packets cs))) (largest (before cs)) (largest (eliciting_of (since now))))
    (congestion-told opened cs (is_ce mark))

pub due-is : Due
due-is = record { cause = cause-is; numbers = numbers-are }

pub starts-as-read : StartsAsRead
unfolding congestion
starts-as-read t q maximum minimum cs ce =
    ap (λ (r : Receiver). congestion r ce) (agrees t q maximum minimum cs)
    ∙ congestion-told (opening t q maximum minimum) (accepted_of (opening t q maximum minimum) cs) ce
    ∙ ap (λ (none : Bool). starts_congestion ce none (last_mark (packets (accepted_of (opening t q maximum minimum) cs))))
    (no-frame (opening t q maximum minimum).agreed (frames (accepted_of (opening t q maximum minimum) cs)) (nothing-processed t q maximum minimum))
