-- Told: each quantity is read off the record that the accepted calls tell.
-- Assumes nothing.
use Prim.Native.Nat.{ℕ, ◌+◌, ◌^◌, ◌≤◌, ◌<◌, min}
use mathlib.Core.Path.{◌≡◌, refl, sym, ap, ◌∙◌, subst}
use mathlib.Core.Bool.{Bool, false}
use mathlib.Core.List.{List, [], ◌∷◌}
use native.Mathlib.Nat.{le-max_right}
use native.Mathlib.Omega.{arith}
use lib.ListN.{length}
use Rattle.wire.proofs.Lengths.{split}
use Rattle.window.specs.Window.{is_set}
use Rattle.receiver.specs.declared.Millis.{Millis}
use Rattle.seen.specs.declared.Micros.{Micros}
use Rattle.seen.specs.declared.Seen.{Seen}
use Rattle.receiver.specs.declared.Pending.{Pending}
use Rattle.receiver.specs.declared.Receiver.{Receiver}
use Rattle.seen.specs.Received.{floor, floor_of, place_of, received}
use Rattle.ecn.specs.declared.Mark.{Mark}
use Rattle.promises.specs.Sequence.{packet, threshold, Calls, accepted, after, replied, opening}
use Rattle.promises.specs.Accepted.{Packet, accepted_of, packets, since, frames}
use Rattle.promises.specs.Told.{largest, eliciting_of, among, first_arrival, largest_sequence, seen_of, left_arrival, pending_of, tell, Told}
use Rattle.ecn.specs.declared.Totals.{Totals}
use Rattle.promises.specs.Totals.{BelowLimit, AddUp}
use Rattle.promises.proofs.Totals.{add-up-of}
use Rattle.promises.proofs.Acceptance.{step-meets}
use Rattle.promises.proofs.Packets.{none_above}
use Rattle.promises.proofs.Marks.{told-value, told-number, seen}
use Rattle.promises.proofs.Along.{agrees, cause-is, seen-is, end_is, sequence-is, totals-are}

-- of packets of which there is one the first arrival does not depend on what stood before
first_any : (x y : Micros) (ps : List Packet) → 0 < min (length ps) (2 ^ 62) → first_arrival x ps ≡ first_arrival y ps
unfolding first_arrival
first_any x y [] h = absurd (omega arith)
first_any x y (p ∷ ps) h = refl

module _ (t q : ℕ) (m : Millis) (u : Micros) (cs : Calls) where
  abbrev o : Receiver
  o = opening t q m u

  abbrev acc : Calls
  acc = accepted_of (opening t q m u) cs

  whole_is : after o cs ≡ tell o acc (after o cs).cause
  whole_is = agrees t q m u cs ∙ ap (tell o acc) (sym (cause-is t q m u cs))

  pub window-is : (n : ℕ) → floor (after o cs).seen ≤ n → n < (after o cs).seen.end → received (after o cs).seen n ≡ among (packets acc) n
  unfolding seen_of
  window-is n l h =
      let f : (after o cs).seen.end ≡ largest (packets acc) = end_is t q m u cs in
      ap (λ (s : Seen). received s n) (seen-is t q m u cs) ∙ ap (λ (w : ℕ). is_set w (place_of (largest (packets acc)) n)) (told-value (packets acc))
      ∙ told-number (packets acc) n (omega (arith, le-max_right (after o cs).seen.confirmed (floor_of (after o cs).seen.end)))

  once : (n : ℕ) (time : Micros) (eliciting : Bool) (mark : Mark) → replied o cs (packet n time eliciting mark) ≡ accepted → among (packets acc) n ≡ false
  once n time eliciting mark e =
      let k = step-meets (after o cs) (packet n time eliciting mark) e in
      split (after o cs).seen.end n
      (λ h. none_above (packets acc) n (omega (arith, end_is t q m u cs)))
      (λ h. sym (window-is n k.window h) ∙ k.fresh h)

  first-is : (other : Micros) → 0 < (after o cs).pending.count → (after o cs).pending.first ≡ first_arrival other (eliciting_of (since acc))
  unfolding pending_of
  first-is other h =
      let e : (after o cs).pending ≡ pending_of acc = ap (λ (r : Receiver). r.pending) (agrees t q m u cs) in
      let f : (after o cs).pending.count ≡ min (length (eliciting_of (since acc))) (2 ^ 62) = ap (λ (p : Pending). p.count) e in
      ap (λ (p : Pending). p.first) e ∙ first_any (left_arrival acc) other (eliciting_of (since acc)) (rw (← f) h)

  newest : (s a : ℕ) (d : Micros) (b : ℕ) → replied o cs (threshold s a d b) ≡ accepted → largest_sequence (frames acc) ≤ s
  newest s a d b e = omega (arith, sequence-is t q m u cs, (step-meets (after o cs) (threshold s a d b) e).newer)

pub told : Told
told t q m u cs =
    record {
      whole = whole_is t q m u cs;
      window = window-is t q m u cs;
      once = once t q m u cs;
      first = first-is t q m u cs;
      sequence = sequence-is t q m u cs;
      newest = newest t q m u cs;
    }

-- the totals are those of the accepted packets, so what holds of these holds of them
pub add-up : AddUp
add-up t q m u cs b =
    let e = totals-are t q m u cs in
    let f = add-up-of (packets (accepted_of (opening t q m u) cs)) (subst BelowLimit e b) in
    subst (λ (n : Totals). n.ect0 + n.ect1 + n.ce + n.unmarked ≡ length (packets (accepted_of (opening t q m u) cs))) (sym e) f
