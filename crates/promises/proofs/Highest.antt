-- The order line with H instead of U: where H is above U it was accepted before the last written ACK, so that no unreported missing number lies R below either.
-- Assumes nothing.
use Prim.Native.Nat.{ℕ, zero, suc, ◌+◌, ◌-◌, ◌≤◌, min}
use mathlib.Core.Path.{◌≡◌, refl, ap, ap₂, sym, ◌∙◌}
use mathlib.Core.Bool.{Bool, true, false}
use mathlib.Core.List.{List}
use native.Mathlib.Omega.{arith}
use borrow.Author.Tests.{lt-leb}
use Rattle.wire.proofs.Lengths.{split}
use Rattle.std.specs.Prelude.{Option, Some, None}
use Rattle.receiver.specs.declared.Millis.{Millis}
use Rattle.seen.specs.declared.Micros.{Micros}
use Rattle.receiver.specs.declared.Receiver.{Receiver}
use Rattle.receiver.specs.Packet.{order}
use Rattle.ecn.specs.declared.Mark.{Mark}
use Rattle.promises.specs.Sequence.{packet, Calls, ◌then◌, accepted, after, replied, opening}
use Rattle.promises.specs.Accepted.{Packet, accepted_of, packets, since, before}
use Rattle.promises.specs.Told.{largest, eliciting_of, floor_in, pending_of, tell}
use Rattle.promises.specs.Order.{smallest_missing, far_below, order_of, SameByHighest}
use Rattle.promises.specs.Due.{due}
use Rattle.promises.proofs.Packets.{pending-below, highest-reported}
use Rattle.promises.proofs.Order.{Found, found, in-numbers}
use Rattle.promises.proofs.Along.{agrees}

-- what A has reached is reported
reported : (floor : ℕ) (ps : List Packet) (reach acknowledged end : ℕ) → end ≤ acknowledged → far_below reach end (smallest_missing floor ps (acknowledged - reach) (end - 1)) ≡ false
reported floor ps reach acknowledged end h = go (smallest_missing floor ps (acknowledged - reach) (end - 1)) refl
  where
    go : (x : Option ℕ) → smallest_missing floor ps (acknowledged - reach) (end - 1) ≡ x → far_below reach end x ≡ false
    go None e = refl
    go (Some m) e =
        let v : Found ps (acknowledged - reach) (end - 1) m = found floor ps (acknowledged - reach) (end - 1) m e in
        lt-leb (m + reach) (end - 1) (omega (arith, v.least, v.most))

same-by-highest : (cs : Calls) (r n highest : ℕ)
    → order_of (floor_in cs) (packets cs) r n highest (largest (before cs)) (largest (eliciting_of (packets cs)))
    ≡ order_of (floor_in cs) (packets cs) r n highest (largest (before cs)) (largest (eliciting_of (since cs)))
unfolding order_of
same-by-highest cs zero n highest = refl
same-by-highest cs (suc zero) n highest = refl
same-by-highest cs (suc (suc r)) n highest =
    let h : ℕ = largest (eliciting_of (packets cs)) in
    let u : ℕ = largest (eliciting_of (since cs)) in
    let a : ℕ = largest (before cs) in
    let reach : ℕ = min (suc (suc r)) 1023 in
    split h u
    (λ l.
    let e : h ≡ u = omega (arith, pending-below cs) in
    ap (λ (end : ℕ). far_below reach end (smallest_missing (floor_in cs) (packets cs) (a - reach) (end - 1))) e)
    (λ l.
    reported (floor_in cs) (packets cs) reach a h (omega (arith, highest-reported cs))
    ∙ sym (reported (floor_in cs) (packets cs) reach a u (omega (arith, highest-reported cs))))

module _ (t q : ℕ) (m : Millis) (w : Micros) (cs : Calls) (n : ℕ) (time : Micros) (mark : Mark) (e : replied (opening t q m w) cs (packet n time true mark) ≡ accepted) where
  abbrev o : Receiver
  o = opening t q m w

  abbrev acc : Calls
  acc = accepted_of (opening t q m w) cs

  now : Calls
  now = acc then packet n time true mark

  -- the record with the packet
  new_told : after o (cs then packet n time true mark) ≡ tell o now (due o now)
  unfolding accepted_of now
  new_told = rw e at (agrees t q m w (cs then packet n time true mark))

  -- the line on the two records, with the end of H or of U, in numbers
  line : (end : Receiver → ℕ)
      → order (after o (cs then packet n time true mark)).seen (after o cs).agreed.reordering n (after o cs).highest (after o cs).acknowledged (end (after o (cs then packet n time true mark)))
      ≡ order_of (floor_in now) (packets now) (after o cs).agreed.reordering n (after o cs).highest (largest (before now)) (end (tell o now (due o now)))
  unfolding now before
  line end =
      ap₂ (λ (x y : Receiver). order x.seen (after o cs).agreed.reordering n (after o cs).highest y.acknowledged (end x)) new_told (agrees t q m w cs)
      ∙ in-numbers now (after o cs).agreed.reordering n (after o cs).highest (largest (before acc)) (end (tell o now (due o now)))

pub same : SameByHighest
unfolding pending_of
same t q m w cs n time mark e =
    line t q m w cs n time mark e (λ r. r.highest)
    ∙ same-by-highest (now t q m w cs n time mark e) (after (opening t q m w) cs).agreed.reordering n (after (opening t q m w) cs).highest
    ∙ sym (line t q m w cs n time mark e (λ r. r.pending.end))
