-- What the ACK reader answers and leaves in the lent slice, once its ranges and its counts are read: one law for each end.
-- Assumes nothing.
use Prim.Native.Nat.{ℕ, ◌+◌, ◌*◌, ◌≤◌, ◌<◌}
use mathlib.Core.Path.{◌≡◌, refl, sym, ap, ◌∙◌}
use mathlib.Core.Bool.{Bool, true, false}
use mathlib.Core.List.{List}
use borrow.Author.Tests.{le-leb, lt-leb}
use lib.ListN.{length}
use Rattle.std.specs.Prelude.{Option, Some, None, Result, Ok, Err, IsOk, is_ok}
use Rattle.wire.specs.Bytes.{splice}
use Rattle.wire.specs.Fields.{found}
use Rattle.wire.specs.Numbers.{read_number}
use Rattle.wire.specs.declared.Number.{Number}
use Rattle.wire.specs.declared.Refusal.{Refusal}
use Rattle.wire.specs.declared.Refusal.TheVariants.{Ends, NoRoom}
use Rattle.wire.proofs.Reading.{stop, next, yes, no}
use Rattle.frames.specs.Ack.{ranges_from, IsWhole, ending, read_tail, read_rest, ack, AckRead, refused, after_rest, read_ranges}
use Rattle.frames.specs.declared.Counts.{Counts}
use Rattle.frames.specs.declared.Ending.{Ending}
use Rattle.frames.specs.declared.Ack.{Ack}

-- an equation of the two is one of each
pub both : {a : Result Ack Refusal} {ys : List ℕ} {x : AckRead} → record { answer = a; slice = ys } ≡ x → (a ≡ x.answer) × (ys ≡ x.slice)
both e = (ap (λ (r : AckRead). r.answer) e, ap (λ (r : AckRead). r.slice) e)

-- and one of two readings brings both from the one to the other
pub both_so : {a : Result Ack Refusal} {ys : List ℕ} {x y : AckRead} → (a ≡ x.answer) × (ys ≡ x.slice) → x ≡ y → (a ≡ y.answer) × (ys ≡ y.slice)
both_so p e = (p.0 ∙ ap (λ (r : AckRead). r.answer) e, p.1 ∙ ap (λ (r : AckRead). r.slice) e)

-- a frame ends only after a whole walk
rest-whole : (s : List ℕ) (counted : Bool) (w : Result ℕ Refusal) → IsOk (read_rest counted s w) → IsWhole w
rest-whole s counted (Ok used) h = refl
rest-whole s counted (Err refusal) h = h

pub ended-whole : (s : List ℕ) (counted : Bool) {w v : Result ℕ Refusal} {u : Result Ending Refusal} {end : Ending} → w ≡ v → u ≡ read_rest counted s w → u ≡ Ok end → IsWhole v
ended-whole s counted {w} {v} d e t = rest-whole s counted v (ap is_ok (sym (ap (read_rest counted s) d) ∙ (sym e ∙ t)))

-- w is how the walk over the ranges ended, and u how what comes after them did
module _ (s : List ℕ) (at largest delay count : ℕ) (counted : Bool) (xs : List ℕ) {w : Result ℕ Refusal} {u : Result Ending Refusal} (d : w ≡ (ranges_from count s at largest).walk) (e : u ≡ read_rest counted s w) where
  pub ended_so : (v : Result Ending Refusal) → u ≡ v → after_rest v largest delay count (ranges_from count s at largest).pairs xs ≡ read_ranges s at largest delay count counted xs
  unfolding read_ranges
  ended_so v t = ap (λ (z : Result Ending Refusal). after_rest z largest delay count (ranges_from count s at largest).pairs xs) (sym t ∙ e ∙ ap (read_rest counted s) d)

  module _ {tail : Option Counts} {used : ℕ} (t : u ≡ ending tail used) where
    pub no_room : length xs < 2 * (count + 1) → refused NoRoom xs ≡ read_ranges s at largest delay count counted xs
    no_room h = no _ _ (lt-leb (2 * (count + 1)) (length xs) h) refl ∙ ended_so _ t

    -- ys is what the ranges' writer left
    pub accepted : {ys : List ℕ} → 2 * (count + 1) ≤ length xs → ys ≡ splice xs 0 (ranges_from count s at largest).pairs
        → record { answer = ack largest delay (count + 1) used tail; slice = ys } ≡ read_ranges s at largest delay count counted xs
    accepted h f = yes _ _ (le-leb (2 * (count + 1)) (length xs) h) (rw f) ∙ ended_so _ t

-- ---- the counts: n0, n1 and n2 are what reading them answers

pub tail_none : (s : List ℕ) (at : ℕ) {counted : Bool} → counted ≡ false → ending None at ≡ read_tail counted s at
unfolding read_tail
tail_none s at e = rw e

module _ (s : List ℕ) (at : ℕ) {counted : Bool} (e : counted ≡ true) {n0 : Result Number Refusal} (e0 : n0 ≡ read_number s at) where
  pub tail-cut : {refusal : Refusal} → n0 ≡ Err refusal → Err Ends ≡ read_tail counted s at
  unfolding read_tail
  tail-cut t = rw e (stop _ _ t e0)

  module _ {ect0 at1 : ℕ} {b0 : Bool} (t0 : n0 ≡ found ect0 at1 b0) {n1 : Result Number Refusal} (e1 : n1 ≡ read_number s at1) where
    pub tail-cut-2 : {refusal : Refusal} → n1 ≡ Err refusal → Err Ends ≡ read_tail counted s at
    unfolding read_tail
    tail-cut-2 t = rw e (next _ _ t0 e0 (stop _ _ t e1))

    module _ {ect1 at2 : ℕ} {b1 : Bool} (t1 : n1 ≡ found ect1 at2 b1) {n2 : Result Number Refusal} (e2 : n2 ≡ read_number s at2) where
      pub tail-cut-3 : {refusal : Refusal} → n2 ≡ Err refusal → Err Ends ≡ read_tail counted s at
      unfolding read_tail
      tail-cut-3 t = rw e (next _ _ t0 e0 (next _ _ t1 e1 (stop _ _ t e2)))

      pub tail-whole : {ce used : ℕ} {b2 : Bool} → n2 ≡ found ce used b2 → ending (Some (record { ect0 = ect0; ect1 = ect1; ce = ce })) used ≡ read_tail counted s at
      unfolding read_tail
      tail-whole t = rw e (next _ _ t0 e0 (next _ _ t1 e1 (next _ _ t e2 refl)))
