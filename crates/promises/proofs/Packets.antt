-- Laws of the lists of accepted packets: what one packet more does to them, and how those since the last written ACK and those before it make up all, by cases on the last call.
-- Assumes nothing.
use Prim.Native.Nat.{ℕ, ◌+◌, ◌≤◌, max}
use mathlib.Core.Path.{◌≡◌, refl}
use mathlib.Core.Bool.{Bool, true, false}
use mathlib.Core.List.{List, [], ◌∷◌}
use native.Mathlib.Nat.{le-max_left, le-max_right}
use native.Mathlib.Omega.{arith}
use borrow.Author.Tests.{ne_eqb}
use Rattle.wire.specs.Bytes.{pick}
use Rattle.promises.specs.Sequence.{packet, timer, immediate, threshold, write, confirm, Calls, none, ◌then◌}
use Rattle.promises.specs.Accepted.{Packet, packets, since, before}
use Rattle.promises.specs.Told.{largest, eliciting_of, among}

-- a number from the largest's end on is not among them
pub none_above : (ps : List Packet) (m : ℕ) → largest ps ≤ m → among ps m ≡ false
unfolding largest among
none_above [] m h = refl
none_above (p ∷ ps) m h =
    let u : largest ps ≤ m = omega (arith, le-max_left (largest ps) (p.number + 1)) in
    let w : p.number ≡ m → ⊥ = λ e. omega (arith, le-max_right (largest ps) (p.number + 1)) in
    rw (ne_eqb p.number m w) (none_above ps m u)

module _ (p : Packet) (ps : List Packet) where
  -- L does not fall
  pub largest-grows : largest ps ≤ largest (p ∷ ps)
  unfolding largest
  largest-grows = le-max_left (largest ps) (p.number + 1)

  -- nor does the largest of the ack-eliciting ones
  pub highest-grows : largest (eliciting_of ps) ≤ largest (eliciting_of (p ∷ ps))
  unfolding largest eliciting_of
  highest-grows = go p.eliciting
    where
      go : (b : Bool) → largest (eliciting_of ps) ≤ largest (pick b (p ∷ eliciting_of ps) (eliciting_of ps))
      go true = le-max_left (largest (eliciting_of ps)) (p.number + 1)
      go false = omega arith

-- the ack-eliciting ones are at most L
pub highest-below : (ps : List Packet) → largest (eliciting_of ps) ≤ largest ps
unfolding largest eliciting_of
highest-below [] = omega arith
highest-below (p ∷ ps) = go (highest-below ps) p.eliciting
  where
    go : largest (eliciting_of ps) ≤ largest ps → (b : Bool) → largest (pick b (p ∷ eliciting_of ps) (eliciting_of ps)) ≤ largest (p ∷ ps)
    go h true = omega arith
    go h false = omega arith

-- U is at most H
pub pending-below : (cs : Calls) → largest (eliciting_of (since cs)) ≤ largest (eliciting_of (packets cs))
unfolding packets since eliciting_of largest
pending-below none = omega arith
pending-below (cs then packet n time true mark) = omega (arith, pending-below cs)
pending-below (cs then packet n time false mark) = pending-below cs
pending-below (cs then timer time) = pending-below cs
pending-below (cs then immediate) = pending-below cs
pending-below (cs then threshold s t d q) = pending-below cs
pending-below (cs then write time kind room) = omega arith
pending-below (cs then confirm k) = pending-below cs

-- and H is at most the larger of U and A: what came before the last written ACK is at most A
pub highest-reported : (cs : Calls) → largest (eliciting_of (packets cs)) ≤ max (largest (eliciting_of (since cs))) (largest (before cs))
unfolding packets since before eliciting_of largest
highest-reported none = omega arith
highest-reported (cs then packet n time true mark) = omega (arith, highest-reported cs)
highest-reported (cs then packet n time false mark) = highest-reported cs
highest-reported (cs then timer time) = highest-reported cs
highest-reported (cs then immediate) = highest-reported cs
highest-reported (cs then threshold s t d q) = highest-reported cs
highest-reported (cs then write time kind room) = omega (arith, highest-below (packets cs))
highest-reported (cs then confirm k) = highest-reported cs
