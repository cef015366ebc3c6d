-- The refusal table for the frames' writers, proved: a frame's numbers are written by wire, and its type is never too large.
-- Assumes nothing.
use Prim.Native.Nat.{◌+◌}
use mathlib.Core.Path.{◌≡◌}
use mathlib.Core.Logic.{inl, inr, ⊎_elim}
use native.Mathlib.Nat.{zero-add}
use lib.Dec.{lit≤}
use lib.ListN.{length}
use Rattle.wire.specs.Numbers.{first_from, form, encode, encode_all}
use Rattle.wire.proofs.Exactly.{numbers-write}
use Rattle.frames.specs.Frequency.{frequency}
use Rattle.frames.specs.Immediate.{immediate}
use Rattle.frames.specs.Exactly.{FrequencyWrites, ImmediateWrites}

pub frequency-writes : FrequencyWrites
frequency-writes xs q t d r =
    let w = numbers-write xs 0 (frequency q t d r) in
    let e : 0 + length (encode_all (frequency q t d r)) ≡ length (encode_all (frequency q t d r)) = zero-add (length (encode_all (frequency q t d r))) in
    record {
      five = (λ p n. w.five.0 p (lit≤ tt, n), λ f. w.five.1 (λ n. f n.1));
      nine = (λ p. let n = w.nine.0 p in (n.0.1, rw e at n.1), λ p. w.nine.1 ((lit≤ tt, p.0), rw e p.1));
      accepted = (λ p. let n = w.accepted.0 p in (n.0.1, rw e at n.1), λ p. w.accepted.1 ((lit≤ tt, p.0), rw e p.1));
      others = w.others;
    }

pub immediate-writes : ImmediateWrites
unfolding encode_all encode form first_from
immediate-writes xs =
    let w = numbers-write xs 0 immediate in
    record {
      nine = (λ p. (w.nine.0 p).1, λ h. w.nine.1 ((lit≤ tt, tt), h));
      accepted = (λ p. (w.accepted.0 p).1, λ h. w.accepted.1 ((lit≤ tt, tt), h));
      others = ⊎_elim inl (⊎_elim (λ p. absurd (w.five.0 p (lit≤ tt, tt))) inr) w.others;
    }
