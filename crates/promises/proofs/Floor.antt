-- The floor never falls: a packet leaves the record's own floor and moves L up, a confirmation takes the larger, and no other call touches either.
-- Assumes nothing.
use Prim.Native.Nat.{ℕ, ◌+◌, ◌-◌, ◌≤◌, min}
use mathlib.Core.Path.{◌≡◌, refl, subst, sym}
use mathlib.Core.Bool.{true, false}
use mathlib.Core.List.{List, [], ◌∷◌}
use native.Mathlib.Nat.{le_refl, le_trans, max-le, le-max_left, le-max_right}
use native.Mathlib.Omega.{arith}
use Rattle.seen.specs.declared.Micros.{Micros}
use Rattle.seen.specs.declared.Seen.{Seen}
use Rattle.receiver.specs.declared.Receiver.{Receiver}
use Rattle.seen.specs.Received.{floor_of, floor, seen_after, confirmed_after}
use Rattle.seen.proofs.After.{seen_end, seen-confirmed}
use Rattle.receiver.specs.Packet.{packet_after}
use Rattle.receiver.specs.Calls.{agreed_after}
use Rattle.receiver.specs.Write.{after_write}
use Rattle.promises.specs.Sequence.{Call, packet, timer, immediate, threshold, write, confirm, Calls, ◌then◌, Reply, accepted, stale, refused, step, in_order, after}
use Rattle.promises.specs.Floor.{NeverFalls}
use Rattle.promises.proofs.Acceptance.{made, step_kept, step-made}

-- neither part of the floor falls: the record's own, and L's end, which the window's hangs on
record Rises (s t : Seen) : Type 0 where
  own : s.confirmed ≤ t.confirmed
  end : s.end ≤ t.end

same : (s : Seen) → Rises s s
same s = record { own = le_refl s.confirmed; end = le_refl s.end }

packet-rises : (s : Seen) (n : ℕ) (time : Micros) → Rises s (seen_after s n time)
packet-rises s n time =
    record {
      own = omega (arith, seen-confirmed s n time);
      end = omega (arith, seen_end s n time, le-max_left s.end (n + 1));
    }

-- what an accepted call makes
made-rises : (r : Receiver) (c : Call) → Rises r.seen (made r c).seen
unfolding packet_after agreed_after after_write confirmed_after
made-rises r (packet n time true mark) = packet-rises r.seen n time
made-rises r (packet n time false mark) = packet-rises r.seen n time
made-rises r (timer time) = same r.seen
made-rises r immediate = same r.seen
made-rises r (threshold s t d q) = same r.seen
made-rises r (write time kind room) = same r.seen
made-rises r (confirm k) = record { own = le-max_left r.seen.confirmed (min (k + 1) (r.seen.end - 1)); end = le_refl r.seen.end }

step-rises : (r : Receiver) (c : Call) → Rises r.seen (step r c).next.seen
step-rises r c = go (step r c).reply refl
  where
    unmoved : ((step r c).reply ≡ accepted → ⊥) → Rises r.seen (step r c).next.seen
    unmoved f = subst (λ (q : Receiver). Rises r.seen q.seen) (sym (step_kept r c f)) (same r.seen)

    go : (a : Reply) → (step r c).reply ≡ a → Rises r.seen (step r c).next.seen
    go accepted e = subst (λ (q : Receiver). Rises r.seen q.seen) (sym (step-made r c e)) (made-rises r c)
    go stale e = unmoved (λ f. cc)
    go (refused k) e = unmoved (λ f. cc)

-- the floor in use
used : (s t : Seen) → Rises s t → floor s ≤ floor t
used s t v =
    max-le (le_trans v.own (le-max_left t.confirmed (floor_of t.end)))
    (le_trans (window s t v) (le-max_right t.confirmed (floor_of t.end)))
  where
    window : (s t : Seen) → Rises s t → floor_of s.end ≤ floor_of t.end
    window s t v = omega (arith, v.end)

along : (r : Receiver) (cs : Calls) (l : List Call) → Rises (after r cs).seen (after r (in_order cs l)).seen
unfolding in_order after
along r cs [] = same (after r cs).seen
along r cs (c ∷ l) =
    let a = step-rises (after r cs) c in
    let b = along r (cs then c) l in
    record { own = le_trans a.own b.own; end = le_trans a.end b.end }

pub never-falls : NeverFalls
never-falls =
    record {
      own = λ r c. (step-rises r c).own;
      used = λ r c. used r.seen (step r c).next.seen (step-rises r c);
      own-along = λ r cs l. (along r cs l).own;
      used-along = λ r cs l. used (after r cs).seen (after r (in_order cs l)).seen (along r cs l);
    }
