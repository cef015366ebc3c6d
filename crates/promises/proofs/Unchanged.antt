-- Unchanged: a call that is not accepted hands the record back, and what comes later depends on the record alone.
-- Assumes nothing.
use mathlib.Core.Path.{◌≡◌, refl, sym, ap, ◌∙◌}
use mathlib.Core.List.{List, [], ◌∷◌}
use Prim.Native.Nat.{ℕ}
use native.Mathlib.Omega.{arith}
use Rattle.receiver.specs.declared.Receiver.{Receiver}
use Rattle.promises.specs.Sequence.{Call, Calls, Reply, accepted, stale, refused, none, ◌then◌, step, in_order, after, replied}
use Rattle.promises.specs.Accepted.{joined, accepted_of}
use Rattle.promises.specs.Unchanged.{Unchanged}
use Rattle.promises.proofs.Acceptance.{step_kept}

-- calls that lead to the same record lead to the same one with the same calls after them
same-later : (r : Receiver) (cs ds : Calls) (l : List Call) → after r cs ≡ after r ds → after r (in_order cs l) ≡ after r (in_order ds l)
unfolding in_order after
same-later r cs ds [] e = e
same-later r cs ds (c ∷ l) e = same-later r (cs then c) (ds then c) l (ap (λ (q : Receiver). (step q c).next) e)

left_out : (r : Receiver) (cs : Calls) (c : Call) → (replied r cs c ≡ accepted → ⊥) → after r (cs then c) ≡ after r cs
unfolding after
left_out r cs c f = step_kept (after r cs) c f

-- the accepted calls with one more call, by its reply
joined-after : (r : Receiver) (cs ds : Calls) (c : Call) (a : Reply) → replied r cs c ≡ a → after r ds ≡ after r cs → after r (joined a ds c) ≡ after r (cs then c)
unfolding after
joined-after r cs ds c accepted e k = ap (λ (q : Receiver). (step q c).next) k
joined-after r cs ds c stale e k = k ∙ sym (left_out r cs c (λ f. cc))
joined-after r cs ds c (refused n) e k = k ∙ sym (left_out r cs c (λ f. cc))

alone : (r : Receiver) (cs : Calls) → after r (accepted_of r cs) ≡ after r cs
unfolding accepted_of
alone r none = refl
alone r (cs then c) = joined-after r cs (accepted_of r cs) c (replied r cs c) refl (alone r cs)

pub unchanged : Unchanged
unchanged =
    record {
      call = step_kept;
      later = λ r cs c l f. same-later r (cs then c) cs l (left_out r cs c f);
      replies = λ r cs c l d f. ap (λ (q : Receiver). (step q d).reply) (same-later r (cs then c) cs l (left_out r cs c f));
      alone = alone;
    }
