-- The totals: one packet more counts once for its mark; the four together count every packet; and none ever falls.
-- Assumes nothing.
use Prim.Native.Nat.{ℕ, ◌+◌, ◌≤◌, ◌<◌, min}
use mathlib.Core.Path.{◌≡◌, refl, sym, ap, ◌∙◌, subst}
use mathlib.Core.Bool.{Bool, true, false, not}
use mathlib.Core.List.{List, [], ◌∷◌}
use native.Mathlib.Nat.{add-zero, le_refl, le_trans, le-min, min-eq_left, min-eq_right}
use native.Mathlib.Omega.{arith}
use borrow.Author.Tests.{not-false}
use lib.ListN.{length}
use Rattle.wire.specs.Numbers.{limit}
use Rattle.wire.proofs.Lengths.{split}
use Rattle.ecn.specs.declared.Mark.{Mark}
use Rattle.ecn.specs.declared.Mark.TheVariants.{None, Ect0, Ect1, Ce}
use Rattle.ecn.specs.declared.Totals.{Totals}
use Rattle.receiver.specs.declared.Receiver.{Receiver}
use Rattle.ecn.specs.Totals.{is_ce, is_ect0, is_ect1, is_none, one_more, totals_after}
use Rattle.receiver.specs.Packet.{packet_after}
use Rattle.receiver.specs.Calls.{agreed_after}
use Rattle.receiver.specs.Write.{after_write}
use Rattle.receiver.proofs.Clauses.{consistent-exactly}
use Rattle.promises.specs.Sequence.{Call, packet, timer, immediate, threshold, write, confirm, Calls, ◌then◌, Reply, accepted, stale, refused, step, in_order, after}
use Rattle.promises.specs.Accepted.{Packet, one_if}
use Rattle.promises.specs.Told.{how_often, totals_of}
use Rattle.promises.specs.Totals.{BelowLimit, NoneFell, TotalsNeverFall}
use Rattle.promises.proofs.Acceptance.{made, step_kept, step-made, packet-consistent}

-- ---- one more

-- a count that stays at its most, with one more
pub capped-more : (most k : ℕ) → min (min k most + 1) most ≡ min (k + 1) most
capped-more most k =
    split most k
    (λ h.
    let a : most ≤ most + 1 = omega arith in
    let b : most ≤ k + 1 = omega arith in
    ap (λ (x : ℕ). min (x + 1) most) (min-eq_right h) ∙ min-eq_right a ∙ sym (min-eq_right b))
    (λ h. let a : k ≤ most = omega arith in ap (λ (x : ℕ). min (x + 1) most) (min-eq_left a))

same : (k : ℕ) → min k limit ≡ min (k + 0) limit
same k = ap (λ (x : ℕ). min x limit) (sym (add-zero k))

four : {a b c d w x y z : ℕ} → a ≡ w → b ≡ x → c ≡ y → d ≡ z
    → ◌≡◌ {A = Totals} (record { ect0 = a; ect1 = b; ce = c; unmarked = d }) (record { ect0 = w; ect1 = x; ce = y; unmarked = z })
four e f g h = rw (e, f, g, h)

-- the totals with one packet more are those of one packet more
pub totals-told : (p : Packet) (ps : List Packet) → totals_after (totals_of ps) p.mark ≡ totals_of (p ∷ ps)
unfolding totals_of how_often totals_after
totals-told p ps = go p.mark
  where
    go : (mark : Mark) → totals_after (totals_of ps) mark
        ≡ record {
          ect0 = min (how_often is_ect0 ps + one_if (is_ect0 mark)) limit;
          ect1 = min (how_often is_ect1 ps + one_if (is_ect1 mark)) limit;
          ce = min (how_often is_ce ps + one_if (is_ce mark)) limit;
          unmarked = min (how_often is_none ps + one_if (is_none mark)) limit;
        }
    go None = four (same (how_often is_ect0 ps)) (same (how_often is_ect1 ps)) (same (how_often is_ce ps)) (capped-more limit (how_often is_none ps))
    go Ect0 = four (capped-more limit (how_often is_ect0 ps)) (same (how_often is_ect1 ps)) (same (how_often is_ce ps)) (same (how_often is_none ps))
    go Ect1 = four (same (how_often is_ect0 ps)) (capped-more limit (how_often is_ect1 ps)) (same (how_often is_ce ps)) (same (how_often is_none ps))
    go Ce = four (same (how_often is_ect0 ps)) (same (how_often is_ect1 ps)) (capped-more limit (how_often is_ce ps)) (same (how_often is_none ps))

-- ---- the four together

-- each mark is one of the four
one-of-four : (mark : Mark) → one_if (is_ect0 mark) + one_if (is_ect1 mark) + one_if (is_ce mark) + one_if (is_none mark) ≡ 1
one-of-four None = refl
one-of-four Ect0 = refl
one-of-four Ect1 = refl
one-of-four Ce = refl

every-packet : (ps : List Packet) → how_often is_ect0 ps + how_often is_ect1 ps + how_often is_ce ps + how_often is_none ps ≡ length ps
unfolding how_often
every-packet [] = refl
every-packet (p ∷ ps) = omega (arith, every-packet ps, one-of-four p.mark)

in-full : (k : ℕ) → min k limit < limit → min k limit ≡ k
in-full k h =
    split limit k
    (λ l. let e = min-eq_right l in absurd (omega arith))
    (λ l. let a : k ≤ limit = omega arith in min-eq_left a)

pub add-up-of : (ps : List Packet) → BelowLimit (totals_of ps) → let n = totals_of ps in n.ect0 + n.ect1 + n.ce + n.unmarked ≡ length ps
unfolding totals_of
add-up-of ps b =
    omega (arith, in-full (how_often is_ect0 ps) b.ect0, in-full (how_often is_ect1 ps) b.ect1, in-full (how_often is_ce ps) b.ce, in-full (how_often is_none ps) b.unmarked, every-packet ps)

-- ---- none falls

unmoved : (t : Totals) → NoneFell t t
unmoved t = record { ect0 = le_refl t.ect0; ect1 = le_refl t.ect1; ce = le_refl t.ce; unmarked = le_refl t.unmarked }

risen : (k : ℕ) → k ≤ limit → k ≤ one_more k
risen k h = le-min (omega arith) h

packet-risen : (t : Totals) (mark : Mark) → (t.ect0 ≤ limit) × (t.ect1 ≤ limit) × (t.ce ≤ limit) × (t.unmarked ≤ limit) → NoneFell t (totals_after t mark)
unfolding totals_after
packet-risen t None h = record { ect0 = le_refl t.ect0; ect1 = le_refl t.ect1; ce = le_refl t.ce; unmarked = risen t.unmarked h.3 }
packet-risen t Ect0 h = record { ect0 = risen t.ect0 h.0; ect1 = le_refl t.ect1; ce = le_refl t.ce; unmarked = le_refl t.unmarked }
packet-risen t Ect1 h = record { ect0 = le_refl t.ect0; ect1 = risen t.ect1 h.1; ce = le_refl t.ce; unmarked = le_refl t.unmarked }
packet-risen t Ce h = record { ect0 = le_refl t.ect0; ect1 = le_refl t.ect1; ce = risen t.ce h.2; unmarked = le_refl t.unmarked }

-- what an accepted call makes
made-risen : (r : Receiver) (c : Call) → (step r c).reply ≡ accepted → NoneFell r.totals (made r c).totals
unfolding packet_after agreed_after after_write
made-risen r (packet n time true mark) e = packet-risen r.totals mark ((consistent-exactly r).0 (packet-consistent r n time true mark e)).totals
made-risen r (packet n time false mark) e = packet-risen r.totals mark ((consistent-exactly r).0 (packet-consistent r n time false mark e)).totals
made-risen r (timer time) e = unmoved r.totals
made-risen r immediate e = unmoved r.totals
made-risen r (threshold s t d q) e = unmoved r.totals
made-risen r (write time kind room) e = unmoved r.totals
made-risen r (confirm k) e = unmoved r.totals

step-risen : (r : Receiver) (c : Call) → NoneFell r.totals (step r c).next.totals
step-risen r c = go (step r c).reply refl
  where
    stays : ((step r c).reply ≡ accepted → ⊥) → NoneFell r.totals (step r c).next.totals
    stays f = subst (λ (q : Receiver). NoneFell r.totals q.totals) (sym (step_kept r c f)) (unmoved r.totals)

    go : (a : Reply) → (step r c).reply ≡ a → NoneFell r.totals (step r c).next.totals
    go accepted e = subst (λ (q : Receiver). NoneFell r.totals q.totals) (sym (step-made r c e)) (made-risen r c e)
    go stale e = stays (λ f. cc)
    go (refused k) e = stays (λ f. cc)

along : (r : Receiver) (cs : Calls) (l : List Call) → NoneFell (after r cs).totals (after r (in_order cs l)).totals
unfolding in_order after
along r cs [] = unmoved (after r cs).totals
along r cs (c ∷ l) =
    let a = step-risen (after r cs) c in
    let b = along r (cs then c) l in
    record { ect0 = le_trans a.ect0 b.ect0; ect1 = le_trans a.ect1 b.ect1; ce = le_trans a.ce b.ce; unmarked = le_trans a.unmarked b.unmarked }

pub totals-never-fall : TotalsNeverFall
totals-never-fall = record { one = step-risen; along = along }
