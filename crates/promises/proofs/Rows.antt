-- The reply to each call is that of its rows of the table, by receiver's "exactly when"; on a consistent record the row of 1 does not apply.
-- Assumes nothing.
use Prim.Native.Nat.{ℕ, zero, suc}
use mathlib.Core.Path.{◌≡◌, refl, sym, ap, subst, ◌∙◌}
use mathlib.Core.Bool.{Bool, true, false, not, ◌&&◌}
use mathlib.Core.List.{List, [], ◌∷◌}
use native.Mathlib.Omega.{arith}
use borrow.Author.Tests.{eqb-false, not-true}
use lib.Dec.{ltb, eqb}
use lib.ListN.{replicate, length-replicate}
use Rattle.wire.specs.Bytes.{pick}
use Rattle.receiver.specs.declared.Receiver.{Receiver}
use Rattle.receiver.specs.Record.{consistent}
use Rattle.receiver.specs.Exactly.{Row, row, first, packet_rows, timer_rows, immediate_rows, threshold_rows, confirm_rows, verdict_of}
use Rattle.receiver.specs.Emits.{write_rows}
use Rattle.receiver.proofs.Exactly.{exactly}
use Rattle.receiver.proofs.Emits.{write-exactly}
use Rattle.promises.specs.Sequence.{Call, packet, timer, immediate, threshold, write, confirm, Reply, refused, Outcome, reply_of, reply_to, step}
use Rattle.promises.proofs.Truth.{both_left, both_right}
use Rattle.promises.proofs.Writing.{write-is-step}

abbrev pub reply_by : Receiver → Call → Reply
reply_by r (packet n time eliciting mark) = reply_of (first (packet_rows r n time))
reply_by r (timer time) = reply_of (first (timer_rows r time))
reply_by r immediate = reply_of (first (immediate_rows r))
reply_by r (threshold s t d q) = reply_to (verdict_of (first (threshold_rows r s t d q)) (ltb s r.agreed.sequence))
reply_by r (write time kind room) = reply_of (first (write_rows r time kind room))
reply_by r (confirm k) = reply_of (first (confirm_rows r k))

pub by_rows : (r : Receiver) (c : Call) → (step r c).reply ≡ reply_by r c
unfolding step
by_rows r (packet n time eliciting mark) = ap reply_of (exactly.packet r n time eliciting mark)
by_rows r (timer time) = ap reply_of (exactly.timer r time)
by_rows r immediate = ap reply_of (exactly.immediate r)
by_rows r (threshold s t d q) = ap reply_to (exactly.threshold r s t d q)
by_rows r (write time kind room) =
    subst (λ (k : ℕ). (step r (write time kind k)).reply ≡ reply_of (first (write_rows r time kind k))) (length-replicate room 0)
    (ap (λ (x : Outcome). x.reply) (write-is-step r time kind (replicate room 0)) ∙ ap reply_of (write-exactly r time kind (replicate room 0)))
by_rows r (confirm k) = ap reply_of (exactly.confirm r k)

-- ---- refusal 1

-- on a consistent record the first row says nothing
pub later_rows : (b : Bool) (rows : List Row) → b ≡ true → first (row 1 (not b) ∷ rows) ≡ first rows
unfolding first
later_rows b rows e = rw e

-- none of the rows is that of 1
abbrev others : List Row → Bool
others [] = true
others (x ∷ rows) = not (eqb x.number 1) && others rows

other : (rows : List Row) → others rows ≡ true → first rows ≡ 1 → ⊥
unfolding first
other [] h e = omega arith
other (x ∷ rows) h e = go (other rows (both_right (not (eqb x.number 1)) (others rows) h)) x.applies e
  where
    go : (first rows ≡ 1 → ⊥) → (b : Bool) → pick b x.number (first rows) ≡ 1 → ⊥
    go i true f = eqb-false x.number 1 (not-true (eqb x.number 1) (both_left (not (eqb x.number 1)) (others rows) h)) f
    go i false f = i f

reply-one : (k : ℕ) → reply_of k ≡ refused 1 → k ≡ 1
reply-one zero e = absurd (cc)
reply-one (suc k) e = cc

verdict-one : (k : ℕ) (b : Bool) → reply_to (verdict_of k b) ≡ refused 1 → k ≡ 1
verdict-one zero true e = absurd (cc)
verdict-one zero false e = absurd (cc)
verdict-one (suc k) b e = cc

-- no call on a consistent record is refused with 1
pub not-one : (r : Receiver) (c : Call) → consistent r ≡ true → (step r c).reply ≡ refused 1 → ⊥
not-one r c k e = go c (sym (by_rows r c) ∙ e)
  where
    go : (c : Call) → reply_by r c ≡ refused 1 → ⊥
    go (packet n time eliciting mark) f = other _ refl (sym (later_rows (consistent r) _ k) ∙ reply-one (first (packet_rows r n time)) f)
    go (timer time) f = other _ refl (sym (later_rows (consistent r) _ k) ∙ reply-one (first (timer_rows r time)) f)
    go immediate f = other _ refl (sym (later_rows (consistent r) _ k) ∙ reply-one (first (immediate_rows r)) f)
    go (threshold s t d q) f = other _ refl (sym (later_rows (consistent r) _ k) ∙ verdict-one (first (threshold_rows r s t d q)) _ f)
    go (write time kind room) f = other _ refl (sym (later_rows (consistent r) _ k) ∙ reply-one (first (write_rows r time kind room)) f)
    go (confirm n) f = other _ refl (sym (later_rows (consistent r) _ k) ∙ reply-one (first (confirm_rows r n)) f)
