-- Openings are consistent, and a refused one hands back the usual record, which is too: clause by clause.
-- Assumes nothing.
use Prim.Native.Nat.{ℕ, zero, suc, ◌-◌, ◌*◌, ◌≤◌, ◌<◌}
use mathlib.Core.Path.{◌≡◌, refl, ◌∙◌}
use mathlib.Core.Bool.{Bool, true, false, ◌&&◌}
use native.Mathlib.Omega.{arith}
use borrow.Author.Tests.{ltb-true, leb-true}
use lib.Dec.{leb, ltb}
use Rattle.wire.specs.Bytes.{pick}
use Rattle.wire.specs.Numbers.{limit}
use Rattle.window.proofs.Laws.{made-mark, zero-mark}
use Rattle.receiver.specs.declared.Millis.{Millis}
use Rattle.seen.specs.declared.Micros.{Micros}
use Rattle.seen.specs.Numbers.{small}
use Rattle.receiver.specs.Record.{limits_rule, consistent}
use Rattle.receiver.specs.Consistent.{Consistent}
use Rattle.receiver.specs.Packet.{handed_back}
use Rattle.receiver.specs.Calls.{opened, usual, open_refusal, open_call}
use Rattle.receiver.proofs.Clauses.{consistent-exactly}
use Rattle.promises.specs.Sequence.{opening}
use Rattle.promises.proofs.Truth.{both_left, both_right}

opened-kept : (t q : ℕ) (m : Millis) (u : Micros) → t ≤ limit → q ≤ limit → m.0 < 16384 → u.0 ≤ m.0 * 1000 → Consistent (opened t q m u)
unfolding opened
opened-kept t q m u ft fq fm fu =
    record {
      largest = omega arith;
      arrived = omega arith;
      first = omega arith;
      threshold = ft;
      reordering = fq;
      sequence = omega arith;
      count = omega arith;
      maximum = fm;
      minimum = fu;
      delay = omega arith;
      least = fu;
      cause = omega arith;
      acknowledged = omega arith;
      highest = omega arith;
      unacknowledged = omega arith;
      absent = (λ z. refl, λ z. refl);
      own = λ h. absurd (omega arith);
      below = λ q h. made-mark 0 q h ∙ zero-mark q;
      floor = omega arith;
      totals = (omega arith, omega arith, omega arith, omega arith);
      nothing = λ z. refl;
    }

open_kept : (t q : ℕ) (m : Millis) (u : Micros) → open_refusal t q m u ≡ 0 → Consistent (opened t q m u)
unfolding open_refusal limits_rule
open_kept t q m u e = go (small t && (small q && (small m.0 && small u.0))) refl (ltb m.0 16384 && leb u.0 (m.0 * 1000)) refl e
  where
    go : (a : Bool) → (small t && (small q && (small m.0 && small u.0))) ≡ a → (b : Bool) → (ltb m.0 16384 && leb u.0 (m.0 * 1000)) ≡ b
        → ◌≡◌ {A = ℕ} (pick a (pick b 0 4) 5) 0 → Consistent (opened t q m u)
    go true f true g z =
        let h = both_right (small t) (small q && (small m.0 && small u.0)) f in
        opened-kept t q m u
        (leb-true t limit (both_left (small t) (small q && (small m.0 && small u.0)) f))
        (leb-true q limit (both_left (small q) (small m.0 && small u.0) h))
        (ltb-true m.0 16384 (both_left (ltb m.0 16384) (leb u.0 (m.0 * 1000)) g))
        (leb-true u.0 (m.0 * 1000) (both_right (ltb m.0 16384) (leb u.0 (m.0 * 1000)) g))
    go true f false g z = absurd (omega arith)
    go false f b g z = absurd (omega arith)

usual-kept : Consistent usual
usual-kept = opened-kept 1 1 (record { 0 = 25 }) (record { 0 = 1000 }) (omega arith) (omega arith) (omega arith) (omega arith)

pub opening-kept : (t q : ℕ) (m : Millis) (u : Micros) → consistent (opening t q m u) ≡ true
unfolding open_call
opening-kept t q m u = (consistent-exactly (opening t q m u)).1 (go (open_refusal t q m u) refl)
  where
    go : (k : ℕ) → open_refusal t q m u ≡ k → Consistent (handed_back k usual (opened t q m u)).next
    go zero e = open_kept t q m u e
    go (suc k) e = usual-kept
