-- Lent sums that grow place by place: a place that a report brings nothing to is as it was.
-- Assumes nothing.
use Prim.Native.Nat.{ℕ, zero, suc, ◌+◌, ◌-◌, ◌≤◌, ◌<◌}
use mathlib.Core.Path.{◌≡◌, refl}
use mathlib.Core.List.{List, ◌++◌}
use native.Mathlib.Nat.{zero-add}
use native.Mathlib.Omega.{arith}
use borrow.Author.Tests.{le-leb, eq-eqb, ne_eqb}
use lib.Dec.{leb}
use lib.ListN.{length, get_or, drop, set}
use Rattle.wire.specs.Bytes.{pick}
use Rattle.totals.specs.declared.Totals.{Totals}
use Rattle.totals.specs.declared.Brought.{Brought}
use Rattle.totals.specs.Totals.{too_long, places, at_total, most, kept, listed}
use Rattle.totals.specs.Adding.{share, sum_with, mark_with, over, Held, with}
use Rattle.totals.proofs.Listed.{length-listed, listed-none, held, filled, left, fill_done, get_or-listed}
use Rattle.totals.proofs.Summing.{share-number}

-- the places below i hold what the definition says, the others what they held
pub record Grown (t : Totals) (b : Brought) (i : ℕ) (xs ys : List ℕ) : Type 0 where
  pub sums : xs ≡ listed i (sum_with t b) ++ drop i t.sums
  pub marks : ys ≡ listed i (mark_with t b) ++ drop i t.full

module _ (t : Totals) (b : Brought) (w : Held t) where
  begun : Grown t b 0 t.sums t.full
  begun = record { sums = rw listed-none; marks = rw listed-none }

  module _ (i : ℕ) (h : i < places) {xs ys : List ℕ} (g : Grown t b i xs ys) where
    in-sums : i < length t.sums
    in-sums = omega (arith, w.sums-long)

    in-marks : i < length t.full
    in-marks = omega (arith, w.marks-long)

    -- n is what the code adds there
    pub place-added : {n : ℕ} {us vs : List ℕ} → n ≡ share b i
        → us ≡ set xs i (kept (get_or xs i 0 + n)) → vs ≡ set ys i (pick (leb (get_or xs i 0 + n) most) (get_or ys i 0) 1)
        → Grown t b (i + 1) us vs
    place-added e p q =
        let d = held (sum_with t b) t.sums i in-sums g.sums in
        let f = held (mark_with t b) t.full i in-marks g.marks in
        record {
          sums = filled (sum_with t b) t.sums i in-sums g.sums (rw (d, e)) p;
          marks = filled (mark_with t b) t.full i in-marks g.marks (rw (d, e, f)) q;
        }

    place-passed : share b i ≡ 0 → Grown t b (i + 1) xs ys
    place-passed z =
        let l : get_or t.sums i 0 + 0 ≤ most = omega (arith, w.words i h) in
        let k : get_or t.sums i 0 ≡ kept (get_or t.sums i 0 + 0) = omega (arith, w.words i h) in
        record {
          sums = left (sum_with t b) t.sums i in-sums g.sums (rw z k);
          marks = left (mark_with t b) t.full i in-marks g.marks (rw (z, le-leb (get_or t.sums i 0 + 0) most l));
        }

  -- d places in a row that nothing is brought to
  passed : (d i : ℕ) {xs ys : List ℕ} → i + d ≤ places → ((j : ℕ) → i ≤ j → j < i + d → share b j ≡ 0) → Grown t b i xs ys → Grown t b (i + d) xs ys
  passed zero i {xs} {ys} h z g = let e : i + 0 ≡ i = omega arith in rw e g
  passed (suc d) i {xs} {ys} h z g =
      let e : i + suc d ≡ i + 1 + d = omega arith in
      rw e (passed d (i + 1) (omega arith) (λ j l m. z j (omega arith) (omega arith)) (place-passed i (omega arith) g (z i (omega arith) (omega arith))))

  -- of the places of the numbers a report brings one to that of its own
  pub number-added : {us vs : List ℕ} → b.number ≤ too_long
      → us ≡ set t.sums b.number (kept (get_or t.sums b.number 0 + 1))
      → vs ≡ set t.full b.number (pick (leb (get_or t.sums b.number 0 + 1) most) (get_or t.full b.number 0) 1)
      → Grown t b at_total us vs
  number-added {us} {vs} h p q =
      let n = b.number in
      let e : n + 1 + (20 - n) ≡ 21 = omega arith in
      let own : 1 ≡ share b n = rw (share-number n b h, eq-eqb n n refl) in
      let other : (j : ℕ) → j ≤ too_long → (n ≡ j → ⊥) → share b j ≡ 0 = λ j l f. rw (share-number j b l, ne_eqb n j f) in
      rw e at (passed (20 - n) (n + 1) (omega arith) (λ j l m. other j (omega arith) (λ z. omega arith))
      (place-added n (omega arith) (rw zero-add at (passed n 0 (omega arith) (λ j l m. other j (omega arith) (λ z. omega arith)) begun)) own p q))

  pub all-added : {xs ys : List ℕ} → Grown t b places xs ys → over xs ys ≡ with t b
  unfolding with
  all-added {xs} {ys} g = rw (fill_done (sum_with t b) t.sums xs places places g.sums refl w.sums-long, fill_done (mark_with t b) t.full ys places places g.marks refl w.marks-long)

-- what was added to is held again: every sum stops at 2^64 - 1
pub with-held : (t : Totals) (b : Brought) → Held (with t b)
unfolding with
with-held t b =
    record {
      sums-long = length-listed places (sum_with t b);
      marks-long = length-listed places (mark_with t b);
      words = λ place h. rw (get_or-listed places (sum_with t b) place h) (omega arith);
    }
