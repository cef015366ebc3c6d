-- The lent slice of the ACK reader: a refused call leaves it as it was, and an accepted one every element after the ranges.
-- Assumes nothing.
use Prim.Native.Nat.{ℕ, zero, suc, ◌+◌, ◌-◌, ◌*◌}
use mathlib.Core.Path.{◌≡◌, refl, sym, ap, ◌∙◌}
use mathlib.Core.Bool.{Bool, true, false, true≢false}
use mathlib.Core.List.{List}
use native.Mathlib.Nat.{zero-add}
use native.Mathlib.Omega.{arith}
use lib.Dec.{eqb, leb}
use lib.ListN.{length, drop}
use lib.Seq.{drop_at}
use Rattle.std.specs.Prelude.{Option, Result, Ok, Err}
use Rattle.wire.specs.Bytes.{pick, splice}
use Rattle.wire.specs.Fields.{formed, field}
use Rattle.wire.specs.Numbers.{read_number}
use Rattle.wire.specs.Refusals.{refusal_number}
use Rattle.wire.specs.declared.Number.{Number}
use Rattle.wire.specs.declared.Refusal.{Refusal}
use Rattle.wire.specs.declared.Refusal.TheVariants.{Ends, OtherType, NoRoom, BelowZero}
use Rattle.frames.specs.Types.{counts_type, is_ack}
use Rattle.frames.specs.Ack.{Ranges, ended, before, below, ranges_from, IsWhole, read_tail, read_rest, ack, AckRead, refused, after_rest, read_ranges, read_ack, ack_fields_at, read_ack_as}
use Rattle.frames.specs.Exactly.{AckUnchanged, AckUnchangedAs, AckLater, AckLaterAs}
use Rattle.frames.specs.declared.Counts.{Counts}
use Rattle.frames.specs.declared.Ending.{Ending}
use Rattle.frames.specs.declared.Ack.{Ack}

-- what holds of each answer of a chain holds of the chain
pub formed-all : {R : Type 0} (P : R → Type 0) (r : Result Number Refusal) {x : R} {f : ℕ → ℕ → Bool → R} → P x → ((v n : ℕ) (b : Bool) → P (f v n b)) → P (formed r x f)
formed-all P (Ok n) p h = h n.value n.next n.shortest
formed-all P (Err refusal) p h = p

pub field-all : {R : Type 0} (P : R → Type 0) (r : Result Number Refusal) {x : R} {f : ℕ → ℕ → R} → P x → ((v n : ℕ) → P (f v n)) → P (field r x f)
field-all P r p h = formed-all P r p (λ v n b. h v n)

pub pick_all : {R : Type 0} (P : R → Type 0) (b : Bool) {x y : R} → P x → P y → P (pick b x y)
pick_all P true p q = p
pick_all P false p q = q

-- ---- a whole walk has two numbers for each range

Paired : ℕ → Ranges → Type 0
Paired n r = (used : ℕ) → r.walk ≡ Ok used → length r.pairs ≡ 2 * n

fault-paired : (n : ℕ) (refusal : Refusal) → Paired n (ended (Err refusal))
unfolding Paired
fault-paired n refusal used e = let z : ◌≡◌ {A = ℕ} 0 1 = cc in absurd (omega arith)

one_more : (lo hi n : ℕ) (r : Ranges) → Paired n r → Paired (suc n) (before lo hi r)
unfolding Paired
one_more lo hi n r p used e = omega (arith, p used e)

paired : (left : ℕ) (s : List ℕ) (at high : ℕ) → Paired (suc left) (ranges_from left s at high)
unfolding ranges_from Paired
paired zero s at high =
    field-all (Paired 1) (read_number s at) (fault-paired 1 Ends) (λ len mid.
    pick_all (Paired 1) (leb len high) (λ used e. refl) (fault-paired 1 BelowZero))
paired (suc left) s at high =
    field-all (Paired (suc (suc left))) (read_number s at) (fault-paired (suc (suc left)) Ends) (λ len mid.
    pick_all (Paired (suc (suc left))) (leb len high)
    (one_more (high - len) high (suc left) (below s mid (high - len) (λ lower next. ranges_from left s next lower))
    (field-all (Paired (suc left)) (read_number s mid) (fault-paired (suc left) Ends) (λ gap next.
    pick_all (Paired (suc left)) (leb (gap + 2) (high - len)) (paired left s next (high - len - gap - 2)) (fault-paired (suc left) BelowZero))))
    (fault-paired (suc (suc left)) BelowZero))

pub whole_length : (left : ℕ) (s : List ℕ) (at high : ℕ) → IsWhole (ranges_from left s at high).walk → length (ranges_from left s at high).pairs ≡ 2 * (left + 1)
unfolding Paired
whole_length left s at high = go (ranges_from left s at high).walk (paired left s at high)
  where
    go : (w : Result ℕ Refusal) → ((used : ℕ) → w ≡ Ok used → length (ranges_from left s at high).pairs ≡ 2 * suc left) → IsWhole w → length (ranges_from left s at high).pairs ≡ 2 * (left + 1)
    go (Ok used) p h = omega (arith, p used refl)
    go (Err refusal) p h = absurd (true≢false (sym h))

-- ---- the slice

-- what is to hold of an answer and the slice that it leaves
record Kept (xs : List ℕ) (r : AckRead) : Type 0 where
  unchanged : (refusal_number r.answer ≡ 0 → ⊥) → r.slice ≡ xs
  later : (l d ranges used : ℕ) (tail : Option Counts) → r.answer ≡ ack l d ranges used tail → drop (2 * ranges) r.slice ≡ drop (2 * ranges) xs

-- a refusal leaves it whole
kept-refused : (refusal : Refusal) (xs : List ℕ) → Kept xs (refused refusal xs)
kept-refused refusal xs = record { unchanged = λ f. refl; later = λ l d ranges used tail e. refl }

kept-ranges : (s : List ℕ) (at largest delay count : ℕ) (counted : Bool) (xs : List ℕ) → Kept xs (read_ranges s at largest delay count counted xs)
unfolding read_ranges Paired
kept-ranges s at largest delay count counted xs = go (ranges_from count s at largest).walk (paired count s at largest)
  where
    ps : List ℕ
    ps = (ranges_from count s at largest).pairs

    ranges_of : Result Ack Refusal → ℕ
    ranges_of (Ok a) = a.ranges
    ranges_of (Err refusal) = 0

    end : (w : Result Ending Refusal) → length ps ≡ 2 * suc count → Kept xs (after_rest w largest delay count ps xs)
    end (Err refusal) p = kept-refused refusal xs
    end (Ok e) p =
        pick_all (Kept xs) (leb (2 * (count + 1)) (length xs))
        (record { unchanged = λ f. absurd (f refl); later = λ l d ranges u t e. beyond ranges (length-is ranges e p) })
        (kept-refused NoRoom xs)
      where
        length-is : {l d u : ℕ} {t : Option Counts} (ranges : ℕ) → ack largest delay (count + 1) e.used e.tail ≡ ack l d ranges u t
            → length ps ≡ 2 * suc count → length ps ≡ 2 * ranges
        length-is ranges e h = let n : count + 1 ≡ ranges = ap ranges_of e in omega arith

        beyond : (ranges : ℕ) → length ps ≡ 2 * ranges → drop (2 * ranges) (splice xs 0 ps) ≡ drop (2 * ranges) xs
        beyond ranges h = drop_at ps (drop (0 + length ps) xs) (2 * ranges) h ∙ rw (zero-add, h)

    go : (w : Result ℕ Refusal) → ((used : ℕ) → w ≡ Ok used → length ps ≡ 2 * suc count) → Kept xs (after_rest (read_rest counted s w) largest delay count ps xs)
    go (Err refusal) p = kept-refused refusal xs
    go (Ok used) p = end (read_tail counted s used) (p used refl)

-- the fields and the ranges after the type
kept-fields : (kind : ℕ) (s : List ℕ) (at : ℕ) (xs : List ℕ)
    → Kept xs (ack_fields_at kind s at (refused Ends xs) (λ at3 largest delay count counted. read_ranges s at3 largest delay count counted xs))
kept-fields kind s at xs =
    field-all (Kept xs) (read_number s at) (kept-refused Ends xs) (λ largest at1.
    field-all (Kept xs) (read_number s at1) (kept-refused Ends xs) (λ delay at2.
    field-all (Kept xs) (read_number s at2) (kept-refused Ends xs) (λ count at3.
    kept-ranges s at3 largest delay count (eqb kind counts_type) xs)))

kept : (s xs : List ℕ) → Kept xs (read_ack s xs)
kept s xs =
    formed-all (Kept xs) (read_number s 0) (kept-refused Ends xs) (λ kind at shortest.
    pick_all (Kept xs) (is_ack kind)
    (pick_all (Kept xs) shortest (kept-fields kind s at xs) (kept-refused OtherType xs))
    (kept-refused OtherType xs))

kept-as : (kind : ℕ) (s xs : List ℕ) → Kept xs (read_ack_as kind s xs)
kept-as kind s xs = pick_all (Kept xs) (is_ack kind) (kept-fields kind s 0 xs) (kept-refused OtherType xs)

pub ack-unchanged : AckUnchanged
ack-unchanged s xs = (kept s xs).unchanged

pub ack-unchanged-as : AckUnchangedAs
ack-unchanged-as kind s xs = (kept-as kind s xs).unchanged

pub ack-later : AckLater
ack-later s xs = (kept s xs).later

pub ack-later-as : AckLaterAs
ack-later-as kind s xs = (kept-as kind s xs).later
