-- Of an accepted report the records delivered are its entries, a refusal that stands is the end's, and no call stands still while there is something to take.
-- Assumes nothing.
use Prim.Native.Nat.{ℕ, zero, suc, ◌+◌, ◌-◌, ◌*◌, ◌≤◌}
use mathlib.Core.Path.{◌≡◌, refl, sym, ◌∙◌}
use mathlib.Core.Bool.{Bool, true, false}
use mathlib.Core.List.{List, [], ◌∷◌}
use native.Mathlib.Omega.{arith}
use borrow.Author.Tests.{leb-true, le-ltb}
use lib.Dec.{leb, eqb}
use lib.ListN.{length, drop, length-drop}
use Rattle.wire.specs.Bytes.{pick}
use Rattle.wire.specs.declared.Refusal.TheVariants.{Ends, BrokenEntry, BytesRemain}
use Rattle.entries.specs.Profiles.{record_size}
use Rattle.entries.specs.Entries.{entries_good}
use Rattle.entries.specs.declared.Profile.{Profile}
use Rattle.report.specs.Header.{count_of}
use Rattle.report.specs.Reader.{Reading, Whole, Stopped, part_of, read_numbers, judge_entries, report_reading, report_of, entries_in}
use Rattle.uncut.specs.State.{State, Numbers, Records, Counting, Refused, Accepted, standing, at_end}
use Rattle.uncut.specs.Whole.{good_run, good_in, AllDelivered, StandsAtTheEnd}
use Rattle.uncut.specs.Cutting.{closed, taking, Moves}
use Rattle.uncut.proofs.Rows.{run-all, part-good}
use Rattle.uncut.proofs.Uncut.{good-delivered}

all_of : (p : Profile) (s : List ℕ) (r : Reading) → (report_of (judge_entries p s r)).refusal ≡ 0 → good_in p s r ≡ entries_in p s (judge_entries p s r)
unfolding good_in judge_entries entries_in report_of
all_of p s (Stopped refusal) e = refl
all_of p s (Whole ns at) e = go (leb (at + record_size p * count_of ns) (length s)) refl (entries_good p (part_of p s ns at)) refl (eqb (at + record_size p * count_of ns) (length s)) e
  where
    go : (l : Bool) → leb (at + record_size p * count_of ns) (length s) ≡ l → (g : Bool) → entries_good p (part_of p s ns at) ≡ g → (q : Bool)
        → (report_of (pick l (pick g (pick q (Whole ns at) (Stopped BytesRemain)) (Stopped BrokenEntry)) (Stopped Ends))).refusal ≡ 0
        → good_run p (count_of ns) 0 0 (drop at s) ≡ entries_in p s (pick l (pick g (pick q (Whole ns at) (Stopped BytesRemain)) (Stopped BrokenEntry)) (Stopped Ends))
    go true t true u true e =
        let m : length (drop at s) ≡ length s - at = length-drop at s in
        let h : at + record_size p * count_of ns ≤ length s = leb-true (at + record_size p * count_of ns) (length s) t in
        let f : record_size p * count_of ns ≤ length (drop at s) = omega arith in
        run-all p (count_of ns) 0 0 (drop at s) f (sym (part-good p ns s at f) ∙ u)
    go true t true u false e = absurd (omega arith)
    go true t false u q e = absurd (omega arith)
    go false t g u q e = absurd (omega arith)

pub all-delivered : AllDelivered
unfolding report_reading
all-delivered p s e = good-delivered p s ∙ all_of p s (read_numbers p s) e

pub moves : Moves
unfolding taking
moves p room (Numbers ns held) b bs h e = omega arith
moves p room (Records ns zero last above held) b bs h e = omega arith
moves p room (Records ns (suc n) last above held) b bs h e = rw (le-ltb room (record_size p) h) (omega arith)
moves p room (Counting ns zero) b bs h e = let z : ◌≡◌ {A = ℕ} 0 1 = cc in absurd (omega arith)
moves p room (Counting ns (suc n)) b bs h e = omega arith
moves p room (Refused n) b bs h e = let z : ◌≡◌ {A = ℕ} 0 1 = cc in absurd (omega arith)
moves p room (Accepted ns) b bs h e = let z : ◌≡◌ {A = ℕ} 0 1 = cc in absurd (omega arith)

pub stands-at-the-end : StandsAtTheEnd
unfolding at_end
stands-at-the-end (Numbers ns held) h = absurd (h refl)
stands-at-the-end (Records ns zero last above held) h = absurd (h refl)
stands-at-the-end (Records ns (suc n) last above held) h = absurd (h refl)
stands-at-the-end (Counting ns zero) h = refl
stands-at-the-end (Counting ns (suc n)) h = absurd (h refl)
stands-at-the-end (Refused n) h = refl
stands-at-the-end (Accepted ns) h = absurd (h refl)

-- a refusal that stands closes the reader
pub stands-closed : (st : State) → (standing st ≡ 0 → ⊥) → closed st ≡ true
stands-closed (Numbers ns held) n = absurd (n refl)
stands-closed (Records ns k last above held) n = absurd (n refl)
stands-closed (Counting ns zero) n = refl
stands-closed (Counting ns (suc k)) n = absurd (n refl)
stands-closed (Refused k) n = refl
stands-closed (Accepted ns) n = absurd (n refl)

-- and a closed reader takes nothing
pub closed-takes : (p : Profile) (room : ℕ) (st : State) (s : List ℕ) → closed st ≡ true → taking p room st s ≡ 0
unfolding taking
closed-takes p room st [] e = refl
closed-takes p room (Numbers ns held) (b ∷ s) e = let z : ◌≡◌ {A = ℕ} 0 1 = cc in absurd (omega arith)
closed-takes p room (Records ns n last above held) (b ∷ s) e = let z : ◌≡◌ {A = ℕ} 0 1 = cc in absurd (omega arith)
closed-takes p room (Counting ns zero) (b ∷ s) e = refl
closed-takes p room (Counting ns (suc n)) (b ∷ s) e = let z : ◌≡◌ {A = ℕ} 0 1 = cc in absurd (omega arith)
closed-takes p room (Refused n) (b ∷ s) e = refl
closed-takes p room (Accepted ns) (b ∷ s) e = refl
