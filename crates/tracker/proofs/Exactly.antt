-- The refusal table for the tracker's calls, proved: each test of a definition says what its row says, and the tests come in their order.
-- Assumes nothing.
use Prim.Native.Nat.{ℕ, zero, suc, ◌+◌, ◌-◌, ◌*◌, ◌≤◌, ◌<◌}
use mathlib.Core.Path.{◌≡◌, refl, sym}
use mathlib.Core.Logic.{inl, inr, ⊎_elim}
use mathlib.Core.Bool.{Bool, true, false, ◌&&◌}
use mathlib.Core.List.{List}
use native.Mathlib.Nat.{lt_of_not-le}
use native.Mathlib.Omega.{arith}
use borrow.Author.Tests.{le-leb, lt-ltb, leb-true, ltb-true, eq-eqb, ne_eqb, eqb-false}
use lib.Dec.{leb, ltb, eqb}
use lib.ListN.{length}
use Rattle.wire.specs.Bytes.{pick}
use Rattle.wire.specs.Numbers.{limit}
use Rattle.wire.proofs.Lengths.{split}
use Rattle.entries.specs.Profiles.{record_size}
use Rattle.entries.specs.declared.Profile.TheVariants.{One}
use Rattle.tracker.specs.Known.{most_objects}
use Rattle.tracker.specs.Record.{first_of, interval_of, named_of, word_at, state_of, received, none_arrived, first_named, both_obey, consistent, known}
use Rattle.tracker.specs.Calls.{inside, open_refusal, opened, object_refusal, arrived_refusal, ended_refusal, place_of}
use Rattle.tracker.specs.Report.{total_of, made_refusal, report_refusal, report_bytes, stored_unless, entries_at}
use Rattle.tracker.specs.Exactly.{Arrived, Consistent, ConsistentExactly, OpenObeys, OpenRows, Inside, ObjectRows, ArrivalObeys, EndObeys, InRange, ReportRows, Exactly, Unchanged}
use Rattle.tracker.proofs.Arrivals.{arrives}
use Rattle.tracker.proofs.Tests.{clash}
use Rattle.tracker.proofs.Judging.{refused-stays}
use Rattle.tracker.proofs.Losses.{one-arrived, numbers-sound, named-within, none_named, first-arrived}

-- ---- a test says what its row says

record Says (b : Bool) (P : Type 0) : Type 0 where
  holds : b ≡ true → P
  shows : P → b ≡ true

fails : {b : Bool} {P : Type 0} → Says b P → b ≡ false → P → ⊥
fails s e p = clash (s.shows p) e

both : {a b : Bool} {P Q : Type 0} → Says a P → Says b Q → Says (a && b) (P × Q)
both {a} {b} {P} {Q} s t = record { holds = holding a b refl refl; shows = λ p. rw (s.shows p.0, t.shows p.1) }
  where
    holding : (x y : Bool) → a ≡ x → b ≡ y → (x && y) ≡ true → P × Q
    holding true true e f g = (s.holds e, t.holds f)
    holding true false e f g = clash g refl
    holding false y e f g = clash g refl

at_most : (m n : ℕ) → Says (leb m n) (m ≤ n)
at_most m n = record { holds = leb-true m n; shows = le-leb m n }

less : (m n : ℕ) → Says (ltb m n) (m < n)
less m n = record { holds = ltb-true m n; shows = lt-ltb m n }

two-small : (m n : ℕ) → Says (both_obey m n) ((m ≤ limit) × (n ≤ limit))
two-small m n = both (at_most m limit) (at_most n limit)

-- ---- consistent

none_of : (r : List ℕ) (n place : ℕ) → ((i : ℕ) → place ≤ i → i < place + n → Arrived (word_at r i) → ⊥) → none_arrived n place r ≡ true
unfolding none_arrived
none_of r zero place f = refl
none_of r (suc n) place f =
    arrives (word_at r place)
    (λ a. absurd (f place (omega arith) (omega arith) (leb-true received (state_of (word_at r place)) a)))
    (λ a. rw a (none_of r n (suc place) (λ i l h. f i (omega arith) (omega arith))))

named-first : (r : List ℕ) → Consistent r → first_named r ≡ true
unfolding first_named
named-first r c =
    split (named_of r) 0
    (λ h.
    let z : named_of r ≡ 0 = omega arith in
    rw (eq-eqb (named_of r) 0 z) (none_of r most_objects 0 (λ i l k. c.none z i (omega arith))))
    (λ h.
    let f : named_of r ≡ 0 → ⊥ = λ z. absurd (omega arith) in
    rw (ne_eqb (named_of r) 0 f, le-leb (named_of r) most_objects c.within) (le-leb received (state_of (word_at r (named_of r - 1))) (c.named f)))

sound : (r : List ℕ) → Says (consistent r) (Consistent r)
unfolding consistent
sound r = record {
  holds = λ e. record {
    last = ((two-small (first_of r + 255) (interval_of r)).holds (numbers-sound r e)).0;
    interval = ((two-small (first_of r + 255) (interval_of r)).holds (numbers-sound r e)).1;
    within = named-within r e;
    named = λ f. leb-true received (state_of (word_at r (named_of r - 1))) (first-arrived r e f);
    none = λ z place h a. clash (none_named r e z) (one-arrived r most_objects 0 place (omega arith) (omega arith) (le-leb received (state_of (word_at r place)) a));
  };
  shows = λ c. rw ((two-small (first_of r + 255) (interval_of r)).shows (c.last, c.interval)) (named-first r c);
}

pub consistent-exactly : ConsistentExactly
consistent-exactly r = ((sound r).holds, (sound r).shows)

-- ---- the rows of each call, by its tests in their order

-- two different numerals are not equal
pub no : {P : Type 0} (m n : ℕ) → eqb m n ≡ false → m ≡ n → P
no m n f e = absurd (eqb-false m n f e)

open-rows : (first interval : ℕ) (b : Bool) → Says b (OpenObeys first interval) → OpenRows first interval (pick b 0 5)
open-rows first interval true s = record {
  five = (no 0 5 refl, λ f. absurd (f (s.holds refl)));
  accepted = (λ e. s.holds refl, λ p. refl);
  others = inl refl;
}
open-rows first interval false s = record {
  five = (λ e. fails s refl, λ f. refl);
  accepted = (no 5 0 refl, λ p. absurd (fails s refl p));
  others = inr (inl refl);
}

object-rows : (r : List ℕ) (object : ℕ) (Obeys : Type 0) (a b c : Bool) → Says a (Consistent r) → Says b Obeys → Says c (Inside r object)
    → ObjectRows r object Obeys (pick a (pick b (pick c 0 17) 5) 1)
object-rows r object Obeys true true true s t u = record {
  one = (no 0 1 refl, λ f. absurd (f (s.holds refl)));
  five = (no 0 5 refl, λ p. absurd (p.1 (t.holds refl)));
  seventeen = (no 0 17 refl, λ p. absurd (p.1.1 (u.holds refl)));
  accepted = (λ e. (s.holds refl, (t.holds refl, u.holds refl)), λ p. refl);
  others = inl refl;
}
object-rows r object Obeys true true false s t u = record {
  one = (no 17 1 refl, λ f. absurd (f (s.holds refl)));
  five = (no 17 5 refl, λ p. absurd (p.1 (t.holds refl)));
  seventeen = (λ e. (s.holds refl, (t.holds refl, fails u refl)), λ p. refl);
  accepted = (no 17 0 refl, λ p. absurd (fails u refl p.1.1));
  others = inr (inr (inr (inl refl)));
}
object-rows r object Obeys true false c s t u = record {
  one = (no 5 1 refl, λ f. absurd (f (s.holds refl)));
  five = (λ e. (s.holds refl, fails t refl), λ p. refl);
  seventeen = (no 5 17 refl, λ p. absurd (fails t refl p.1.0));
  accepted = (no 5 0 refl, λ p. absurd (fails t refl p.1.0));
  others = inr (inr (inl refl));
}
object-rows r object Obeys false b c s t u = record {
  one = (λ e. fails s refl, λ f. refl);
  five = (no 1 5 refl, λ p. absurd (fails s refl p.0));
  seventeen = (no 1 17 refl, λ p. absurd (fails s refl p.0));
  accepted = (no 1 0 refl, λ p. absurd (fails s refl p.0));
  others = inr (inl refl);
}

report-rows : (r : List ℕ) (time interval room : ℕ) (a b c d : Bool) → Says a (Consistent r) → Says b (EndObeys time interval) → Says c (InRange r) → Says d (record_size One * total_of (known r) time ≤ room)
    → ReportRows r time interval room (pick a (pick b (pick c (pick d 0 9) 5) 5) 1)
report-rows r time interval room true true true true s t u v = record {
  one = (no 0 1 refl, λ f. absurd (f (s.holds refl)));
  five = (no 0 5 refl, λ p. ⊎_elim (λ f. absurd (f (t.holds refl))) (λ q. absurd (q.1 (u.holds refl))) p.1);
  nine = (no 0 9 refl, λ p. let l = v.holds refl in let m = p.1.1.1 in absurd (omega arith));
  accepted = (λ e. (s.holds refl, (t.holds refl, (u.holds refl, v.holds refl))), λ p. refl);
  others = inl refl;
}
report-rows r time interval room true true true false s t u v = record {
  one = (no 9 1 refl, λ f. absurd (f (s.holds refl)));
  five = (no 9 5 refl, λ p. ⊎_elim (λ f. absurd (f (t.holds refl))) (λ q. absurd (q.1 (u.holds refl))) p.1);
  nine = (λ e. (s.holds refl, (t.holds refl, (u.holds refl, lt_of_not-le (fails v refl)))), λ p. refl);
  accepted = (no 9 0 refl, λ p. absurd (fails v refl p.1.1.1));
  others = inr (inr (inr (inl refl)));
}
report-rows r time interval room true true false d s t u v = record {
  one = (no 5 1 refl, λ f. absurd (f (s.holds refl)));
  five = (λ e. (s.holds refl, inr (t.holds refl, fails u refl)), λ p. refl);
  nine = (no 5 9 refl, λ p. absurd (fails u refl p.1.1.0));
  accepted = (no 5 0 refl, λ p. absurd (fails u refl p.1.1.0));
  others = inr (inr (inl refl));
}
report-rows r time interval room true false c d s t u v = record {
  one = (no 5 1 refl, λ f. absurd (f (s.holds refl)));
  five = (λ e. (s.holds refl, inl (fails t refl)), λ p. refl);
  nine = (no 5 9 refl, λ p. absurd (fails t refl p.1.0));
  accepted = (no 5 0 refl, λ p. absurd (fails t refl p.1.0));
  others = inr (inr (inl refl));
}
report-rows r time interval room false b c d s t u v = record {
  one = (λ e. fails s refl, λ f. refl);
  five = (no 1 5 refl, λ p. absurd (fails s refl p.0));
  nine = (no 1 9 refl, λ p. absurd (fails s refl p.0));
  accepted = (no 1 0 refl, λ p. absurd (fails s refl p.0));
  others = inr (inl refl);
}

within : (r : List ℕ) (object : ℕ) → Says (inside r object) (Inside r object)
within r object = both (at_most (first_of r) object) (less (place_of r object) most_objects)

pub exactly : Exactly
unfolding open_refusal object_refusal arrived_refusal ended_refusal made_refusal report_refusal
exactly =
    record {
      opening = λ first interval. open-rows first interval _ (two-small (first + 255) interval);
      arrived = λ r object time deadline. object-rows r object (ArrivalObeys object time deadline) _ _ _ (sound r) (both (two-small object time) (at_most deadline (limit + 1))) (within r object);
      ended = λ r object time. object-rows r object (EndObeys object time) _ _ _ (sound r) (two-small object time) (within r object);
      report = λ r time interval room. report-rows r time interval room _ _ _ _ (sound r) (two-small time interval) (at_most _ limit) (at_most (record_size One * total_of (known r) time) room);
    }

stays : (n : ℕ) (entries xs : List ℕ) → (n ≡ 0 → ⊥) → stored_unless n entries xs ≡ xs
stays zero entries xs f = absurd (f refl)
stays (suc n) entries xs f = refl

pub unchanged : Unchanged
unfolding report_bytes
unchanged =
    record {
      opening = λ r first interval f. sym (refused-stays (open_refusal first interval) r (opened first interval) f);
      arrived = λ r object time deadline f. sym (refused-stays (arrived_refusal r object time deadline) r _ f);
      ended = λ r object time f. sym (refused-stays (ended_refusal r object time) r _ f);
      report = λ r time interval xs f. stays (report_refusal r time interval (length xs)) (entries_at (known r) time) xs f;
    }
