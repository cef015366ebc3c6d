-- The end that the code works out tells exactly the objects that are lost, so that the status by it is the status.
-- Assumes nothing.
use Prim.Native.Nat.{ℕ, zero, suc, ◌+◌, ◌-◌, ◌*◌, ◌/◌, ◌≤◌, ◌<◌, max}
use mathlib.Core.Path.{◌≡◌, refl, sym, ap, ◌∙◌}
use mathlib.Core.Bool.{Bool, true, false, not, ◌&&◌}
use mathlib.Core.List.{List}
use native.Mathlib.Nat.{add-zero, zero-add, suc-add, zero-mul, mul_comm, add-mul, le-div_iff_mul-le, max-eq_left, max-eq_right}
use native.Mathlib.Numerals.{add-one}
use native.Mathlib.Omega.{arith}
use borrow.Author.Tests.{lt-ltb, le-ltb, eq-eqb, ne_eqb, leb-true}
use lib.Dec.{eqb, leb, ltb}
use Rattle.wire.specs.Bytes.{pick}
use Rattle.wire.proofs.Lengths.{split}
use Rattle.tracker.specs.Known.{most_objects}
use Rattle.tracker.specs.Record.{first_of, interval_of, named_of, word_at, time_of, has_arrived, none_arrived, first_named, numbers_obey, consistent, first_place, first_time, known}
use Rattle.tracker.specs.Status.{larger_arrived, is_lost}
use Rattle.tracker.specs.Counting.{no_arrival, widened, spread_from, reached, reach_of, loss_end}
use Rattle.tracker.specs.declared.Spread.{Spread}
use Rattle.tracker.proofs.Tests.{clash, and_left, and_right}
use Rattle.tracker.proofs.Arrivals.{arrives}
use Rattle.tracker.proofs.Fates.{some-came}

-- ---- "none arrived" over a part

module _ (r : List ℕ) where
  pub none-later : (m n place : ℕ) → none_arrived (m + n) place r ≡ true → none_arrived n (place + m) r ≡ true
  unfolding none_arrived
  none-later zero n place e = rw (add-zero, ← zero-add n) e
  none-later (suc m) n place e =
      let p : place + suc m ≡ suc place + m = omega arith in
      let q : none_arrived (suc (m + n)) place r ≡ true = rw suc-add at e in
      arrives (word_at r place) (λ a. clash q (rw a)) (λ a. rw p (none-later m n (suc place) (rw a at q)))

  pub one-arrived : (n place i : ℕ) → place ≤ i → i < place + n → has_arrived (word_at r i) ≡ true → none_arrived n place r ≡ false
  unfolding none_arrived
  one-arrived zero place i l h e = absurd (omega arith)
  one-arrived (suc n) place i l h e =
      arrives (word_at r place)
      (λ a. rw a)
      (λ a. rw a (split (suc place) i (λ k. one-arrived n (suc place) i k (omega arith) e) (λ k. let q : i ≡ place = omega arith in clash (rw q at e) a)))

  -- ---- the end of the highest place that arrived

  pub spread-splits : (m n place : ℕ) (s : Spread) → spread_from r (m + n) place s ≡ spread_from r n (place + m) (spread_from r m place s)
  unfolding spread_from
  spread-splits zero n place s = rw (add-zero, zero-add)
  spread-splits (suc m) n place s =
      let p : suc place + m ≡ place + suc m = omega arith in
      rw (suc-add m n) (spread-splits m n (suc place) (widened s (word_at r place) place) ∙ rw p)

  -- one more object, by whether it arrived
  pub spread-yes : (n place : ℕ) (s : Spread) → has_arrived (word_at r place) ≡ true → spread_from r (suc n) place s ≡ spread_from r n (suc place) (reached s (time_of (word_at r place)) place)
  unfolding spread_from
  spread-yes n place s a = ap (spread_from r n (suc place)) (rw a)

  pub spread-no : (n place : ℕ) (s : Spread) → has_arrived (word_at r place) ≡ false → spread_from r (suc n) place s ≡ spread_from r n (suc place) s
  unfolding spread_from
  spread-no n place s a = ap (spread_from r n (suc place)) (rw a)

  top_within : (n place : ℕ) (s : Spread) → s.top ≤ place → (spread_from r n place s).top ≤ place + n
  unfolding spread_from
  top_within zero place s h = rw add-zero h
  top_within (suc n) place s h =
      let e : place + suc n ≡ suc place + n = omega arith in
      arrives (word_at r place)
      (λ a. rw (spread-yes n place s a, e) (top_within n (suc place) (reached s (time_of (word_at r place)) place) (omega arith)))
      (λ a. rw (spread-no n place s a, e) (top_within n (suc place) s (omega arith)))

  both : (b : Bool) → pick b true true ≡ true
  both true = refl
  both false = refl

  top_above : (n place p : ℕ) (s : Spread) → p < place → ltb (suc p) (spread_from r n place s).top ≡ pick (none_arrived n place r) (ltb (suc p) s.top) true
  unfolding spread_from none_arrived
  top_above zero place p s h = refl
  top_above (suc n) place p s h =
      arrives (word_at r place)
      (λ a. rw (spread-yes n place s a, a) (top_above n (suc place) p (reached s (time_of (word_at r place)) place) (omega arith) ∙ rw (lt-ltb (suc p) (place + 1) (omega arith)) (both (none_arrived n (suc place) r))))
      (λ a. rw (spread-no n place s a, a) (top_above n (suc place) p s (omega arith)))

  fall : (b c : Bool) → c ≡ false → pick b c true ≡ not b
  fall true c e = e
  fall false c e = refl

  -- a larger number arrived exactly where the end of the highest place lies above
  pub larger-by-top : (p : ℕ) → p < most_objects → ltb (p + 1) (spread_from r most_objects 0 no_arrival).top ≡ larger_arrived (known r) p
  larger-by-top p h =
      let e : most_objects ≡ suc p + (most_objects - suc p) = omega arith in
      let q : 0 + suc p ≡ suc p = omega arith in
      let start : Spread = spread_from r (suc p) 0 no_arrival in
      let w : start.top ≤ suc p = rw q at (top_within (suc p) 0 no_arrival (omega arith)) in
      ap (λ (s : Spread). ltb (p + 1) s.top) (ap (λ (k : ℕ). spread_from r k 0 no_arrival) e ∙ spread-splits (suc p) (most_objects - suc p) 0 no_arrival)
      ∙ rw (q, add-one p) (top_above (most_objects - suc p) (suc p) p start (omega arith) ∙ fall (none_arrived (most_objects - suc p) (suc p) r) (ltb (suc p) start.top) (le-ltb (suc p) start.top w) ∙ sym (some-came r (most_objects - suc p) (suc p)))

-- ---- the time that has passed, by a division and no product

overdue-by-reach : (interval since time f p : ℕ) → f < p → p < most_objects
    → ltb (since + interval * (p - f) + 2 * interval) time ≡ ltb (p + 1) (f + reach_of interval (time - since))
overdue-by-reach interval since time f p h l =
    split (time - since) 0
    (λ z.
    let n : time - since ≡ 0 = omega arith in
    rw (eq-eqb (time - since) 0 n, le-ltb (since + interval * (p - f) + 2 * interval) time (omega arith), le-ltb (p + 1) (f + 0) (omega arith)))
    (λ z. rw (ne_eqb (time - since) 0 (λ e. absurd (omega arith))) (go interval z))
  where
    go : (k : ℕ) → 0 < time - since → ltb (since + k * (p - f) + 2 * k) time ≡ ltb (p + 1) (f + pick (eqb k 0) 257 ((time - since - 1) / k))
    go zero z =
        let m : 0 * (p - f) ≡ 0 = zero-mul (p - f) in
        rw (m, lt-ltb (since + 0 + 2 * 0) time (omega arith), lt-ltb (p + 1) (f + 257) (omega arith))
    go (suc k) z =
        let q : suc k * (p - f) + 2 * suc k ≡ (p - f + 2) * suc k = rw (add-mul, mul_comm (p - f) (suc k)) in
        split ((p - f + 2) * suc k) (time - since - 1)
        (λ m.
        let d = (le-div_iff_mul-le {k = suc k} {x = p - f + 2} {y = time - since - 1} (omega arith)).1 m in
        rw (ne_eqb (suc k) 0 (λ e. absurd (omega arith)), lt-ltb (since + suc k * (p - f) + 2 * suc k) time (omega arith), lt-ltb (p + 1) (f + (time - since - 1) / suc k) (omega arith)))
        (λ m.
        let d : (time - since - 1) / suc k < p - f + 2 = split (p - f + 2) ((time - since - 1) / suc k) (λ a. absurd (omega (arith, (le-div_iff_mul-le {k = suc k} {x = p - f + 2} {y = time - since - 1} (omega arith)).0 a))) (λ a. a) in
        rw (ne_eqb (suc k) 0 (λ e. absurd (omega arith)), le-ltb (since + suc k * (p - f) + 2 * suc k) time (omega arith), le-ltb (p + 1) (f + (time - since - 1) / suc k) (omega arith)))

ltb-max : (a x y : ℕ) → ltb a (max x y) ≡ pick (ltb a x) true (ltb a y)
ltb-max a x y =
    split x y
    (λ h. rw (max-eq_right h) (split (suc a) x (λ k. rw (lt-ltb a x (omega arith), lt-ltb a y (omega arith))) (λ k. rw (le-ltb a x (omega arith)))))
    (λ h.
    let e : max x y ≡ x = max-eq_left (omega arith) in
    rw e (split (suc a) x (λ k. rw (lt-ltb a x (omega arith))) (λ k. rw (le-ltb a x (omega arith), le-ltb a y (omega arith)))))

-- ---- what a consistent record knows of its first arrival

module _ (r : List ℕ) (sound : consistent r ≡ true) where
  pub numbers-sound : numbers_obey (first_of r) (interval_of r) ≡ true
  unfolding consistent
  numbers-sound = and_left (numbers_obey (first_of r) (interval_of r)) (first_named r) sound

  first-sound : first_named r ≡ true
  unfolding consistent
  first-sound = and_right (numbers_obey (first_of r) (interval_of r)) (first_named r) sound

  pub none_named : named_of r ≡ 0 → none_arrived most_objects 0 r ≡ true
  unfolding first_named
  none_named e = rw (eq-eqb (named_of r) 0 e) at first-sound

  one-named : (named_of r ≡ 0 → ⊥) → (leb (named_of r) most_objects && has_arrived (word_at r (first_place r))) ≡ true
  unfolding first_named
  one-named f = rw (ne_eqb (named_of r) 0 f) at first-sound

  pub named-within : named_of r ≤ most_objects
  named-within =
      split (named_of r) 0
      (λ h. omega arith)
      (λ h. leb-true (named_of r) most_objects (and_left (leb (named_of r) most_objects) (has_arrived (word_at r (first_place r))) (one-named (λ e. absurd (omega arith)))))

  pub first-arrived : (named_of r ≡ 0 → ⊥) → has_arrived (word_at r (first_place r)) ≡ true
  first-arrived f = and_right (leb (named_of r) most_objects) (has_arrived (word_at r (first_place r))) (one-named f)

  -- ---- an object that has not arrived is lost exactly where its place is more than one below the end

  pub lost-by-end : (time p : ℕ) → p < most_objects → has_arrived (word_at r p) ≡ false
      → is_lost (known r) time p ≡ ltb (p + 1) (loss_end r time (spread_from r most_objects 0 no_arrival).top)
  unfolding loss_end
  lost-by-end time p h away =
      split (named_of r) 0
      (λ z.
      let n : named_of r ≡ 0 = omega arith in
      let q : 0 + suc p ≡ suc p = omega arith in
      let e : suc p + (most_objects - suc p) ≡ most_objects = omega arith in
      let none : none_arrived (most_objects - suc p) (suc p) r ≡ true = rw q at (none-later r (suc p) (most_objects - suc p) 0 (rw e (none_named n))) in
      rw (some-came r (most_objects - suc p) (suc p), eq-eqb (named_of r) 0 n, none, le-ltb (p + 1) 0 (omega arith)))
      (λ z.
      let f : named_of r ≡ 0 → ⊥ = λ e. absurd (omega arith) in
      let here = first-arrived f in
      let within = named-within in
      rw (ne_eqb (named_of r) 0 f, ltb-max, larger-by-top r p h)
      (split (suc (first_place r)) p
      (λ k. rw (lt-ltb (first_place r) p (omega arith), overdue-by-reach (interval_of r) (first_time r) time (first_place r) p (omega arith) h))
      (λ k. split (first_place r) p
      (λ j. let q : first_place r ≡ p = omega arith in clash (rw q at here) away)
      (λ j. rw (some-came r (most_objects - suc p) (suc p), one-arrived r (most_objects - suc p) (suc p) (first_place r) (omega arith) (omega arith) here)))))
