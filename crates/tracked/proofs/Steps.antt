-- What each call leaves, by its cases: refused, ignored, or the word of its object set.
-- Assumes nothing.
use Prim.Native.Nat.{ℕ, ◌+◌, ◌-◌, ◌≤◌, ◌<◌}
use mathlib.Core.Path.{◌≡◌, refl, sym, ap, ◌∙◌}
use mathlib.Core.Bool.{Bool, true, ◌&&◌}
use mathlib.Core.List.{List}
use native.Mathlib.Omega.{arith}
use borrow.Author.Tests.{leb-true, ltb-true, eq-eqb, ne_eqb, eqb-true, eqb-false}
use lib.Dec.{leb, ltb, eqb}
use lib.ListN.{set, length-set}
use Rattle.wire.specs.Bytes.{pick}
use Rattle.tracker.specs.Known.{most_objects, Fate, ended, came, FirstArrival, first_came}
use Rattle.tracker.specs.Record.{named_of, word_at, state_of, time_of, word_of, nothing, ended_early, received, fate_of, has_arrived, both_obey, known}
use Rattle.tracker.specs.Calls.{among, is_late, arrival_word, arrival_obeys, arrived_refusal, with_named, with_arrival, arrived_after, ended_refusal, with_end, ended_after}
use Rattle.tracker.specs.Exactly.{Consistent}
use Rattle.tracked.specs.Told.{arrival_counts, end_counts}
use Rattle.tracker.proofs.Arrivals.{arrives}
use Rattle.tracker.proofs.Fates.{word-came}
use Rattle.tracker.proofs.Judging.{refused-stays, both_small, arrival-small, arrival-ignored, arrival-counts, end-ignored, end-counts}
use Rattle.tracker.proofs.Tests.{either, and_left, and_right}
use Rattle.tracked.proofs.Told.{Holds, Step, fate_then, first_then, then-stays, then-known, counts, counts-not, nothing-told, set_here, set_there, set-head, same-arrival, placed, place-step, arrival-says, arrival-state, arrival-time, end-says}

-- the same step, told in other words
step-as : {first interval : ℕ} {r s : List ℕ} {f g : FirstArrival → FirstArrival} {a b c d : ℕ → Fate → Fate} → Step first interval r s f a c
    → ((k : FirstArrival) → f k ≡ g k) → ((p : ℕ) (w : Fate) → a p w ≡ b p w) → ((p : ℕ) (w : Fate) → c p w ≡ d p w) → Step first interval r s g b d
step-as {r = r} {a = a} {b = b} {c = c} {d = d} st e f g =
    record {
      holds = st.holds;
      names = λ k. st.names k ∙ ap (first_then (known r).arrival) (e k);
      fates = λ p x y. st.fates p x y ∙ ap (λ (n : Fate). fate_then (fate_of (word_at r p)) n (c p y)) (f p x) ∙ ap (fate_then (fate_of (word_at r p)) (b p x)) (g p y);
    }

-- an object's number and its place say the same
same_object : (first object p : ℕ) → first ≤ object → eqb p (object - first) ≡ eqb object (first + p)
same_object first object p h =
    either (eqb p (object - first))
    (λ e. rw e (sym (eq-eqb object (first + p) (omega (arith, eqb-true p (object - first) e)))))
    (λ e. rw e (sym (ne_eqb object (first + p) (λ q. eqb-false p (object - first) e (omega arith)))))

inside-from : (first object : ℕ) → among first object ≡ true → (first ≤ object) × (object - first < most_objects)
inside-from first object e = (
  leb-true first object (and_left (leb first object) (ltb (object - first) most_objects) e),
  ltb-true (object - first) most_objects (and_right (leb first object) (ltb (object - first) most_objects) e),
)

module _ (first interval : ℕ) (r : List ℕ) (h : Holds first interval r) where
  -- ---- an arrival

  -- a second arrival is ignored, and tells nothing new
  second : (place time : ℕ) (late : Bool) → place < most_objects → has_arrived (word_at r place) ≡ true → Step first interval r r (λ k. first_came place time) (λ p a. pick (eqb p place) (came time late) a) (λ p e. e)
  second place time late l a =
      record {
        holds = h;
        names = λ k. rw (ne_eqb (named_of r) 0 (λ z. h.sound.none z place l (leb-true received (state_of (word_at r place)) a)));
        fates = λ p x y.
            either (eqb p place)
            (λ t.
            let q : p ≡ place = eqb-true p place t in
            rw (q, eq-eqb place place refl) (then-stays (fate_of (word_at r place)) x (came time late) y (word-came (word_at r place) ∙ a)))
            (λ t. rw t);
      }

  module _ (object time deadline : ℕ) where
    abbrev fate : Fate
    fate = came time (is_late time deadline)

    counted-arrival : arrival_counts first object time deadline ≡ true
        → Step first interval r (arrived_after r object time deadline) (λ k. first_came (object - first) time) (λ p a. pick (eqb p (object - first)) fate a) (λ p e. e)
    unfolding arrived_refusal
    counted-arrival e =
        let b = arrival_obeys object time deadline in
        let z : arrived_refusal r object time deadline ≡ 0 = counts r first interval object h b e in
        let i = inside-from first object (and_right b (among first object) e) in
        let t = (arrival-small object time deadline (and_left b (among first object) e)).1 in
        let n : arrived_after r object time deadline ≡ with_arrival r (object - first) (arrival_word time deadline) = rw (z, h.is-first) in
        rw n
        (arrives (word_at r (object - first))
        (λ a. rw (← arrival-ignored r (object - first) (arrival_word time deadline) a) (second (object - first) time (is_late time deadline) i.1 a))
        (λ a.
        rw (← arrival-counts r (object - first) (with_named r (object - first)) (arrival_word time deadline) (arrival_word time deadline) a refl refl)
        (place-step first interval r _ h (object - first) (arrival_word time deadline) time (is_late time deadline) (arrival-says time deadline t) i.1 (arrival-state time deadline t) (arrival-time time deadline t) a (placed r (object - first) (arrival_word time deadline) h.size i.1))))

    pub arrival-step : Step first interval r (arrived_after r object time deadline)
        (λ k. pick (arrival_counts first object time deadline) (first_came (object - first) time) k)
        (λ p a. pick (arrival_counts first object time deadline && eqb object (first + p)) fate a)
        (λ p e. e)
    unfolding arrived_refusal
    arrival-step =
        let b = arrival_obeys object time deadline in
        either (arrival_counts first object time deadline)
        (λ e.
        let i = inside-from first object (and_right b (among first object) e) in
        step-as (counted-arrival e)
        (λ k. rw e)
        (λ p w. rw e (ap (λ (t : Bool). pick t fate w) (same_object first object p i.0)))
        (λ p w. refl))
        (λ e.
        let f = counts-not r first interval object h b e in
        step-as (nothing-told first interval r (arrived_after r object time deadline) h (sym (refused-stays (arrived_refusal r object time deadline) r _ f)))
        (λ k. rw e)
        (λ p w. rw e)
        (λ p w. refl))

  -- ---- an early end

  -- a second early end, or one after an arrival, is ignored, and tells nothing new
  late-end : (place time : ℕ) → (state_of (word_at r place) ≡ nothing → ⊥) → Step first interval r r (λ k. k) (λ p a. a) (λ p e. pick (eqb p place) (ended time) e)
  late-end place time f =
      record {
        holds = h;
        names = λ k. refl;
        fates = λ p x y.
            either (eqb p place)
            (λ t.
            let q : p ≡ place = eqb-true p place t in
            rw (q, eq-eqb place place refl) (then-known (state_of (word_at r place)) (time_of (word_at r place)) x y (ended time) f))
            (λ t. rw t);
      }

  module _ (place word time : ℕ) (within : place < most_objects) (says : fate_of word ≡ ended time) (is : state_of word ≡ ended_early) (away : state_of (word_at r place) ≡ nothing) where
    -- the one named is another
    other : (g : named_of r ≡ 0 → ⊥) → named_of r - 1 ≡ place → ⊥
    other g e = let a : received ≤ state_of (word_at r place) = rw e at (h.sound.named g) in omega arith

    end-sound : Consistent (set r (3 + place) word)
    end-sound = record {
      last = rw (set-head r place word h.size within 0 (omega arith)) h.sound.last;
      interval = rw (set-head r place word h.size within 1 (omega arith)) h.sound.interval;
      within = rw (set-head r place word h.size within 2 (omega arith)) h.sound.within;
      named = rw (set-head r place word h.size within 2 (omega arith)) (λ f. rw (set_there r place word h.size within (named_of r - 1) (other f)) (h.sound.named f));
      none = rw (set-head r place word h.size within 2 (omega arith))
          (λ z p l.
          either (eqb p place)
          (λ t. let q : p ≡ place = eqb-true p place t in rw (q, set_here r place word h.size within) (λ a. omega arith))
          (λ t. rw (set_there r place word h.size within p (eqb-false p place t)) (h.sound.none z p l)));
    }

    end-step-here : Step first interval r (set r (3 + place) word) (λ k. k) (λ p a. a) (λ p e. pick (eqb p place) (ended time) e)
    end-step-here = record {
      holds = record {
        size = length-set r (3 + place) word ∙ h.size;
        sound = end-sound;
        is-first = set-head r place word h.size within 0 (omega arith) ∙ h.is-first;
        is-interval = set-head r place word h.size within 1 (omega arith) ∙ h.is-interval;
      };
      names = λ k. ap (λ (f : FirstArrival). first_then f k) (same-arrival r (set r (3 + place) word) (set-head r place word h.size within 2 (omega arith)) (λ g. set_there r place word h.size within (named_of r - 1) (other g)));
      fates = λ p x y.
          either (eqb p place)
          (λ t.
          let q : p ≡ place = eqb-true p place t in
          rw (q, set_here r place word h.size within, eq-eqb place place refl, away) (ap (λ (f : Fate). fate_then f x y) says))
          (λ t. rw (t, set_there r place word h.size within p (eqb-false p place t)));
    }

  pub end_step : (object time : ℕ) → Step first interval r (ended_after r object time)
      (λ k. k)
      (λ p a. a)
      (λ p e. pick (end_counts first object time && eqb object (first + p)) (ended time) e)
  unfolding ended_refusal
  end_step object time =
      let b = both_obey object time in
      either (end_counts first object time)
      (λ e.
      let z : ended_refusal r object time ≡ 0 = counts r first interval object h b e in
      let i = inside-from first object (and_right b (among first object) e) in
      let t = (both_small object time (and_left b (among first object) e)).1 in
      let n : ended_after r object time ≡ with_end r (object - first) (word_of ended_early time) = rw (z, h.is-first) in
      let st : Step first interval r (ended_after r object time) (λ k. k) (λ p a. a) (λ p x. pick (eqb p (object - first)) (ended time) x) =
      rw n
      (either (eqb (state_of (word_at r (object - first))) nothing)
      (λ a.
      let a' = eqb-true (state_of (word_at r (object - first))) nothing a in
      rw (← end-counts r (object - first) (word_of ended_early time) a') (end-step-here (object - first) (word_of ended_early time) time i.1 (end-says time t) (omega arith) a'))
      (λ a.
      let f = eqb-false (state_of (word_at r (object - first))) nothing a in
      rw (← end-ignored r (object - first) (word_of ended_early time) f) (late-end (object - first) time f))) in
      step-as st
      (λ k. refl)
      (λ p w. refl)
      (λ p w. rw e (ap (λ (t : Bool). pick t (ended time) w) (same_object first object p i.0))))
      (λ e.
      let f = counts-not r first interval object h b e in
      step-as (nothing-told first interval r (ended_after r object time) h (sym (refused-stays (ended_refusal r object time) r _ f)))
      (λ k. refl)
      (λ p w. refl)
      (λ p w. rw e))
