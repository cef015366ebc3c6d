-- What one call does to what the record knows: the ground for an induction over the calls, from a record that holds what the calls before told.
-- Assumes nothing.
use Prim.Native.Nat.{ℕ, zero, suc, ◌+◌, ◌-◌, ◌≤◌, ◌<◌}
use mathlib.Core.Path.{◌≡◌, refl, sym, ap, ◌∙◌}
use mathlib.Core.Bool.{Bool, true, false, ◌&&◌}
use mathlib.Core.List.{List}
use native.Mathlib.Omega.{arith}
use borrow.Author.Tests.{le-leb, eq-eqb, ne_eqb, eqb-true, eqb-false}
use lib.Dec.{eqb}
use lib.ListN.{length, get_or, set, length-set}
use lib.Seq.{get_or-set_same, get_or-set_other}
use Rattle.wire.specs.Bytes.{pick}
use Rattle.wire.specs.Numbers.{limit}
use Rattle.wire.proofs.Lengths.{split}
use Rattle.tracker.specs.Known.{most_objects, Fate, unknown, ended, came, has_come, FirstArrival, none_yet, first_came}
use Rattle.tracker.specs.Record.{first_of, interval_of, named_of, word_at, state_of, time_of, word_of, nothing, ended_early, received, late, fate_in, fate_of, has_arrived, consistent, known}
use Rattle.tracker.specs.Calls.{among, numbers_refusal, object_refusal, is_late, arrival_word, with_named}
use Rattle.tracker.specs.Exactly.{Consistent}
use Rattle.tracked.specs.Told.{or_else}
use Rattle.tracker.proofs.Tests.{either, clash}
use Rattle.tracker.proofs.Fates.{word-came}
use Rattle.tracker.proofs.Exactly.{consistent-exactly}

-- ---- the words of arrivals and early ends say what the calls said

word_back : (state time : ℕ) → state < 4 → time ≤ limit → fate_of (word_of state time) ≡ fate_in state time
word_back state time h l =
    let s : state_of (word_of state time) ≡ state = omega arith in
    let u : time_of (word_of state time) ≡ time = omega arith in
    rw (s, u)

pub arrival-says : (time deadline : ℕ) → time ≤ limit → fate_of (arrival_word time deadline) ≡ came time (is_late time deadline)
arrival-says time deadline h = go (is_late time deadline)
  where
    go : (b : Bool) → fate_of (word_of (pick b late received) time) ≡ came time b
    go true = word_back late time (omega arith) h
    go false = word_back received time (omega arith) h

-- and so that it arrived, at its time
pub arrival-state : (time deadline : ℕ) → time ≤ limit → received ≤ state_of (arrival_word time deadline)
arrival-state time deadline h = go (is_late time deadline)
  where
    go : (b : Bool) → received ≤ state_of (word_of (pick b late received) time)
    go true = omega arith
    go false = omega arith

pub arrival-time : (time deadline : ℕ) → time ≤ limit → time_of (arrival_word time deadline) ≡ time
arrival-time time deadline h = go (is_late time deadline)
  where
    go : (b : Bool) → time_of (word_of (pick b late received) time) ≡ time
    go true = omega arith
    go false = omega arith

pub end-says : (time : ℕ) → time ≤ limit → fate_of (word_of ended_early time) ≡ ended time
end-says time h = word_back ended_early time (omega arith) h

-- ---- what is known already, and what the calls to come tell

-- of an object: an arrival stays; an early end stays unless an arrival comes
abbrev pub fate_then : Fate → Fate → Fate → Fate
fate_then (came time late) arrives ends = came time late
fate_then (ended time) arrives ends = or_else arrives (ended time)
fate_then unknown arrives ends = or_else arrives ends

-- of the first arrival
abbrev pub first_then : FirstArrival → FirstArrival → FirstArrival
first_then none_yet later = later
first_then (first_came place time) later = first_came place time

pub same-fate : (f : Fate) → f ≡ fate_then f unknown unknown
same-fate unknown = refl
same-fate (ended time) = refl
same-fate (came time after) = refl

pub same_first : (f : FirstArrival) → f ≡ first_then f none_yet
same_first none_yet = refl
same_first (first_came place time) = refl

-- one that came is told nothing new
pub then-stays : (f a b e : Fate) → has_come f ≡ true → fate_then f a e ≡ fate_then f b e
then-stays unknown a b e h = clash h refl
then-stays (ended time) a b e h = clash h refl
then-stays (came time after) a b e h = refl

-- one that has not come comes
pub then-comes : (f e : Fate) (time : ℕ) (late : Bool) → has_come f ≡ false → came time late ≡ fate_then f (came time late) e
then-comes unknown e time after h = refl
then-comes (ended since) e time after h = refl
then-comes (came since before) e time after h = clash refl h

-- one of which something is known does not end
pub then-known : (state time : ℕ) (a e g : Fate) → (state ≡ nothing → ⊥) → fate_then (fate_in state time) a e ≡ fate_then (fate_in state time) a g
then-known zero time a e g f = absurd (f refl)
then-known (suc zero) time a e g f = refl
then-known (suc (suc zero)) time a e g f = refl
then-known (suc (suc (suc state))) time a e g f = refl

-- ---- what a record after some calls knows

pub record Holds (first interval : ℕ) (r : List ℕ) : Type 0 where
  pub size : length r ≡ 259
  pub sound : Consistent r
  pub is-first : first_of r ≡ first
  pub is-interval : interval_of r ≡ interval

-- what one call leaves: the record holds, and the first arrival and the fates to come are as the calls with this one tell
pub record Step (first interval : ℕ) (r s : List ℕ) (named : FirstArrival → FirstArrival) (arrives ends : ℕ → Fate → Fate) : Type 0 where
  pub holds : Holds first interval s
  pub names : (k : FirstArrival) → first_then (known s).arrival k ≡ first_then (known r).arrival (named k)
  pub fates : (p : ℕ) (a e : Fate) → fate_then (fate_of (word_at s p)) a e ≡ fate_then (fate_of (word_at r p)) (arrives p a) (ends p e)

-- ---- which calls count

module _ (r : List ℕ) (first interval object : ℕ) (h : Holds first interval r) where
  sound-now : consistent r ≡ true
  sound-now = (consistent-exactly r).1 h.sound

  pub refusal-now : (b : Bool) → object_refusal r object b ≡ numbers_refusal first object b
  unfolding object_refusal
  refusal-now b = rw (sound-now, h.is-first)

  pub counts : (b : Bool) → (b && among first object) ≡ true → object_refusal r object b ≡ 0
  counts b e = refusal-now b ∙ go b (among first object) e
    where
      go : (b a : Bool) → (b && a) ≡ true → ◌≡◌ {A = ℕ} (pick b (pick a 0 17) 5) 0
      go true true e = refl
      go true false e = clash e refl
      go false a e = clash e refl

  pub counts-not : (b : Bool) → (b && among first object) ≡ false → object_refusal r object b ≡ 0 → ⊥
  counts-not b e z = go b (among first object) e (sym (refusal-now b) ∙ z)
    where
      go : (b a : Bool) → (b && a) ≡ false → ◌≡◌ {A = ℕ} (pick b (pick a 0 17) 5) 0 → ⊥
      go true true e z = clash refl e
      go true false e z = omega arith
      go false a e z = omega arith

-- a call that changes nothing and tells nothing
pub nothing-told : (first interval : ℕ) (r s : List ℕ) → Holds first interval r → s ≡ r → Step first interval r s (λ k. k) (λ p a. a) (λ p e. e)
nothing-told first interval r s h e = rw e (record { holds = h; names = λ k. refl; fates = λ p a e. refl })

-- ---- one word is set

module _ (r : List ℕ) (place word : ℕ) (size : length r ≡ 259) (within : place < most_objects) where
  pub set_here : word_at (set r (3 + place) word) place ≡ word
  set_here = get_or-set_same r (3 + place) word 0 (omega arith)

  pub set_there : (p : ℕ) → (p ≡ place → ⊥) → word_at (set r (3 + place) word) p ≡ word_at r p
  set_there p f = get_or-set_other r (3 + place) (3 + p) word 0 (λ e. f (omega arith))

  pub set-head : (i : ℕ) → i < 3 → get_or (set r (3 + place) word) i 0 ≡ get_or r i 0
  set-head i l = get_or-set_other r (3 + place) i word 0 (λ e. absurd (omega arith))

-- ---- an arrival that counts and is no second one: its word is set, and it is named if it is the first

pub record Placed (r s : List ℕ) (place word : ℕ) : Type 0 where
  pub size : length s ≡ 259
  pub is-first : first_of s ≡ first_of r
  pub is-interval : interval_of s ≡ interval_of r
  pub none_before : named_of r ≡ 0 → named_of s ≡ place + 1
  pub some-before : (named_of r ≡ 0 → ⊥) → named_of s ≡ named_of r
  pub here : word_at s place ≡ word
  pub there : (p : ℕ) → (p ≡ place → ⊥) → word_at s p ≡ word_at r p

pub placed : (r : List ℕ) (place word : ℕ) → length r ≡ 259 → place < most_objects → Placed r (set (with_named r place) (3 + place) word) place word
placed r place word size within =
    split (named_of r) 0
    (λ l.
    let z : named_of r ≡ 0 = omega arith in
    let n : length (set r 2 (place + 1)) ≡ 259 = length-set r 2 (place + 1) ∙ size in
    rw (eq-eqb (named_of r) 0 z)
    (record {
      size = length-set (set r 2 (place + 1)) (3 + place) word ∙ n;
      is-first = set-head (set r 2 (place + 1)) place word n within 0 (omega arith) ∙ get_or-set_other r 2 0 (place + 1) 0 (λ e. absurd (omega arith));
      is-interval = set-head (set r 2 (place + 1)) place word n within 1 (omega arith) ∙ get_or-set_other r 2 1 (place + 1) 0 (λ e. absurd (omega arith));
      none_before = λ e. set-head (set r 2 (place + 1)) place word n within 2 (omega arith) ∙ get_or-set_same r 2 (place + 1) 0 (omega arith);
      some-before = λ f. absurd (f z);
      here = set_here (set r 2 (place + 1)) place word n within;
      there = λ p f. set_there (set r 2 (place + 1)) place word n within p f ∙ get_or-set_other r 2 (3 + p) (place + 1) 0 (λ e. absurd (omega arith));
    }))
    (λ l.
    let f : named_of r ≡ 0 → ⊥ = λ z. absurd (omega arith) in
    rw (ne_eqb (named_of r) 0 f)
    (record {
      size = length-set r (3 + place) word ∙ size;
      is-first = set-head r place word size within 0 (omega arith);
      is-interval = set-head r place word size within 1 (omega arith);
      none_before = λ e. absurd (f e);
      some-before = λ g. set-head r place word size within 2 (omega arith);
      here = set_here r place word size within;
      there = λ p g. set_there r place word size within p g;
    }))

-- the first arrival of two records that name the same one, whose word stays
pub same-arrival : (r s : List ℕ) → named_of s ≡ named_of r → ((named_of r ≡ 0 → ⊥) → word_at s (named_of r - 1) ≡ word_at r (named_of r - 1)) → (known s).arrival ≡ (known r).arrival
same-arrival r s e f =
    split (named_of r) 0
    (λ l. let z : named_of r ≡ 0 = omega arith in rw (e, eq-eqb (named_of r) 0 z))
    (λ l. let g : named_of r ≡ 0 → ⊥ = λ z. absurd (omega arith) in rw (e, ne_eqb (named_of r) 0 g, f g))

module _ (first interval : ℕ) (r s : List ℕ) (h : Holds first interval r) (place word time : ℕ) (late : Bool) (says : fate_of word ≡ came time late) (within : place < most_objects) (arrived : received ≤ state_of word) (when : time_of word ≡ time) (away : has_arrived (word_at r place) ≡ false) (d : Placed r s place word) where
  named_some : named_of s ≡ 0 → ⊥
  named_some e = split (named_of r) 0 (λ l. omega (arith, d.none_before (omega arith))) (λ l. omega (arith, d.some-before (λ z. absurd (omega arith))))

  -- the one named before is another
  other : (g : named_of r ≡ 0 → ⊥) → named_of r - 1 ≡ place → ⊥
  other g e = clash (le-leb received (state_of (word_at r place)) (rw e at (h.sound.named g))) away

  place-sound : Consistent s
  place-sound = record {
    last = rw d.is-first h.sound.last;
    interval = rw d.is-interval h.sound.interval;
    within = split (named_of r) 0 (λ l. omega (arith, d.none_before (omega arith))) (λ l. omega (arith, d.some-before (λ z. absurd (omega arith)), h.sound.within));
    named = λ f.
        split (named_of r) 0
        (λ l.
        let e : named_of s - 1 ≡ place = omega (arith, d.none_before (omega arith)) in
        rw (e, d.here) arrived)
        (λ l.
        let g : named_of r ≡ 0 → ⊥ = λ z. absurd (omega arith) in
        rw (d.some-before g, d.there (named_of r - 1) (other g)) (h.sound.named g));
    none = λ z. absurd (named_some z);
  }

  pub place-step : Step first interval r s (λ k. first_came place time) (λ p a. pick (eqb p place) (came time late) a) (λ p e. e)
  place-step = record {
    holds = record { size = d.size; sound = place-sound; is-first = d.is-first ∙ h.is-first; is-interval = d.is-interval ∙ h.is-interval };
    names = λ k.
        split (named_of r) 0
        (λ l.
        let z : named_of r ≡ 0 = omega arith in
        let e : named_of s - 1 ≡ place = omega (arith, d.none_before z) in
        rw (eq-eqb (named_of r) 0 z, ne_eqb (named_of s) 0 named_some, e, d.here, when))
        (λ l.
        let g : named_of r ≡ 0 → ⊥ = λ z. absurd (omega arith) in
        ap (λ (f : FirstArrival). first_then f k) (same-arrival r s (d.some-before g) (λ g. d.there (named_of r - 1) (other g))) ∙ rw (ne_eqb (named_of r) 0 g));
    fates = λ p a e.
        either (eqb p place)
        (λ t.
        let q : p ≡ place = eqb-true p place t in
        rw (q, d.here, eq-eqb place place refl)
        (ap (λ (f : Fate). fate_then f a e) says ∙ then-comes (fate_of (word_at r place)) e time late (word-came (word_at r place) ∙ away)))
        (λ t. rw (t, d.there p (eqb-false p place t)));
  }
