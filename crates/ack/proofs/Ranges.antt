-- The ranges of the window, downwards place by place: each step passes what is missing and takes a run of received numbers.
-- Assumes nothing.
use Prim.Native.Nat.{ℕ, zero, suc, ◌+◌, ◌-◌, ◌*◌, ◌≤◌, ◌<◌}
use mathlib.Core.Path.{◌≡◌, refl, sym, ap, ◌∙◌}
use mathlib.Core.Bool.{Bool, true, false, ◌&&◌, ◌||◌}
use mathlib.Core.List.{List, [], ◌∷◌}
use native.Mathlib.Omega.{arith}
use borrow.Author.Tests.{leb-true, ne_eqb}
use lib.Dec.{eqb, leb}
use lib.ListN.{length, take}
use Rattle.wire.specs.Numbers.{limit}
use Rattle.wire.proofs.Lengths.{split}
use Rattle.window.specs.Window.{value_of, is_set, run_below, none_below}
use Rattle.window.proofs.Runs.{run_on, run-off, run-le}
use Rattle.window.proofs.Laws.{run-says, none-says}
use Rattle.frames.specs.Ack.{gaps_from}
use Rattle.seen.specs.declared.Seen.{Seen}
use Rattle.seen.specs.Received.{floor_fits, numbers_obey, marks_consistent, seen_consistent}
use Rattle.ack.specs.Ack.{number_at, ranges_below, number_of_ranges}

-- ---- a record in which something was received

pub both : (a b : Bool) → a && b ≡ true → (a ≡ true) × (b ≡ true)
both true true e = (refl, refl)
both true false e = (refl, e)
both false b e = (cc, cc)

pub record Begun (s : Seen) : Type 0 where
  pub some : 0 < s.end
  pub small : s.end ≤ limit + 1
  pub none : none_below (1024 - s.end) (value_of s.window) ≡ true
  pub last : is_set (value_of s.window) 1023 ≡ true

pub begun : (s : Seen) → seen_consistent s ≡ true → 0 < s.end → Begun s
unfolding seen_consistent
begun s e h =
    let n : eqb s.end 0 ≡ false = ne_eqb s.end 0 (λ z. omega arith) in
    let w : ℕ = value_of s.window in
    let a = both (numbers_obey s) (marks_consistent s) e in
    let b = both (leb s.end (limit + 1)) (leb s.arrived.0 limit && floor_fits s) a.0 in
    let d = both (none_below (1024 - s.end) w) (eqb s.end 0 || is_set w 1023) a.1 in
    let k : (eqb s.end 0 || is_set (value_of s.window) 1023) ≡ true = d.1 in
    record { some = h; small = leb-true s.end (limit + 1) b.0; none = d.0; last = rw n at k }

-- ---- one step down from a place

abbrev pub missing : Seen → ℕ → ℕ
missing s p = run_below false p (value_of s.window)

abbrev pub top : Seen → ℕ → ℕ
top s p = p - missing s p

abbrev pub size : Seen → ℕ → ℕ
size s p = run_below true (top s p) (value_of s.window)

abbrev pub low : Seen → ℕ → ℕ
low s p = top s p - size s p

not-false-true : (b : Bool) → (b ≡ false → ⊥) → b ≡ true
not-false-true true f = refl
not-false-true false f = absurd (f refl)

not-true-false : (b : Bool) → (b ≡ true → ⊥) → b ≡ false
not-true-false true f = absurd (f refl)
not-true-false false f = refl

-- a run of one place or more, where the place below p has the mark
run-pos : (b : Bool) (p w : ℕ) → 0 < p → is_set w (p - 1) ≡ b → 0 < run_below b p w
run-pos b p w h e =
    let n : p ≡ suc (p - 1) = omega arith in
    omega (arith, ap (λ (m : ℕ). run_below b m w) n, run_on b (p - 1) w e)

-- how far a step goes; where it takes nothing, nothing is left
pub missing-le : (s : Seen) (p : ℕ) → missing s p ≤ p
missing-le s p = run-le false p (value_of s.window)

pub size-le : (s : Seen) (p : ℕ) → size s p ≤ top s p
size-le s p = run-le true (top s p) (value_of s.window)

pub size-pos : (s : Seen) (p : ℕ) → 0 < top s p → 0 < size s p
size-pos s p h =
    run-pos true (top s p) (value_of s.window) h
    (not-false-true (is_set (value_of s.window) (top s p - 1)) ((run-says false p (value_of s.window) (missing s p) refl).ends (omega arith)))

pub size_none : (s : Seen) (p : ℕ) → size s p ≡ 0 → top s p ≡ 0
size_none s p e = split (top s p) 0 (λ h. omega arith) (λ h. omega (arith, size-pos s p h))

-- the first range starts at L
pub first-top : {s : Seen} → Begun s → top s 1024 ≡ 1024
first-top {s} b =
    let z : run_below false (suc 1023) (value_of s.window) ≡ 0 = run-off false 1023 (value_of s.window) (λ e. let f : false ≡ true = sym e ∙ b.last in let g : ◌≡◌ {A = ℕ} 0 1 = cc in omega arith) in
    omega arith

pub first-is : {s : Seen} → Begun s → (n : ℕ) → n ≡ run_below true 1024 (value_of s.window) → n ≡ size s 1024
first-is {s} b n e = e ∙ ap (λ (p : ℕ). run_below true p (value_of s.window)) (sym (first-top b))

-- the lower end of a range: its place is in the window, and the place below it is not marked
pub record Bottom (s : Seen) (p : ℕ) : Type 0 where
  pub inside : 1024 ≤ p + s.end
  pub below : p < 1024
  pub clear : 0 < p → is_set (value_of s.window) (p - 1) ≡ true → ⊥

pub bottom : {s : Seen} → Begun s → (p : ℕ) → p ≤ 1024 → 0 < top s p → Bottom s (low s p)
bottom {s} b p l h =
    let r = run-says true (top s p) (value_of s.window) (size s p) refl in
    let g = size-pos s p h in
    record {
      inside = split 1024 (low s p + s.end) (λ i. i)
          (λ i. absurd (let f : true ≡ false = sym (r.has (low s p) (omega arith) (omega (arith, r.within))) ∙ none-says (1024 - s.end) (value_of s.window) b.none (low s p) (omega arith) in let z : ◌≡◌ {A = ℕ} 0 1 = cc in omega arith));
      below = omega arith;
      clear = λ i. r.ends (omega arith);
    }

pub missing-pos : {s : Seen} {p : ℕ} → Bottom s p → 0 < p → 0 < missing s p
missing-pos {s} {p} b h = run-pos false p (value_of s.window) h (not-true-false (is_set (value_of s.window) (p - 1)) (b.clear h))

-- what a step from the lower end of a range passes and takes
pub sizes : {s : Seen} {p : ℕ} → Bottom s p → 0 < top s p → (0 < missing s p) × (0 < size s p) × (missing s p + size s p ≤ p)
sizes {s} {p} b h = (missing-pos b (omega arith), size-pos s p h, omega (arith, size-le s p))

-- the places that a step passes
pub top-sum : (s : Seen) (p : ℕ) → 0 < top s p → p ≡ suc (top s p - 1) + missing s p
top-sum s p h = omega arith

pub low_sum : (s : Seen) (p : ℕ) → 0 < top s p → suc (top s p - 1) ≡ low s p + size s p
low_sum s p h = omega (arith, size-le s p)

-- places of the window by their numbers: a gap of m, and a run of n
gap-says : (e p u m : ℕ) → p ≡ suc u + m → 0 < m → 1024 ≤ u + e → p + e - 1024 - (u + e - 1024) - 2 ≡ m - 1
gap-says e p u m i h g = omega arith

pub run_length : (e u l n : ℕ) → suc u ≡ l + n → 1024 ≤ l + e → u + e - 1024 - (l + e - 1024) ≡ n - 1
run_length e u l n i g = omega arith

-- ---- the list of ranges

module _ (s : Seen) where
  pub none_left : (n p : ℕ) → top s p ≡ 0 → ranges_below n s p ≡ []
  unfolding ranges_below
  none_left zero p e = refl
  none_left (suc n) p e = rw (e, ranges_below)

  some_at : (n p t : ℕ) → top s p ≡ suc t
      → ranges_below (suc n) s p ≡ number_at s.end (low s p) ∷ number_at s.end t ∷ ranges_below n s (low s p)
  unfolding ranges_below
  some_at n p t e = rw (e, ranges_below, e)

  pub some_left : (n p : ℕ) → 0 < top s p
      → ranges_below (suc n) s p ≡ number_at s.end (low s p) ∷ number_at s.end (top s p - 1) ∷ ranges_below n s (low s p)
  some_left n p h = some_at n p (top s p - 1) (omega arith)

  -- as many turns as places are enough
  enough : (n m p : ℕ) → p ≤ n → p ≤ m → ranges_below n s p ≡ ranges_below m s p
  enough zero m p i j = none_left zero p (omega arith) ∙ sym (none_left m p (omega arith))
  enough (suc n) zero p i j = none_left (suc n) p (omega arith) ∙ sym (none_left zero p (omega arith))
  enough (suc n) (suc m) p i j =
      split (top s p) 0
      (λ h. none_left (suc n) p (omega arith) ∙ sym (none_left (suc m) p (omega arith)))
      (λ h.
      let g = size-pos s p h in
      let e : ranges_below n s (low s p) ≡ ranges_below m s (low s p) = enough n m (low s p) (omega arith) (omega arith) in
      some_left n p h ∙ ap (λ (l : List ℕ). number_at s.end (low s p) ∷ number_at s.end (top s p - 1) ∷ l) e ∙ sym (some_left m p h))

  -- the ranges below a place
  abbrev pub down : ℕ → List ℕ
  down p = ranges_below 1024 s p

  pub down-none : (p : ℕ) → top s p ≡ 0 → down p ≡ []
  down-none p e = none_left 1024 p e

  pub down-some : (p : ℕ) → p ≤ 1024 → 0 < top s p
      → down p ≡ number_at s.end (low s p) ∷ number_at s.end (top s p - 1) ∷ down (low s p)
  down-some p l h =
      let g = size-pos s p h in
      some_left 1023 p h ∙ ap (λ (l : List ℕ). number_at s.end (low s p) ∷ number_at s.end (top s p - 1) ∷ l) (enough 1023 1024 (low s p) (omega arith) (omega arith))

  -- a turn gives two elements at most
  few : (n p : ℕ) → length (ranges_below n s p) ≤ 2 * n
  unfolding ranges_below
  few zero p = omega arith
  few (suc n) p =
      split (top s p) 0
      (λ h. omega (arith, ap length (none_left (suc n) p (omega arith))))
      (λ h. omega (arith, ap length (some_left n p h), few n (low s p)))

  pub few-ranges : number_of_ranges s ≤ 1024
  few-ranges = omega (arith, few 1024 1024)

  -- ---- gap and length of the first n ranges below a place, as the frame says them

  abbrev pub fields : ℕ → ℕ → List ℕ
  fields n p = gaps_from (number_at s.end p) (take (2 * n) (down p))

  pub fields-zero : (p : ℕ) → fields 0 p ≡ []
  unfolding gaps_from
  fields-zero p = refl

  pub fields-some : Begun s → (n p : ℕ) → Bottom s p → 0 < top s p
      → fields (suc n) p ≡ (missing s p - 1) ∷ (size s p - 1) ∷ fields n (low s p)
  unfolding gaps_from
  fields-some b n p u h =
      let e : 2 * suc n ≡ suc (suc (2 * n)) = omega arith in
      let g = size-pos s p h in
      let v = bottom b p (omega (arith, u.below)) h in
      let m = missing-pos u (omega arith) in
      let x : number_at s.end p - number_at s.end (top s p - 1) - 2 ≡ missing s p - 1 =
      gap-says s.end p (top s p - 1) (missing s p) (top-sum s p h) m (omega (arith, low_sum s p h, v.inside)) in
      let y : number_at s.end (top s p - 1) - number_at s.end (low s p) ≡ size s p - 1 =
      run_length s.end (top s p - 1) (low s p) (size s p) (low_sum s p h) v.inside in
      rw (down-some p (omega (arith, u.below)) h, e, x, y)
