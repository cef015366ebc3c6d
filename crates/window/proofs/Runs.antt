-- Runs of places with one mark, downwards: what is passed over, and where a run stops. Assumes nothing.
use mathlib.Core.Path.{◌≡◌, refl, sym, ap, ◌∙◌}
use mathlib.Core.Bool.{Bool, true, false, beq}
use mathlib.Core.List.{List}
use Prim.Native.Nat.{ℕ, zero, suc, ◌+◌, ◌-◌, ◌*◌, ◌/◌, ◌%◌, ◌≤◌, ◌<◌}
use native.Mathlib.Nat.{not-suc-le-zero}
use native.Mathlib.Omega.{arith}
use lib.Dec.{eqb}
use lib.ListN.{get_or}
use Rattle.window.specs.Words.{number_of}
use Rattle.window.specs.Window.{run_below, is_set}
use Rattle.window.proofs.Words.{number_bit}
use Rattle.window.proofs.Sixteen.{Sixteen, past}
use Rattle.window.proofs.Zeros.{run_in, run-has, run_ends}

-- the test of a mark, from the fact
beq_same : (a b : Bool) → a ≡ b → beq a b ≡ true
beq_same true true e = refl
beq_same true false e = sym e
beq_same false true e = e
beq_same false false e = refl

beq-other : (a b : Bool) → (a ≡ b → ⊥) → beq a b ≡ false
beq-other true true n = absurd (n refl)
beq-other true false n = refl
beq-other false true n = refl
beq-other false false n = absurd (n refl)

-- two marks are the same or not
pub marks : {P : Type 0} (a b : Bool) → (a ≡ b → P) → ((a ≡ b → ⊥) → P) → P
marks true true f g = f refl
marks true false f g = g (λ e. let z : ◌≡◌ {A = ℕ} 0 1 = cc in omega arith)
marks false true f g = g (λ e. let z : ◌≡◌ {A = ℕ} 0 1 = cc in omega arith)
marks false false f g = f refl

-- one place more, and a run that is over
pub run_on : (b : Bool) (p w : ℕ) → is_set w p ≡ b → run_below b (suc p) w ≡ suc (run_below b p w)
unfolding run_below
run_on b p w e = let f : beq (is_set w p) b ≡ true = beq_same (is_set w p) b e in rw (f, run_below)

pub run-off : (b : Bool) (p w : ℕ) → (is_set w p ≡ b → ⊥) → run_below b (suc p) w ≡ 0
unfolding run_below
run-off b p w n = let f : beq (is_set w p) b ≡ false = beq-other (is_set w p) b n in rw (f, run_below)

-- below place 0 there is no place, and below place n there are n
pub run_none : (b : Bool) (n w : ℕ) → n ≡ 0 → run_below b n w ≡ 0
unfolding run_below
run_none b n w e = ap (λ (m : ℕ). run_below b m w) e

pub run-le : (b : Bool) (n w : ℕ) → run_below b n w ≤ n
run-le b zero w = omega (arith, run_none b 0 w refl)
run-le b (suc p) w = marks (is_set w p) b (λ e. omega (arith, run_on b p w e, run-le b p w)) (λ n. omega (arith, run-off b p w n))

-- t places with the mark are passed over
pub run-skip : (b : Bool) (t n w : ℕ) → t ≤ n → ((q : ℕ) → n - t ≤ q → q < n → is_set w q ≡ b) → run_below b n w ≡ t + run_below b (n - t) w
run-skip b zero n w l h = let z : n - 0 ≡ n = omega arith in omega (arith, ap (λ (m : ℕ). run_below b m w) z)
run-skip b (suc t) zero w l h = absurd (not-suc-le-zero l)
run-skip b (suc t) (suc p) w l h =
    let r : run_below b p w ≡ t + run_below b (p - t) w = run-skip b t p w (omega arith) (λ q i j. h q (omega arith) (omega arith)) in
    let z : suc p - suc t ≡ p - t = omega arith in
    omega (arith, run_on b p w (h p (omega arith) (omega arith)), ap (λ (m : ℕ). run_below b m w) z)

-- and the run stops at the next, where that has not the mark
pub run-stop : (b : Bool) (t n w : ℕ) → t < n → ((q : ℕ) → n - t ≤ q → q < n → is_set w q ≡ b) → (is_set w (n - t - 1) ≡ b → ⊥) → run_below b n w ≡ t
run-stop b t n w l h o =
    let e : n - t ≡ suc (n - t - 1) = omega arith in
    omega (arith, run-skip b t n w (omega arith) h, ap (λ (m : ℕ). run_below b m w) e, run-off b (n - t - 1) w o)

-- ---- in one word of sixteen, as the code counts it

module _ (ws : List ℕ) (h : Sixteen ws) (b : Bool) (p : ℕ) where
  -- the run from place p down, in the word that holds p
  abbrev pub run_at : ℕ
  run_at = run_in b (get_or ws (p / 64) 0) (p % 64)

  there : (q : ℕ) → q ≤ p % 64 → is_set (number_of ws) (p - q) ≡ is_set (get_or ws (p / 64) 0) (p % 64 - q)
  there q l =
      let e : p - q ≡ 64 * (p / 64) + (p % 64 - q) = omega arith in
      ap (is_set (number_of ws)) e ∙ ap (λ (x : ℕ). eqb x 1) (number_bit ws h.words (p / 64) (p % 64 - q) (omega arith))

  at_has : (q : ℕ) → q ≤ p → p < q + run_at → p ≤ q + p % 64 → is_set (number_of ws) q ≡ b
  at_has q l r i =
      let e : q ≡ p - (p - q) = omega arith in
      ap (is_set (number_of ws)) e ∙ there (p - q) (omega arith)
      ∙ run-has b (get_or ws (p / 64) 0) (p % 64) (h.words (p / 64)) (omega arith) (p - q) (omega arith) (omega arith)

  at-ends : run_at ≤ p % 64 → is_set (number_of ws) (p - run_at) ≡ b → ⊥
  at-ends l e = run_ends b (get_or ws (p / 64) 0) (p % 64) (h.words (p / 64)) (omega arith) l (sym (there run_at l) ∙ e)

  -- it ends in this word, or goes on below it
  pub word-stop : run_at ≤ p % 64 → run_below b (p + 1) (number_of ws) ≡ run_at
  word-stop l =
      let e : p + 1 - run_at - 1 ≡ p - run_at = omega arith in
      run-stop b run_at (p + 1) (number_of ws) (omega arith) (λ q i j. at_has q (omega arith) (omega arith) (omega arith))
      (λ f. at-ends l (ap (is_set (number_of ws)) (sym e) ∙ f))

  pub word-skip : p % 64 < run_at → run_below b (p + 1) (number_of ws) ≡ p % 64 + 1 + run_below b (p - p % 64) (number_of ws)
  word-skip l =
      let e : p + 1 - (p % 64 + 1) ≡ p - p % 64 = omega arith in
      run-skip b (p % 64 + 1) (p + 1) (number_of ws) (omega arith) (λ q i j. at_has q (omega arith) (omega arith) (omega arith))
      ∙ ap (λ (m : ℕ). p % 64 + 1 + run_below b m (number_of ws)) e

-- ---- from past the last place of sixteen words

module _ (ws : List ℕ) (h : Sixteen ws) (n : ℕ) (l : 1024 < n) where
  past-clear : (q : ℕ) → 1024 ≤ q → is_set (number_of ws) q ≡ false
  past-clear q i = ap (λ (x : ℕ). eqb x 1) (past ws h q i)

  pub run-past-marked : run_below true n (number_of ws) ≡ 0
  run-past-marked =
      let e : n ≡ suc (n - 1) = omega arith in
      ap (λ (m : ℕ). run_below true m (number_of ws)) e
      ∙ run-off true (n - 1) (number_of ws) (λ f. let g : false ≡ true = sym (past-clear (n - 1) (omega arith)) ∙ f in let z : ◌≡◌ {A = ℕ} 0 1 = cc in omega arith)

  pub run-past-not : run_below false n (number_of ws) ≡ n - 1024 + run_below false 1024 (number_of ws)
  run-past-not =
      let e : n - (n - 1024) ≡ 1024 = omega arith in
      run-skip false (n - 1024) n (number_of ws) (omega arith) (λ q i j. past-clear q (omega arith)) ∙ ap (λ (m : ℕ). n - 1024 + run_below false m (number_of ws)) e
