-- The marks from place `least` up: their runs are those of all marks, cut off there. Assumes nothing.
use Prim.Native.Nat.{ℕ, ◌-◌, ◌≤◌, ◌<◌, max}
use mathlib.Core.Path.{◌≡◌, refl, sym, ap, ◌∙◌}
use mathlib.Core.Bool.{true, false}
use native.Mathlib.Nat.{max-eq_left, max-eq_right}
use native.Mathlib.Omega.{arith}
use Rattle.wire.proofs.Lengths.{split}
use Rattle.window.specs.Window.{is_set, run_below, cleared_below}
use Rattle.window.proofs.Laws.{run-says, run_is}
use Rattle.window.proofs.Cleared.{cleared-low, cleared-high}

back : (n k : ℕ) → k ≤ n → n - (n - k) ≡ k
back n k h = omega arith

-- from place p a step goes down to t and then to `low`; where that is above `least` it is the end of the run itself
above-least : (b least : ℕ) → least < max b least → b ≡ max b least
above-least b least l = omega arith

pub uncut : {p t b least low : ℕ} → t ≤ p → b ≤ t → least < t → low ≡ max b least → least < p - (p - t) - (t - low) → b ≡ p - (p - t) - (t - low)
uncut {p} {t} {b} {least} {low} h i j e l =
    let x : p - (p - t) - (t - low) ≡ low = ap (λ (n : ℕ). n - (t - low)) (back p t h) ∙ back t low (omega (arith, e)) in
    above-least b least (rw (x, e) at l) ∙ sym (x ∙ e)

module _ (least w : ℕ) where
  abbrev kept : ℕ
  kept = cleared_below least w

  -- below `least` nothing is marked
  low_clear : (q : ℕ) → q < least → is_set kept q ≡ true → ⊥
  low_clear q l e = let f : true ≡ false = sym e ∙ cleared-low least w q l in let z : ◌≡◌ {A = ℕ} 0 1 = cc in omega arith

  -- what is missing below p ends above `least`, or all is missing
  pub gap-kept : (p : ℕ) → least < p - run_below false p w → run_below false p kept ≡ run_below false p w
  gap-kept p l =
      let k : ℕ = run_below false p w in
      let r = run-says false p w k refl in
      run_is false p kept k
      (record {
        within = r.within;
        has = λ q i j. cleared-high least w q (omega arith) ∙ r.has q i j;
        ends = λ i e. r.ends i (sym (cleared-high least w (p - k - 1) (omega arith)) ∙ e);
      })

  pub gap-all : (p : ℕ) → p - run_below false p w ≤ least → run_below false p kept ≡ p
  gap-all p l =
      let r = run-says false p w (run_below false p w) refl in
      run_is false p kept p
      (record {
        within = omega arith;
        has = λ q i j. split least q (λ g. cleared-high least w q g ∙ r.has q (omega arith) j) (λ g. cleared-low least w q g);
        ends = λ i e. absurd (omega arith);
      })

  -- a run below `top` goes down to `least` at most
  pub run-cut : (top : ℕ) → least < top → run_below true top kept ≡ top - max (top - run_below true top w) least
  run-cut top l =
      let k : ℕ = run_below true top w in
      let r = run-says true top w k refl in
      split least (top - k)
      (λ g.
      let e : top - max (top - k) least ≡ k = ap (λ (m : ℕ). top - m) (max-eq_left g) ∙ back top k r.within in
      run_is true top kept k
      (record {
        within = r.within;
        has = λ q i j. cleared-high least w q (omega arith) ∙ r.has q i j;
        ends = λ i f. split least (top - k - 1) (λ h. r.ends i (sym (cleared-high least w (top - k - 1) h) ∙ f)) (λ h. low_clear (top - k - 1) h f);
      })
      ∙ sym e)
      (λ g.
      let n : max (top - k) least ≡ least = max-eq_right (omega arith) in
      run_is true top kept (top - least)
      (record {
        within = omega arith;
        has = λ q i j. cleared-high least w q (omega arith) ∙ r.has q (omega arith) j;
        ends = λ i f. low_clear (top - (top - least) - 1) (omega arith) f;
      })
      ∙ ap (λ (m : ℕ). top - m) (sym n))
