-- `ack::edges::range_at` meets its contract: the two edges below the place, cut off at `least`. Assumes nothing.
use Prim.Native.Nat.{ℕ, ◌-◌, ◌≤◌, max}
use mathlib.Core.Path.{◌≡◌, sym, ap, ◌∙◌, subst}
use mathlib.Core.Bool.{true, false}
use native.Mathlib.Omega.{arith}
use Rattle.window.specs.Window.{lent_value, run_below, cleared_below}
use Rattle.window.proofs.Runs.{run_none, run-le}
use Rattle.ack.specs.Walk.{Others}
use Rattle.ack.proofs.Least.{uncut, gap-kept, gap-all, run-cut}
use Rattle.ack.proofs.edges.range_at.Goals as goal

pub returns-then-top-least : goal.returns-then-top-least
returns-then-top-least c =
    let a = c.args in
    let w : ℕ = lent_value a.words.now in
    let g = gap-all a.least w a.place (omega (arith, c.edge_below-top.ensures.0, c.if-top-least.true)) in
    (sym g, sym (run_none true (a.place - run_below false a.place (cleared_below a.least w)) (cleared_below a.least w) (omega (arith, g))), λ l. absurd (omega arith))

pub returns : goal.returns
returns c =
    let a = c.args in
    let w : ℕ = lent_value a.words.now in
    let t : ℕ = c.edge_below-top.result.place in
    let low : ℕ = c.larger_of-low.result in
    let at : t ≡ a.place - run_below false a.place w = c.edge_below-top.ensures.0 in
    let i₁ : t ≤ a.place = omega (arith, at) in
    let i₂ : c.edge_below-bottom.result.place ≤ t = omega (arith, c.edge_below-bottom.ensures.0) in
    let le = run-le false a.place w in
    let g = gap-kept a.least w a.place (omega (arith, at, c.if-top-least.false)) in
    let top : t ≡ a.place - run_below false a.place (cleared_below a.least w) = at ∙ ap (λ (n : ℕ). a.place - n) (sym g) in
    let under : low ≡ max (t - run_below true t w) a.least = c.larger_of-low.ensures ∙ ap (λ (n : ℕ). max n a.least) c.edge_below-bottom.ensures.0 in (
      omega (arith, at, g, le),
      ap (λ (n : ℕ). t - n) under ∙ sym (run-cut a.least w t c.if-top-least.false) ∙ ap (λ (n : ℕ). run_below true n (cleared_below a.least w)) top,
      λ l.
          let b : c.edge_below-bottom.result.place ≡ a.place - (a.place - t) - (t - low) = uncut i₁ i₂ c.if-top-least.false c.larger_of-low.ensures l in
          subst (λ (n : ℕ). Others false w n c.edge_below-bottom.result.index c.edge_below-bottom.result.left) b c.edge_below-bottom.ensures.1,
    )
