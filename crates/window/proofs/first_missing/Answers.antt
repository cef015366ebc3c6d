-- `first_missing` meets its contract. The invariant: what is looked for from `from` on is what is looked for from `at` on.
-- The measure is what is left of the places. Assumes nothing.
use mathlib.Core.Path.{◌≡◌, sym, ap, ◌∙◌}
use Prim.Native.Nat.{ℕ, ◌+◌, ◌-◌, ◌%◌}
use native.Mathlib.Omega.{arith}
use Rattle.window.specs.Words.{number_of}
use Rattle.window.specs.Window.{first_clear}
use Rattle.window.proofs.Sixteen.{Sixteen, told, past}
use Rattle.window.proofs.Clear.{hit, stop, some_left, none_left, word-hit, word-past, word-skip}
use Rattle.window.proofs.first_missing.Goals as goal
use Rattle.window.proofs.first_missing.Goals.{After-told_words}

known : (c : After-told_words) → Sixteen c.args.words.now
known c = told _ c.told_words.ensures

pub returns-then-at-ge-PLACES : goal.returns-then-at-ge-PLACES
returns-then-at-ge-PLACES c =
    let l = c in
    sym (l.loop-at.invariant ∙ hit _ l.loop-at.at _ (omega arith) (past _ (known (goal.at.returns-then-at-ge-PLACES l).After-told_words) l.loop-at.at c.if-at-ge-PLACES.true))

pub returns-then-place-to : goal.returns-then-place-to
returns-then-place-to c =
    let l = c in
    let h = known (goal.at.returns-then-place-to l).After-told_words in
    sym (l.loop-at.invariant ∙ word-hit _ h l.loop-at.at _ (some_left _ h l.loop-at.at c.if-rest-ne0.true) (omega arith))

pub returns-then-rest-ne0 : goal.returns-then-rest-ne0
returns-then-rest-ne0 c =
    let l = c in
    let h = known (goal.at.returns-then-rest-ne0 l).After-told_words in
    sym (l.loop-at.invariant ∙ word-past _ h l.loop-at.at _ (some_left _ h l.loop-at.at c.if-rest-ne0.true) (omega arith))

pub loop-at-preserved : goal.loop-at-preserved
loop-at-preserved c =
    let l = c in
    let s = l in
    let k = 64 - l.loop-at.at % 64 in
    let e : s.args.to - l.loop-at.at - k ≡ s.args.to - (l.loop-at.at + k) = omega arith in
    l.loop-at.invariant ∙ word-skip _ (known (goal.at.loop-at-preserved l).After-told_words) l.loop-at.at (s.args.to - l.loop-at.at) (none_left _ (known (goal.at.loop-at-preserved l).After-told_words) l.loop-at.at c.if-rest-ne0.false)
    ∙ ap (λ (n : ℕ). first_clear n (l.loop-at.at + k) (number_of s.args.words.now)) e

pub returns : goal.returns
returns c = sym (c.loop-at.invariant ∙ stop _ _ _ (omega arith))
