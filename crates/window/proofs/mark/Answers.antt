-- `mark` meets its contract: a clear bit of one word is added to it. Assumes nothing.
use mathlib.Core.Path.{◌≡◌, sym, ◌∙◌}
use native.Mathlib.Omega.{arith}
use Rattle.window.specs.Words.{number_of, bit}
use Rattle.window.proofs.Bits.{bit-lt}
use Rattle.window.proofs.Sixteen.{Sixteen, told, at_place, marked-already, marked-past, marked-now, room}
use Rattle.window.proofs.mark.Goals as goal
use Rattle.window.proofs.mark.Goals.{After-told_words, Else-b-eq1}

known : (c : After-told_words) → Sixteen c.args.words.now
known c = told _ c.told_words.ensures

pub returns-then-place-ge-PLACES : goal.returns-then-place-ge-PLACES
returns-then-place-ge-PLACES c = marked-past _ (known (goal.at.returns-then-place-ge-PLACES c).After-told_words) c.args.place c.if-place-ge-PLACES.true

pub returns-then-b-eq1 : goal.returns-then-b-eq1
unfolding bit
returns-then-b-eq1 c =
    let k = c in
    let s = k in
    marked-already _ (known (goal.at.returns-then-b-eq1 k).After-told_words) s.args.place (at_place _ (known (goal.at.returns-then-b-eq1 k).After-told_words) s.args.place ∙ c.if-b-eq1.true)

-- the tested bit is clear
clear : (c : Else-b-eq1) → bit (number_of c.args.words.now) c.args.place ≡ 0
unfolding bit
clear c =
    let k = c in
    let s = k in
    let b = bit (number_of s.args.words.now) s.args.place in
    let n : b ≡ 1 → ⊥ = λ e. c.if-b-eq1.false (sym (at_place _ (known k.before.before.before.before) s.args.place) ∙ e) in
    omega (arith, n, bit-lt (number_of s.args.words.now) s.args.place)

pub overflow_add-words : goal.overflow_add-words
overflow_add-words c = let k = c in record { fits = room _ (known (goal.at.overflow_add-words k).After-told_words) k.args.place (clear c) }

pub returns : goal.returns
returns c =
    let k = c in
    marked-now _ (known (goal.at.returns k).After-told_words) k.args.place c.if-place-ge-PLACES.false (clear c)
