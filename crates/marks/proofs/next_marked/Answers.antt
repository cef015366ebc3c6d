-- `marks::next_marked` meets its contract. The loop's invariant: what is looked for from the start is what is looked for from here.
-- Assumes nothing.
use mathlib.Core.Path.{◌≡◌, sym, ◌∙◌}
use mathlib.Core.List.{List}
use Prim.Native.Nat.{ℕ, ◌+◌, ◌-◌, ◌/◌, ◌%◌, ◌^◌, ◌≤◌, ◌<◌}
use native.Mathlib.Omega.{arith}
use borrow.Author.Rules.{rules}
use lib.Count.{count_trailing_zeros}
use lib.ListN.{get_or}
use mir.Val.{Fits}
use mir.Syntax.{w64}
use Rattle.marks.specs.Marks.{mark, first_in}
use Rattle.marks.proofs.Bits.{none_left, in-word, found}
use Rattle.marks.proofs.Listing.{first-least, none-below, some-below}
use Rattle.marks.proofs.Ring.{next_past, next-found, next-on}
use Rattle.marks.proofs.next_marked.Goals as goal

-- what is left of the word of at tells where the search goes
module _ (ws : List ℕ) (at to : ℕ) (fits : get_or ws (at / 64 % 16) 0 < 2 ^ 64) (before : at < to) where
  abbrev zeros : ℕ
  zeros = count_trailing_zeros 64 (get_or ws (at / 64 % 16) 0 / 2 ^ (at % 64))

  module _ (some : get_or ws (at / 64 % 16) 0 / 2 ^ (at % 64) ≡ 0 → ⊥) where
    in-reach : at % 64 + count_trailing_zeros 64 (get_or ws (at / 64 % 16) 0 / 2 ^ (at % 64)) < 64
    in-reach = omega (arith, in-word (get_or ws (at / 64 % 16) 0) (at % 64) fits (omega arith) some)

    here : at + count_trailing_zeros 64 (get_or ws (at / 64 % 16) 0 / 2 ^ (at % 64)) < to → at + count_trailing_zeros 64 (get_or ws (at / 64 % 16) 0 / 2 ^ (at % 64)) ≡ first_in (mark ws) (to - at) at
    here h =
        let e : at + (at % 64 + zeros - at % 64) ≡ at + zeros = omega arith in
        sym e ∙ next-found ws at to (at % 64 + zeros) (found (get_or ws (at / 64 % 16) 0) (at % 64) fits (omega arith) some) (omega arith) in-reach

    later : to ≤ at + count_trailing_zeros 64 (get_or ws (at / 64 % 16) 0 / 2 ^ (at % 64)) → to ≡ first_in (mark ws) (to - at) at
    later h = next_past ws at to (at % 64 + zeros) (found (get_or ws (at / 64 % 16) 0) (at % 64) fits (omega arith) some) before (omega arith)

  module _ (none : get_or ws (at / 64 % 16) 0 / 2 ^ (at % 64) ≡ 0) where
    past : to - at ≤ 64 - at % 64 → to ≡ first_in (mark ws) (to - at) at
    past h = next_past ws at to 64 (none_left (get_or ws (at / 64 % 16) 0) (at % 64) fits (omega arith) none) before h

    on : 64 - at % 64 < to - at → first_in (mark ws) (to - at) at ≡ first_in (mark ws) (to - (at + (64 - at % 64))) (at + (64 - at % 64))
    on h = next-on ws at to 64 (none_left (get_or ws (at / 64 % 16) 0) (at % 64) fits (omega arith) none) h (omega arith)

pub overflow_add-found : goal.overflow_add-found
overflow_add-found c =
    let w : Fits w64 (get_or c.args.words.now (c.loop-at.at / 64 % 16) 0) = search rules in
    omega (arith, in-reach c.args.words.now c.loop-at.at c.args.to w.fits c.loop-at-test.true c.if-rest-ne0.true)

pub returns-then-found-to : goal.returns-then-found-to
returns-then-found-to c =
    let w : Fits w64 (get_or c.args.words.now (c.loop-at.at / 64 % 16) 0) = search rules in
    let e = here c.args.words.now c.loop-at.at c.args.to w.fits c.loop-at-test.true c.if-rest-ne0.true c.if-found-to.true in
    some-below c.args.to _ _ (omega (arith, c.loop-at.invariant, e, c.if-found-to.true)) (e ∙ sym c.loop-at.invariant)

pub returns-then-rest-ne0 : goal.returns-then-rest-ne0
returns-then-rest-ne0 c =
    let w : Fits w64 (get_or c.args.words.now (c.loop-at.at / 64 % 16) 0) = search rules in
    none-below c.args.to _ (omega (arith, c.loop-at.invariant, later c.args.words.now c.loop-at.at c.args.to w.fits c.loop-at-test.true c.if-rest-ne0.true c.if-found-to.false))

pub returns-then-to-at : goal.returns-then-to-at
returns-then-to-at c =
    let w : Fits w64 (get_or c.args.words.now (c.loop-at.at / 64 % 16) 0) = search rules in
    none-below c.args.to _ (omega (arith, c.loop-at.invariant, past c.args.words.now c.loop-at.at c.args.to w.fits c.loop-at-test.true c.if-rest-ne0.false c.if-to-at.true))

pub loop-at-preserved : goal.loop-at-preserved
loop-at-preserved c =
    let w : Fits w64 (get_or c.args.words.now (c.loop-at.at / 64 % 16) 0) = search rules in
    c.loop-at.invariant ∙ on c.args.words.now c.loop-at.at c.args.to w.fits c.loop-at-test.true c.if-rest-ne0.false c.if-to-at.false

pub returns : goal.returns
returns c = none-below c.args.to _ (omega (arith, c.loop-at.invariant, first-least (mark c.args.words.now) (c.args.to - c.loop-at.at) c.loop-at.at))
