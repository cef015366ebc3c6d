-- `run_within` meets its contract. The invariant: the run below n is the places passed over and the run below `left`.
-- The measure is `left`. Assumes nothing.
use mathlib.Core.Path.{◌≡◌, sym, ap, ◌∙◌}
use Prim.Native.Nat.{ℕ, ◌+◌, ◌-◌, ◌*◌, ◌/◌, ◌%◌, ◌^◌, ◌≤◌, ◌<◌}
use native.Mathlib.Nat.{mod-eq_of_lt}
use native.Mathlib.Omega.{arith}
use lib.Count.{count_leading_zeros}
use lib.ListN.{get_or}
use Rattle.window.specs.Words.{words_in, other_than}
use Rattle.window.specs.Window.{lent_value, run_below}
use Rattle.window.proofs.Words.{word_in}
use Rattle.window.proofs.Sixteen.{lent}
use Rattle.window.proofs.Zeros.{some-other, no_other}
use Rattle.window.proofs.Runs.{run_none, run_at, word-stop, word-skip}
use Rattle.window.proofs.run_within.Goals as goal
use Rattle.window.proofs.run_within.Tie as tie
use Rattle.window.proofs.run_within.Lts as lts
use Rattle.window.proofs.run_within.Reads as reads

-- the zeros that the code counts are a run of marks
abbrev zeros : lts.After-other_than tie.the-claims reads.Pre reads.Post goal.the-invariant-loop-left goal.the-decreases-loop-left → ℕ
zeros c = count_leading_zeros 64 ((c.other_than-other.result * 2 ^ (63 - (c.loop-left.left - 1) % 64)) % 2 ^ 64)

abbrev run : lts.After-other_than tie.the-claims reads.Pre reads.Post goal.the-invariant-loop-left goal.the-decreases-loop-left → ℕ
run c =
    let s = c in
    run_at (words_in 16 s.args.words.now) (lent s.args.words.now) s.args.marked (c.loop-left.left - 1)

-- the word that is inverted or not is the window's own
same : (c : lts.After-other_than tie.the-claims reads.Pre reads.Post goal.the-invariant-loop-left goal.the-decreases-loop-left)
    → c.other_than-other.result
    ≡ other_than c.args.marked
    (get_or (words_in 16 c.args.words.now) ((c.loop-left.left - 1) / 64) 0)
same c =
    let l = c in
    let s = l in
    let i = (l.loop-left.left - 1) / 64 in
    let e : get_or s.args.words.now i 0 ≡ get_or (words_in 16 s.args.words.now) i 0
    = sym (word_in 16 s.args.words.now i (omega arith) ∙ mod-eq_of_lt c.other_than-other.ensures.1) in
    c.other_than-other.ensures.0 ∙ ap (other_than s.args.marked) e

counted : (c : lts.After-other_than tie.the-claims reads.Pre reads.Post goal.the-invariant-loop-left goal.the-decreases-loop-left) → zeros c ≡ run c
counted c = ap (λ (x : ℕ). count_leading_zeros 64 ((x * 2 ^ (63 - (c.loop-left.left - 1) % 64)) % 2 ^ 64)) (same c)

-- it ends in this word, or goes on below it
stops : (c : lts.Then1 tie.the-claims reads.Pre reads.Post goal.the-invariant-loop-left goal.the-decreases-loop-left) → run c.before ≤ (c.loop-left.left - 1) % 64
stops c =
    let l = c in
    let s = l in
    some-other s.args.marked _ ((l.loop-left.left - 1) % 64) ((lent s.args.words.now).words ((l.loop-left.left - 1) / 64)) (omega arith)
    (λ z. c.if-rest-ne0.true (ap (λ (x : ℕ). (x * 2 ^ (63 - (l.loop-left.left - 1) % 64)) % 2 ^ 64) (same c.before) ∙ z))

goes_on : (c : lts.Else1 tie.the-claims reads.Pre reads.Post goal.the-invariant-loop-left goal.the-decreases-loop-left) → (c.loop-left.left - 1) % 64 < run c.before
goes_on c =
    let l = c in
    let s = l in
    no_other s.args.marked _ ((l.loop-left.left - 1) % 64) ((lent s.args.words.now).words ((l.loop-left.left - 1) / 64)) (omega arith)
    (sym (ap (λ (x : ℕ). (x * 2 ^ (63 - (l.loop-left.left - 1) % 64)) % 2 ^ 64) (same c.before)) ∙ c.if-rest-ne0.false)

-- `left` is one more than the place that is looked at
above : (c : lts.After-other_than tie.the-claims reads.Pre reads.Post goal.the-invariant-loop-left goal.the-decreases-loop-left) → c.loop-left.left ≡ c.loop-left.left - 1 + 1
above c = omega arith

pub returns-then-rest-ne0 : goal.returns-then-rest-ne0
returns-then-rest-ne0 c =
    let l = c in
    let s = l in
    let e = counted c.before.before in
    omega (
      arith,
      l.loop-left.invariant.1,
      e,
      ap (λ (m : ℕ). run_below s.args.marked m (lent_value s.args.words.now)) (above c.before.before),
      word-stop _ (lent s.args.words.now) s.args.marked (l.loop-left.left - 1) (stops c.before),
    )

pub loop-left-preserved : goal.loop-left-preserved
loop-left-preserved c =
    let l = c in
    let s = l in
    let k = (l.loop-left.left - 1) % 64 in
    let d : l.loop-left.left - (k + 1) ≡ l.loop-left.left - 1 - k = omega arith in (
      omega arith,
      omega (
        arith,
        l.loop-left.invariant.1,
        ap (λ (m : ℕ). run_below s.args.marked m (lent_value s.args.words.now)) (above c.before.before),
        ap (λ (m : ℕ). run_below s.args.marked m (lent_value s.args.words.now)) d,
        word-skip _ (lent s.args.words.now) s.args.marked (l.loop-left.left - 1) (goes_on c.before),
      ),
    )

pub returns : goal.returns
returns c =
    let s = c in
    let z : c.loop-left.left ≡ 0 = omega arith in
    omega (arith, c.loop-left.invariant.1, run_none s.args.marked c.loop-left.left (lent_value s.args.words.now) z)
