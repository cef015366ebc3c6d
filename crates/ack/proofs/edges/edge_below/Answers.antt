-- `ack::edges::edge_below` meets its contract. The invariant: from some place on the way down, of which `rest` has the other marks, the run ends where it does from the start.
-- Assumes nothing.
use Prim.Native.Nat.{ℕ, ◌+◌, ◌-◌, ◌*◌}
use mathlib.Core.Path.{◌≡◌, refl, sym, ap, ◌∙◌}
use native.Mathlib.Nat.{lt_of_le_of_lt}
use native.Mathlib.Omega.{arith}
use lib.Count.{leading_le}
use lib.Dec.{lit<}
use Rattle.window.specs.Window.{lent_value, run_below}
use Rattle.ack.proofs.Ends.{none_left, goes_on, zeros-few, below-ones, run_ends, ends_above, turned-over}
use Rattle.ack.proofs.edges.edge_below.Goals as goal
use Rattle.ack.proofs.edges.edge_below.Goals.{In-loop-rest}

pub loop-rest-init : goal.loop-rest-init
loop-rest-init c = (c.args.place, c.requires, omega arith, refl)

-- the rest of the word has none of the other mark
passed : (c : In-loop-rest)
    → c.args.place - run_below c.args.marked c.args.place (lent_value c.args.words.now)
    ≡ 64 * c.loop-rest.i - run_below c.args.marked (64 * c.loop-rest.i) (lent_value c.args.words.now)
passed c =
    let v = c.loop-rest.invariant in
    omega (arith, goes_on v.1 c.loop-rest-test.true, v.1.from, v.3)

pub returns-then-i-eq0 : goal.returns-then-i-eq0
returns-then-i-eq0 c =
    let a = c.args in
    (omega (arith, passed (goal.at.returns-then-i-eq0 c).In-loop-rest, c.if-i-eq0.true), none_left)

pub overflow_sub-i : goal.overflow_sub-i
overflow_sub-i c = omega (arith, c.if-i-eq0.false)

pub others_in-rest-requires : goal.others_in-rest-requires
others_in-rest-requires c = omega (arith, c.loop-rest.invariant.1.word, c.if-i-eq0.false)

pub loop-rest-smaller : goal.loop-rest-smaller
loop-rest-smaller c = omega (arith, c.if-i-eq0.false)

pub loop-rest-preserved : goal.loop-rest-preserved
loop-rest-preserved c =
    let a = c.args in
    let v = c.loop-rest.invariant in
    let e : 64 * (c.loop-rest.i - 1) + 64 ≡ 64 * c.loop-rest.i = omega (arith, c.if-i-eq0.false) in
    (64 * (c.loop-rest.i - 1) + 64, c.others_in-rest.ensures, omega (arith, v.1.from, v.2), passed (goal.at.loop-rest-preserved c).In-loop-rest ∙ ap (λ (n : ℕ). n - run_below a.marked n (lent_value a.words.now)) (sym e))

pub overflow_cast-zeros : goal.overflow_cast-zeros
overflow_cast-zeros c = record { fits = lt_of_le_of_lt (leading_le 64 _) (lit< tt) }

pub overflow_shr-ones : goal.overflow_shr-ones
overflow_shr-ones c = omega (arith, zeros-few c.loop-rest.invariant.1 refl c.loop-rest-test.false)

pub overflow_mul-result : goal.overflow_mul-result
overflow_mul-result c = omega (arith, c.loop-rest.invariant.1.word)

pub overflow_sub-result : goal.overflow_sub-result
overflow_sub-result c = omega (arith, zeros-few c.loop-rest.invariant.1 refl c.loop-rest-test.false)

pub overflow_add-result : goal.overflow_add-result
overflow_add-result c = omega (arith, c.loop-rest.invariant.1.word)

pub overflow_sub-result-2 : goal.overflow_sub-result-2
overflow_sub-result-2 c = below-ones c.loop-rest.invariant.1 refl c.loop-rest-test.false

pub returns : goal.returns
returns c =
    let v = c.loop-rest.invariant in
    let n = c.loop-rest-test.false in
    (omega (arith, v.3, run_ends v.1 refl n, ends_above v.1 refl n), turned-over v.1 refl n)
