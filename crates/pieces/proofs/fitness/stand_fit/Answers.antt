-- `pieces::fitness::stand_fit` meets its contract, by the stage.
-- Assumes nothing.
use Prim.Native.Nat.{ℕ}
use mathlib.Core.Path.{◌≡◌, sym, ap, ap₂, ◌∙◌}
use mathlib.Core.Bool.{true, ◌&&◌}
use mathlib.Core.List.{List}
use native.Mathlib.Omega.{arith}
use lib.ListN.{take}
use lib.Seq.{length-take-le}
use Rattle.pieces.specs.Record.{numbers_in, stand_in}
use Rattle.pieces.specs.Fitness.{numbers_fit, field_fit, is_whole, rows_fit, counted_fit}
use Rattle.report.specs.Header.{count_of}
use Rattle.pieces.proofs.Loading.{held-long}
use Rattle.pieces.proofs.Fits.{fit_count, fit-carried, fit_none, fit_refused, fit-faulty, fit-numbers, fit-rows, fit-counting, fit-accepted}
use Rattle.pieces.proofs.fitness.stand_fit.Goals as goal
use Rattle.pieces.proofs.fitness.stand_fit.Goals.{Else-not-numbers_fit}

-- the numbers that have come bring no fault
sound : (c : Else-not-numbers_fit) → numbers_fit c.args.profile (take c.args.s.count (numbers_in c.args.state.now)) ≡ true
sound c = ap (numbers_fit c.args.profile) (sym c.come.ensures.0) ∙ sym c.numbers_fit.ensures ∙ c.if-not-numbers_fit.false

pub returns-then-count-gt-MOST_NUMBERS : goal.returns-then-count-gt-MOST_NUMBERS
returns-then-count-gt-MOST_NUMBERS c = fit_count c.args.profile (stand_in c.args.s c.args.state.now) c.if-count-gt-MOST_NUMBERS.true

pub returns-then-carried-gt-CARRIED : goal.returns-then-carried-gt-CARRIED
returns-then-carried-gt-CARRIED c = fit-carried c.args.profile (stand_in c.args.s c.args.state.now) c.if-count-gt-MOST_NUMBERS.false c.if-carried-gt-CARRIED.true

pub returns-then-stage-eq-REFUSED : goal.returns-then-stage-eq-REFUSED
returns-then-stage-eq-REFUSED c =
    let a = c.args in
    c.can_stand.ensures ∙ fit_refused a.profile (stand_in a.s a.state.now) c.if-count-gt-MOST_NUMBERS.false c.if-carried-gt-CARRIED.false c.if-stage-eq-REFUSED.true

pub returns-then-not-numbers_fit : goal.returns-then-not-numbers_fit
returns-then-not-numbers_fit c =
    let a = c.args in
    fit-faulty a.profile (stand_in a.s a.state.now) c.if-count-gt-MOST_NUMBERS.false c.if-carried-gt-CARRIED.false c.if-stage-eq-REFUSED.false (ap (numbers_fit a.profile) (sym c.come.ensures.0) ∙ sym c.numbers_fit.ensures ∙ c.if-not-numbers_fit.true)

pub slice_bounds-field_fit-end : goal.slice_bounds-field_fit-end
slice_bounds-field_fit-end c = sym (length-take-le _ _ (omega (arith, c.held_in-held.ensures.0, c.if-carried-gt-CARRIED.false)))

pub counted_fit-requires : goal.counted_fit-requires
counted_fit-requires c = ap (numbers_fit c.args.profile) c.come-in-2.ensures.0 ∙ sound (goal.at.counted_fit-requires c).Else-not-numbers_fit

pub returns-in-0 : goal.returns-in-0
returns-in-0 c =
    let a = c.args in
    c.field_fit.ensures ∙ ap₂ (field_fit a.profile) c.come-in-0.ensures.0 c.held_in-held.ensures.1 ∙ fit-numbers a.profile (stand_in a.s a.state.now) c.if-count-gt-MOST_NUMBERS.false c.if-carried-gt-CARRIED.false (sound (goal.at.returns-in-0 c).Else-not-numbers_fit) c.in-0.is

pub returns-in-1 : goal.returns-in-1
returns-in-1 c =
    let a = c.args in
    c.rows_fit.ensures ∙ ap (λ (x : List ℕ). is_whole a.profile x && rows_fit a.profile (count_of x) a.s.left a.s.last a.s.above a.s.carried) c.come-in-1.ensures.0 ∙ fit-rows a.profile (stand_in a.s a.state.now) c.if-count-gt-MOST_NUMBERS.false c.if-carried-gt-CARRIED.false (sound (goal.at.returns-in-1 c).Else-not-numbers_fit) (held-long a.state.now) c.in-1.is

pub returns-in-2 : goal.returns-in-2
returns-in-2 c =
    let a = c.args in
    c.counted_fit.ensures ∙ ap (λ (x : List ℕ). is_whole a.profile x && counted_fit a.profile (count_of x) a.s.left) c.come-in-2.ensures.0 ∙ fit-counting a.profile (stand_in a.s a.state.now) c.if-count-gt-MOST_NUMBERS.false c.if-carried-gt-CARRIED.false (sound (goal.at.returns-in-2 c).Else-not-numbers_fit) c.in-2.is

pub returns-in-4 : goal.returns-in-4
returns-in-4 c =
    let a = c.args in
    c.is_whole.ensures ∙ ap (is_whole a.profile) c.come-in-4.ensures.0 ∙ fit-accepted a.profile (stand_in a.s a.state.now) c.if-count-gt-MOST_NUMBERS.false c.if-carried-gt-CARRIED.false (sound (goal.at.returns-in-4 c).Else-not-numbers_fit) c.in-4.is

pub returns-in_default : goal.returns-in_default
returns-in_default c =
    let a = c.args in
    fit_none a.profile (stand_in a.s a.state.now) c.if-count-gt-MOST_NUMBERS.false c.if-carried-gt-CARRIED.false (λ z. omega arith) (λ z. omega arith) (λ z. omega arith) c.if-stage-eq-REFUSED.false (λ z. omega arith)
