-- `pieces::fields::take_numbers` meets its contract. The loop's invariant: the bytes taken so far lead to the numbers that were read.
-- Assumes nothing.
use mathlib.Core.Path.{◌≡◌, refl, sym, ap, ap₂, ◌∙◌}
use native.Mathlib.Omega.{arith}
use Prim.Native.Nat.{ℕ, ◌+◌, ◌-◌, ◌<◌}
use mathlib.Core.List.{List, ◌++◌}
use lib.ListN.{length, get_or, take, drop, set, length-drop}
use lib.Seq.{length-take-le}
use Rattle.wire.specs.Numbers.{read_number}
use Rattle.std.specs.Prelude.{Err}
use Rattle.wire.specs.declared.Refusal.TheVariants.{Ends}
use Rattle.report.proofs.Heeding.{number-refused}
use Rattle.entries.specs.declared.Profile.{Profile}
use Rattle.report.specs.Header.{wanted_of}
use Rattle.uncut.specs.State.{Numbers}
use Rattle.pieces.specs.Record.{numbers_in, held_in, stand_in, state_in, moved_in}
use Rattle.pieces.specs.Reading.{moved_to}
use Rattle.pieces.specs.declared.Marks.{Marks}
use Rattle.pieces.specs.declared.Walked.{Walked}
use Rattle.pieces.proofs.Loading.{held-long, first-octet}
use Rattle.pieces.proofs.Laying.{number-laid, bytes-stay}
use Rattle.pieces.specs.Serving.{Sits, Ready}
use Rattle.pieces.proofs.Prefix.{Behind, read_here, shifted-refused, shifted-value}
use Rattle.pieces.proofs.Stages.{at-numbers}
use Rattle.pieces.proofs.Numbering.{Numbering, numbering-starts, count-below, carried-short, kept-short, next_past, next-within, numbering-more, first-held, first_byte, over_done, kept-done, refused-done, whole-done}
use Rattle.pieces.proofs.fields.take_numbers.Goals as goal
use Rattle.pieces.proofs.fields.take_numbers.Goals.{In_default, In-Ok, After-come, After-come-in-loop-at}

module _ (p : Profile) (from : Marks) (w part : List ℕ) (sits : Sits p (stand_in from w)) (coming : from.stage ≡ 0) where
  state-is : state_in (stand_in from w) ≡ Numbers (take from.count (numbers_in w)) (take from.carried (held_in w))
  state-is = at-numbers from.stage from.left from.last from.above (take from.count (numbers_in w)) (take from.carried (held_in w)) coming

  ready_at : Ready p (Numbers (take from.count (numbers_in w)) (take from.carried (held_in w)))
  ready_at = rw state-is at sits.ready

  -- no byte was taken yet
  starts : Numbering p (Numbers (take from.count (numbers_in w)) (take from.carried (held_in w))) part (held_in w) 0 from.count (numbers_in w) from.carried
  starts = rw state-is at (numbering-starts p (stand_in from w) part sits coming)

-- the first byte of the next field
first : (c : In_default) → get_or (take c.loop-at.carried (held_in c.args.state.now) ++ drop c.loop-at.at c.args.part.now) 0 0 < 256
first c = first_byte (held_in c.args.state.now) c.args.part.now c.loop-at.carried c.loop-at.at c.loop-at.invariant.0.held-long (first-octet c.args.state.now) (λ i. (c.type_inv.part i).fits)

unfinished : (c : In_default) → read_number (take c.loop-at.carried (held_in c.args.state.now) ++ drop c.loop-at.at c.args.part.now) 0 ≡ Err Ends
unfinished c = let r = shifted-refused c.loop-at.carried c.loop-at.at _ (sym c.loop-at.invariant.1.1 ∙ c.in_default.is) in r ∙ ap Err (number-refused _ 0 r)

found : (c : In-Ok) → Behind c.loop-at.carried c.loop-at.at c.in-Ok.field-0.value c.in-Ok.field-0.next c.in-Ok.field-0.shortest (read_number (take c.loop-at.carried (held_in c.args.state.now) ++ drop c.loop-at.at c.args.part.now) 0)
found c = shifted-value c.loop-at.carried c.loop-at.at _ _ _ _ (sym c.loop-at.invariant.1.1 ∙ c.in-Ok.is)

-- the number stands behind those that have come, and the bytes that are carried stay
laid : (c : After-come) → (numbers_in (set c.loop-at.state (7 + c.loop-at.count) c.in-Ok.field-0.value) ≡ set (numbers_in c.loop-at.state) c.loop-at.count c.in-Ok.field-0.value) × (held_in (set c.loop-at.state (7 + c.loop-at.count) c.in-Ok.field-0.value) ≡ held_in c.args.state.now)
laid c =
    let a = c.args in
    let l = c.loop-at in
    let b = count-below a.profile _ a.part.now (held_in a.state.now) l.invariant.0 in
    (number-laid l.state l.count c.in-Ok.field-0.value c.come.ensures.1 b, bytes-stay l.state l.count c.in-Ok.field-0.value c.come.ensures.1 b ∙ l.invariant.1.0)

-- the numbers that have come then
more-come : (c : After-come-in-loop-at) → numbers_in (set c.loop-at.state (7 + c.loop-at.count) c.in-Ok.field-0.value) ≡ set (numbers_in c.loop-at.state) c.loop-at.count c.in-Ok.field-0.value → c.come-in-loop-at.result.now ≡ take (c.loop-at.count + 1) (set (numbers_in c.loop-at.state) c.loop-at.count c.in-Ok.field-0.value)
more-come c e = c.come-in-loop-at.ensures.0 ∙ ap (take (c.loop-at.count + 1)) e

pub next_field-field-requires : goal.next_field-field-requires
next_field-field-requires c =
    let a = c.args in
    let n = starts a.profile a.from a.state.now a.part.now c.requires.0 c.requires.1 in
    (omega (arith, carried-short a.profile _ a.part.now (held_in a.state.now) n (first-held (held_in a.state.now) a.from.carried (first-octet a.state.now))), n.ready.0.1)

pub loop-at-init : goal.loop-at-init
loop-at-init c = (starts c.args.profile c.args.from c.args.state.now c.args.part.now c.requires.0 c.requires.1, (refl, c.next_field-field.ensures))

pub overflow_add-end : goal.overflow_add-end
overflow_add-end c =
    let a = c.args in
    omega (arith, kept-short a.profile _ a.part.now (held_in a.state.now) c.loop-at.invariant.0 (unfinished (goal.at.overflow_add-end c).In_default) (first (goal.at.overflow_add-end c).In_default))

pub keep-requires : goal.keep-requires
keep-requires c =
    let a = c.args in
    let w = length-take-le (length a.part.now - c.loop-at.at) (drop c.loop-at.at a.part.now) (rw length-drop (omega arith)) in
    omega (arith, w, kept-short a.profile _ a.part.now (held_in a.state.now) c.loop-at.invariant.0 (unfinished (goal.at.keep-requires c).In_default) (first (goal.at.keep-requires c).In_default))

pub returns-in_default : goal.returns-in_default
returns-in_default c =
    let a = c.args in
    let l = c.loop-at in
    let k = kept-short a.profile _ a.part.now (held_in a.state.now) l.invariant.0 (unfinished (goal.at.returns-in_default c).In_default) (first (goal.at.returns-in_default c).In_default) in
    let w = c.keep.new.state in
    kept-done a.profile _ _ a.part.now (held_in a.state.now) (state-is a.profile a.from a.state.now a.part.now c.requires.0 c.requires.1) (ready_at a.profile a.from a.state.now a.part.now c.requires.0 c.requires.1) l.invariant.0 (unfinished (goal.at.returns-in_default c).In_default) (held_in w) (omega (arith, k)) (held-long w) (c.keep.ensures.1 ∙ ap (λ (x : List ℕ). take l.carried x ++ take (length a.part.now - l.at) (drop l.at a.part.now)) l.invariant.1.0) _
    (ap (λ (x : Walked). moved_in x w) c.walked.ensures ∙ ap (λ (x : List ℕ). moved_to 0 0 l.count x (l.carried + (length a.part.now - l.at)) (held_in w) (length a.part.now)) c.keep.ensures.0)

pub come-requires : goal.come-requires
come-requires c = c.loop-at.invariant.0.few

pub returns-in-Err : goal.returns-in-Err
returns-in-Err c =
    let a = c.args in
    let l = c.loop-at in
    let v = c.in-Ok.field-0 in
    refused-done a.profile _ _ a.part.now (held_in a.state.now) (state-is a.profile a.from a.state.now a.part.now c.requires.0 c.requires.1) (ready_at a.profile a.from a.state.now a.part.now c.requires.0 c.requires.1) l.invariant.0 _ _ _ (found (goal.at.returns-in-Err c).In-Ok) c.in-Err.refusal (sym (rw c.come.ensures.0 at c.judge_field.ensures) ∙ c.in-Err.is) _
    (ap (λ (x : Walked). moved_in x l.state) c.walked-in-Err.ensures ∙ ap (λ (x : List ℕ). moved_to 3 c.number.result l.count (numbers_in l.state) l.carried x v.next) l.invariant.1.0
    ∙ ap (λ (x : ℕ). moved_to 3 x l.count (numbers_in l.state) l.carried (held_in a.state.now) v.next) c.number.ensures)

pub overflow_add-state : goal.overflow_add-state
overflow_add-state c = omega (arith, c.loop-at.invariant.0.few)

pub offset_bounds-state-count : goal.offset_bounds-state-count
offset_bounds-state-count c = omega (arith, c.loop-at.invariant.0.few)

pub bounds-state-count : goal.bounds-state-count
bounds-state-count c = omega (arith, c.loop-at.invariant.0.few)

pub overflow_add-count : goal.overflow_add-count
overflow_add-count c = omega (arith, c.loop-at.invariant.0.few)

pub come-requires-in-loop-at : goal.come-requires-in-loop-at
come-requires-in-loop-at c =
    let a = c.args in
    omega (arith, count-below a.profile _ a.part.now (held_in a.state.now) c.loop-at.invariant.0)

pub returns-then-wanted-count : goal.returns-then-wanted-count
returns-then-wanted-count c =
    let a = c.args in
    let l = c.loop-at in
    let v = c.in-Ok.field-0 in
    whole-done a.profile _ _ a.part.now (held_in a.state.now) (state-is a.profile a.from a.state.now a.part.now c.requires.0 c.requires.1) (ready_at a.profile a.from a.state.now a.part.now c.requires.0 c.requires.1) l.invariant.0 _ _ _ (found (goal.at.returns-then-wanted-count c).In-Ok) (sym (rw c.come.ensures.0 at c.judge_field.ensures) ∙ c.in_default-judge_field.is) (rw (c.wanted.ensures ∙ ap (wanted_of c.args.profile) (more-come (goal.at.returns-then-wanted-count c).After-come-in-loop-at (laid (goal.at.returns-then-wanted-count c).After-come).0)) at c.if-wanted-count.true) _
    (ap (λ (x : Walked). moved_in x (set l.state (7 + l.count) v.value)) c.walked-then-wanted-count.ensures ∙ ap₂ (λ (x y : List ℕ). moved_to 1 v.value (l.count + 1) x 0 y v.next) (laid (goal.at.returns-then-wanted-count c).After-come).0 (laid (goal.at.returns-then-wanted-count c).After-come).1)

pub loop-at-smaller : goal.loop-at-smaller
loop-at-smaller c =
    let a = c.args in
    omega (arith, next_past a.profile _ a.part.now (held_in a.state.now) c.loop-at.invariant.0 _ _ _ (found (goal.at.loop-at-smaller c).In-Ok), next-within a.profile _ a.part.now (held_in a.state.now) c.loop-at.invariant.0 _ _ _ (found (goal.at.loop-at-smaller c).In-Ok))

pub loop-at-preserved : goal.loop-at-preserved
loop-at-preserved c =
    let a = c.args in
    let f = found (goal.at.loop-at-preserved c).In-Ok in
    let h = c.loop-at.invariant.0 in
    let w = next-within a.profile _ a.part.now (held_in a.state.now) h _ _ _ f in
    (rw (laid (goal.at.loop-at-preserved c).After-come).0 (numbering-more a.profile _ a.part.now (held_in a.state.now) h _ _ _ f (sym (rw c.come.ensures.0 at c.judge_field.ensures) ∙ c.in_default-judge_field.is) (rw (c.wanted.ensures ∙ ap (wanted_of c.args.profile) (more-come (goal.at.loop-at-preserved c).After-come-in-loop-at (laid (goal.at.loop-at-preserved c).After-come).0)) at c.if-wanted-count.false) (ready_at a.profile a.from a.state.now a.part.now c.requires.0 c.requires.1)), ((laid (goal.at.loop-at-preserved c).After-come).1, c.read_number-field.ensures ∙ read_here a.part.now _ w))

pub returns : goal.returns
returns c =
    let a = c.args in
    let l = c.loop-at in
    over_done a.profile _ _ a.part.now (held_in a.state.now) (state-is a.profile a.from a.state.now a.part.now c.requires.0 c.requires.1) (ready_at a.profile a.from a.state.now a.part.now c.requires.0 c.requires.1) l.invariant.0 c.loop-at-test.false _
    (ap (λ (x : Walked). moved_in x l.state) c.walked-2.ensures ∙ ap (λ (x : List ℕ). moved_to 0 0 l.count (numbers_in l.state) l.carried x l.at) l.invariant.1.0)
