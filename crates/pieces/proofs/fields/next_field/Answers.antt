-- `pieces::fields::next_field` meets its contract: the bytes carried and those behind them are read as one.
-- Assumes nothing.
use mathlib.Core.Path.{◌≡◌, sym, ap, ◌∙◌}
use native.Mathlib.Omega.{arith}
use Prim.Native.Nat.{ℕ, ◌+◌, ◌-◌, zero-le}
use mathlib.Core.List.{List, ◌++◌}
use lib.ListN.{length, take}
use lib.Seq.{length-take-le}
use Rattle.wire.specs.Numbers.{read_number}
use Rattle.wire.specs.Fields.{found}
use Rattle.wire.proofs.Reading.{number-refused}
use Rattle.std.specs.Prelude.{Err}
use Rattle.pieces.specs.Reading.{shifted}
use Rattle.pieces.specs.Record.{held_in}
use Rattle.pieces.proofs.Loading.{held-long, first-octet}
use Rattle.pieces.proofs.Prefix.{read_here, read-field, value-past, above_zero}
use Rattle.pieces.proofs.fields.next_field.Goals as goal
use Rattle.pieces.proofs.fields.next_field.Goals.{After-joined-field}

size : (c : After-joined-field) → length (take c.args.carried (held_in c.args.state.now)) ≡ c.args.carried
size c =
    let a = c.args in
    let w : length (held_in a.state.now) ≡ 24 = held-long a.state.now in
    length-take-le a.carried (held_in a.state.now) (omega (arith, c.requires))

-- the bytes that were joined are read as all of them are
read-on : (c : After-joined-field) → read_number (take (c.args.carried + c.min-more.result) c.joined-field.result) 0 ≡ read_number (take c.args.carried (held_in c.args.state.now) ++ c.args.part.now) 0
read-on c =
    let a = c.args in
    read-field (held_in a.state.now) a.part.now c.joined-field.result a.carried c.min-more.result (held-long a.state.now) c.requires.0 c.min-more.ensures (c.joined-field.ensures.1 ∙ ap (λ (x : List ℕ). x ++ take c.min-more.result a.part.now) c.held_in-held.ensures.1)
    (above_zero a.carried c.if-carried-eq0.false) (first-octet a.state.now)

pub returns-then-carried-eq0 : goal.returns-then-carried-eq0
returns-then-carried-eq0 c = rw c.if-carried-eq0.true (c.read_number.ensures ∙ read_here c.args.part.now 0 zero-le)

pub held_in-held-requires : goal.held_in-held-requires
held_in-held-requires c = omega (arith, c.requires.0)

pub slice_bounds-joined-end : goal.slice_bounds-joined-end
slice_bounds-joined-end c = sym (length-take-le _ _ (omega (arith, c.min-more.ensures)))

pub joined-field-requires : goal.joined-field-requires
joined-field-requires c =
    let a = c.args in
    let w : length (take c.min-more.result a.part.now) ≡ c.min-more.result = length-take-le c.min-more.result a.part.now (omega (arith, c.min-more.ensures)) in
    omega (arith, c.min-more.ensures, c.requires.0)

pub slice_bounds-read_number-end : goal.slice_bounds-read_number-end
slice_bounds-read_number-end c = sym (length-take-le _ _ (omega (arith, c.joined-field.ensures.0, c.min-more.ensures)))

pub returns-in_default : goal.returns-in_default
returns-in_default c =
    let e = sym (read-on (goal.at.returns-in_default c).After-joined-field) ∙ sym c.read_number-2.ensures ∙ c.in_default.is in
    rw e (ap Err (sym (number-refused _ 0 e)))

pub overflow_sub-result : goal.overflow_sub-result
overflow_sub-result c =
    let a = c.args in
    let l : length (take a.carried (held_in a.state.now)) ≡ a.carried = size (goal.at.overflow_sub-result c).After-joined-field in
    omega (arith, value-past (take a.carried (held_in a.state.now)) a.part.now _ _ _ c.requires.1 (sym (read-on (goal.at.overflow_sub-result c).After-joined-field) ∙ sym c.read_number-2.ensures ∙ c.in-Ok.is))

pub returns : goal.returns
returns c =
    let a = c.args in
    let v = c.in-Ok.field-0 in
    let z : v.next - a.carried ≡ 0 + (v.next - a.carried) = omega arith in
    ap (λ (n : ℕ). found v.value n v.shortest) z ∙ ap (shifted a.carried 0) (sym c.in-Ok.is ∙ c.read_number-2.ensures ∙ read-on (goal.at.returns c).After-joined-field)
