-- `entries::next_from` meets its contract: the parts are judged one by one, and the number that comes after the object is left.
-- Assumes nothing.
use Rattle.std.proofs.Common.{Some, sym, ap, ◌∙◌, add-one, arith}
use Rattle.entries.proofs.Steps.{parts-age, inside-small, next-short, next-outside, next-broken, next-good}
use Rattle.entries.proofs.row.next_from.Goals as goal

pub returns-in_err-parts : goal.returns-in_err-parts
returns-in_err-parts c =
    let a = c.args in
    rw c.from_residual.ensures (next-short a.floor a.bytes.now _ c.parts_in.ensures c.in_err-parts.was)

pub returns-then-not-within : goal.returns-then-not-within
returns-then-not-within c =
    let a = c.args in
    let w = c.within in
    next-outside a.floor a.bytes.now _ c.parts_in.ensures _ c.in_ok-parts.was w.result w.ensures c.if-not-within.true

pub rest_good-requires : goal.rest_good-requires
rest_good-requires c =
    let b = c.args.bytes.now in
    parts-age b _ c.parts_in.ensures _ c.in_ok-parts.was (λ i. (c.type_inv.bytes i).fits)

pub returns-then-not-rest_good : goal.returns-then-not-rest_good
returns-then-not-rest_good c =
    let a = c.args in
    let w = c.within in
    let g = c.rest_good in
    next-broken a.floor a.bytes.now _ c.parts_in.ensures _ c.in_ok-parts.was w.result w.ensures g.result g.ensures c.if-not-rest_good.true

pub overflow_add-result : goal.overflow_add-result
overflow_add-result c =
    let h = inside-small c.args.floor c.in_ok-parts.parts.object (sym c.within.ensures ∙ c.if-not-within.false) in
    record { fits = omega (arith, h) }

pub returns : goal.returns
returns c =
    let a = c.args in
    let w = c.within in
    let g = c.rest_good in
    ap Some (add-one c.in_ok-parts.parts.object)
    ∙ next-good a.floor a.bytes.now _ c.parts_in.ensures _ c.in_ok-parts.was w.result w.ensures g.result g.ensures c.if-not-within.false c.if-not-rest_good.false
