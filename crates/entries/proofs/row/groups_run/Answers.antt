-- `entries::groups_run` meets its contract. The loop's invariant is that of profile 1, with the group of the record before.
-- Assumes nothing.
use Rattle.std.proofs.Common.{◌≡◌, ℕ, ◌*◌, ◌/◌, length, sym, refl, ap, ◌∙◌, arith, length-drop}
use Rattle.entries.specs.Runs.{run_to}
use Rattle.entries.specs.declared.Profile.TheVariants.{Two}
use Rattle.entries.proofs.Fields.{group-is-first, group-there-first, lent-long, lent-parts, behind-is}
use Rattle.entries.proofs.Steps.{inside-small, floor-small}
use Rattle.entries.proofs.Verdicts.{next_small}
use Rattle.entries.proofs.Runs.{going-starts, going-ends, stop-group, stop-object, more-record}
use Rattle.entries.proofs.row.groups_run.Goals as goal

pub loop-good-init : goal.loop-good-init
loop-good-init c = (omega (arith, c.requires.0), (c.requires.1, going-starts Two _ _ _ _ refl))

pub returns-in_default : goal.returns-in_default
returns-in_default c =
    let s = c.args.entries.now in
    group-there-first _ (lent-long s c.loop-good.good _ refl c.loop-good-test.true) _ _ c.in_default.is c.read_fixed8.ensures

pub returns-then-not-within : goal.returns-then-not-within
returns-then-not-within c =
    let s = c.args.entries.now in
    let v = c.loop-good.invariant in
    let h = c.loop-good-test.true in
    let l = lent-long s c.loop-good.good _ refl h in
    let g = group-is-first _ l _ _ c.in-Ok.is c.read_fixed8.ensures in
    c.run_to-then-not-within.ensures ∙ stop-group Two _ _ _ _ (lent-parts s c.loop-good.good _ refl h) l _ _ _ _ v.1.1 _ g (sym c.within.ensures ∙ c.if-not-within.true)

pub next_from-requires : goal.next_from-requires
next_from-requires c =
    let l = c.loop-good in
    floor-small l.before l.past c.in-Ok.field.value _ l.invariant.1.0 c.floor_of-floor.ensures

pub returns-in_default-next_from : goal.returns-in_default-next_from
returns-in_default-next_from c =
    let s = c.args.entries.now in
    let v = c.loop-good.invariant in
    let h = c.loop-good-test.true in
    let l = lent-long s c.loop-good.good _ refl h in
    let g = group-is-first _ l _ _ c.in-Ok.is c.read_fixed8.ensures in
    let w = sym c.within.ensures ∙ c.if-not-within.false in
    c.run_to-in_default-next_from.ensures ∙ stop-object Two _ _ _ _ (lent-parts s c.loop-good.good _ refl h) l _ _ _ _ v.1.1 _ g w _ c.floor_of-floor.ensures _ (behind-is 8 _) _ c.next_from.ensures c.in_default-next_from.is

pub loop-good-preserved : goal.loop-good-preserved
loop-good-preserved c =
    let s = c.args.entries.now in
    let v = c.loop-good.invariant in
    let h = c.loop-good-test.true in
    let l = lent-long s c.loop-good.good _ refl h in
    let g = group-is-first _ l _ _ c.in-Ok.is c.read_fixed8.ensures in
    let w = sym c.within.ensures ∙ c.if-not-within.false in
    let x = c.next_from.ensures in
    let t = c.in-Some.is in
    (omega (arith, inside-small c.loop-good.before c.in-Ok.field.value w), (next_small _ _ _ _ x t, more-record Two _ _ _ _ (lent-parts s c.loop-good.good _ refl h) l _ _ _ _ v.1.1 _ g w _ c.floor_of-floor.ensures _ (behind-is 8 _) _ x _ t))

pub returns : goal.returns
returns c =
    let l = c.loop-good in
    let s = c.args.entries.now in
    let e : length s / 24 ≡ l.good = omega (arith, c.loop-good-test.false, l.auto.good-end) in
    c.run_to-2.ensures ∙ ap (λ (k : ℕ). run_to k l.before l.past) e ∙ going-ends Two _ _ _ _ _ _ l.invariant.1.1 (omega (arith, length-drop (l.good * 24) s))
