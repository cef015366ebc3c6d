-- `entries::objects_run` meets its contract. The loop's invariant: from here on the run is that of the whole.
-- Assumes nothing.
use Rattle.std.proofs.Common.{refl, ap, ◌∙◌, arith}
use Rattle.std.specs.Slice.Iter.{chunks_exact_rest, chunks_exact_size}
use Rattle.entries.specs.declared.Profile.TheVariants.{One}
use Rattle.entries.proofs.Verdicts.{next_small}
use Rattle.entries.proofs.Runs.{going-starts, going-ends, more-room, stop-object, more-record}
use Rattle.entries.proofs.row.objects_run.Goals as goal

pub loop-record-init : goal.loop-record-init
loop-record-init c =
    let i = c.into_iter-record-iterator.ensures.into_iter_gives in
    let x = c.chunks_exact-record-items.ensures in
    (ap chunks_exact_size i ∙ x.size, (c.requires, going-starts One _ _ 0 _ (ap chunks_exact_rest i ∙ x.rest)))

pub returns-in_default : goal.returns-in_default
returns-in_default c =
    let v = c.loop-record.invariant in
    let s = c.in-Some.ensures.steps in
    c.run_to.ensures ∙ stop-object One _ _ _ _ s.1.0 (s.1.1 ∙ v.0) _ 0 _ _ v.1.1 0 refl refl _ refl _ refl _ c.next_from.ensures c.in_default.is

pub overflow_add-good : goal.overflow_add-good
overflow_add-good c =
    let v = c.loop-record.invariant in
    let s = c.in-Some.ensures.steps in
    let m = more-room One _ _ _ _ s.1.0 (s.1.1 ∙ v.0) _ 0 _ _ v.1.1 0 refl in
    record { fits = omega (arith, m, c.well_formed) }

pub loop-record-preserved : goal.loop-record-preserved
loop-record-preserved c =
    let v = c.loop-record.invariant in
    let s = c.in-Some.ensures.steps in
    let x = c.next_from.ensures in
    let t = c.in-Some-next_from.is in
    (s.0 ∙ v.0, (next_small _ _ _ _ x t, more-record One _ _ _ _ s.1.0 (s.1.1 ∙ v.0) _ 0 _ _ v.1.1 0 refl refl _ refl _ refl _ x _ t))

pub returns : goal.returns
returns c =
    let v = c.loop-record.invariant in
    let s = c.in-None.ensures.steps in
    c.run_to-2.ensures ∙ going-ends One _ _ _ 0 _ _ v.1.1 (omega (arith, s.1.0, v.0))
