-- `ack::walk::put_ranges` meets its contract. The loop's invariant: the ranges stored so far fit, and with those still to come they give the whole.
-- Assumes nothing.
use Prim.Native.Nat.{ℕ, ◌+◌, ◌-◌, ◌*◌, ◌/◌, ◌%◌, ◌^◌, ◌≤◌, ◌<◌}
use mathlib.Core.Path.{◌≡◌, refl, sym, ap, ◌∙◌, subst}
use mathlib.Core.Bool.{Bool}
use mathlib.Core.List.{List}
use mathlib.Core.Logic.{⊎_elim}
use native.Mathlib.Omega.{arith}
use lib.Pow.{pow_pos}
use Rattle.wire.specs.Numbers.{limit, width_of}
use Rattle.window.proofs.Sixteen.{one_at}
use Rattle.seen.specs.declared.Seen.{Seen}
use Rattle.ack.specs.Walk.{marks_from}
use Rattle.ack.proofs.Ranges.{Begun, begun, missing, size, low, first-is, size_none}
use Rattle.ack.proofs.Lent.{ranged, nothing-below}
use Rattle.ack.proofs.Ends.{cut_at}
use Rattle.ack.proofs.Fitting.{narrow, first-size, step-sizes}
use Rattle.ack.proofs.Walking.{Answer, first_ends, walk_begins, walk-all, walk-full, walk-over, walk-next}
use Rattle.ack.proofs.walk.put_ranges.Goals as goal
use Rattle.ack.proofs.walk.put_ranges.Goals.{Else-range-eq0, Else-told-after, Start}

-- what is reported
abbrev marks : Start → Seen
marks c = marks_from c.args.words.now c.args.told.end c.args.told.least

started : (c : Start) → Begun (marks c)
started c = begun (marks c) c.requires.0 c.requires.1

starts : (c : Start) → c.args.low ≡ low (marks c) 1024
starts c = first_ends (started c) c.requires.4

holds : (c : Start) → c.args.most ≤ limit
holds c = ⊎_elim (λ q. omega (arith, q)) (λ q. omega (arith, q.0)) c.requires.7

-- the answer, below the place that the code was given
answers : (c : Start) {ys : List ℕ} {end count : ℕ} {over : Bool}
    → Answer (marks c) c.args.told.delay c.args.told.room c.args.most c.args.from (low (marks c) 1024) c.args.buf.now ys end count over
    → Answer (marks c) c.args.told.delay c.args.told.room c.args.most c.args.from c.args.low c.args.buf.now ys end count over
answers c {ys} {end} {count} {over} a =
    subst (λ (p : ℕ). Answer (marks c) c.args.told.delay c.args.told.room c.args.most c.args.from p c.args.buf.now ys end count over) (sym (starts c)) a

-- the range that a turn found
another : (c : Else-range-eq0)
    → (c.range_at-range.result.missing ≡ missing (marks_from c.args.words.now c.args.told.end c.args.told.least) c.loop-place.place)
    × (c.range_at-range.result.size ≡ size (marks_from c.args.words.now c.args.told.end c.args.told.least) c.loop-place.place)
another c = let a = c.args in ranged a.words.now a.told.end a.told.least c.loop-place.place _ _ (c.range_at-range.ensures.0, c.range_at-range.ensures.1)

sizes : (c : Else-range-eq0)
    → (0 < c.range_at-range.result.missing) × (0 < c.range_at-range.result.size)
    × (c.range_at-range.result.missing + c.range_at-range.result.size ≤ c.loop-place.place)
    × (c.loop-place.place < 1024)
sizes c =
    let a = c.args in
    let w = c.loop-place.invariant.0 in
    let x = step-sizes (begun (marks_from a.words.now a.told.end a.told.least) c.requires.0 c.requires.1) c.requires.2 w.counted (another c).0 (another c).1 c.if-range-eq0.false in
    (x.0, x.1, x.2, w.counted.at.below)

fits : (c : Else-told-after) → c.loop-place.at + width_of (c.range_at-range.result.missing - 1) + width_of (c.range_at-range.result.size - 1) ≤ c.args.told.room
fits c = omega (arith, c.short_width.ensures, c.short_width-in-loop-place.ensures, c.if-told-after.false)

pub others_in-word-requires : goal.others_in-word-requires
others_in-word-requires c = omega (arith, c.requires.4, first-size (started (goal.at.others_in-word-requires c).Start), first-is (started (goal.at.others_in-word-requires c).Start) _ refl)

pub overflow_shl-left : goal.overflow_shl-left
overflow_shl-left c = omega arith

-- the marks of the word below the place
abbrev mask : ℕ → ℕ
mask low = (1 * 2 ^ (low % 64)) % 2 ^ 64

masked : (low : ℕ) → mask low ≡ 2 ^ (low - 64 * (low / 64))
masked low = let e : low % 64 ≡ low - 64 * (low / 64) = omega arith in one_at (low % 64) (omega arith) ∙ ap (λ (n : ℕ). 2 ^ n) e

pub nonzero_rem-left-2 : goal.nonzero_rem-left-2
nonzero_rem-left-2 c = let a = c.args in rw (masked a.low) (pow_pos (a.low - 64 * (a.low / 64)))

pub loop-place-init : goal.loop-place-init
loop-place-init c =
    let a = c.args in (
      rw (starts (goal.at.loop-place-init c).Start) (walk_begins (started (goal.at.loop-place-init c).Start) c.requires.2 a.buf.now c.requires.5 c.requires.6 (holds (goal.at.loop-place-init c).Start)),
      λ l. rw (masked a.low) (cut_at c.others_in-word.ensures (omega arith) (omega arith)),
    )

pub range_at-range-requires : goal.range_at-range-requires
range_at-range-requires c = (c.loop-place-test.true, c.loop-place.invariant.1 c.loop-place-test.true)

pub overflow_sub-gap : goal.overflow_sub-gap
overflow_sub-gap c = omega (arith, sizes (goal.at.overflow_sub-gap c).Else-range-eq0)

pub overflow_sub-more : goal.overflow_sub-more
overflow_sub-more c = omega (arith, sizes (goal.at.overflow_sub-more c).Else-range-eq0)

pub short_width-requires : goal.short_width-requires
short_width-requires c = omega (arith, sizes (goal.at.short_width-requires c).Else-range-eq0)

pub overflow_add-after : goal.overflow_add-after
overflow_add-after c = omega (arith, narrow _ c.short_width.ensures, c.loop-place.invariant.0.within, c.requires.3)

pub short_width-requires-in-loop-place : goal.short_width-requires-in-loop-place
short_width-requires-in-loop-place c = omega (arith, sizes (goal.at.short_width-requires-in-loop-place c).Else-range-eq0)

pub overflow_add-after-in-loop-place : goal.overflow_add-after-in-loop-place
overflow_add-after-in-loop-place c =
    omega (arith, narrow _ c.short_width.ensures, narrow _ c.short_width-in-loop-place.ensures, c.loop-place.invariant.0.within, c.requires.3)

pub returns-then-count-most : goal.returns-then-count-most
returns-then-count-most c =
    let o = (goal.at.returns-then-count-most c).Start in
    let r = another (goal.at.returns-then-count-most c).Else-range-eq0 in
    answers o
    (walk-over (started o) c.requires.2 c.loop-place.invariant.0 r.0 r.1 c.if-range-eq0.false c.requires.7 (fits (goal.at.returns-then-count-most c).Else-told-after) c.if-count-most.true c.short_width.ensures c.short_width-in-loop-place.ensures)

pub put_short-next-requires : goal.put_short-next-requires
put_short-next-requires c =
    (omega (arith, sizes (goal.at.put_short-next-requires c).Else-range-eq0), omega (arith, fits (goal.at.put_short-next-requires c).Else-told-after, c.loop-place.invariant.0.long, c.requires.3))

pub put_short-at-requires : goal.put_short-at-requires
put_short-at-requires c =
    (omega (arith, sizes (goal.at.put_short-at-requires c).Else-range-eq0), omega (arith, fits (goal.at.put_short-at-requires c).Else-told-after, c.loop-place.invariant.0.long, c.requires.3, c.put_short-next.ensures.0, c.put_short-next.auto.buf))

pub overflow_sub-place : goal.overflow_sub-place
overflow_sub-place c = omega (arith, sizes (goal.at.overflow_sub-place c).Else-range-eq0)

pub overflow_sub-place-in-loop-place : goal.overflow_sub-place-in-loop-place
overflow_sub-place-in-loop-place c = omega (arith, sizes (goal.at.overflow_sub-place-in-loop-place c).Else-range-eq0)

pub overflow_add-count : goal.overflow_add-count
overflow_add-count c = omega (arith, c.loop-place.invariant.0.counted.few)

pub loop-place-smaller : goal.loop-place-smaller
loop-place-smaller c = omega (arith, sizes (goal.at.loop-place-smaller c).Else-range-eq0)

pub loop-place-preserved : goal.loop-place-preserved
loop-place-preserved c =
    let o = (goal.at.loop-place-preserved c).Start in
    let r = another (goal.at.loop-place-preserved c).Else-range-eq0 in (
      walk-next (started o) c.requires.2 c.loop-place.invariant.0 r.0 r.1 c.if-range-eq0.false (fits (goal.at.loop-place-preserved c).Else-told-after) c.if-count-most.false (holds o) c.requires.3
          c.put_short-next.ensures.0 c.put_short-next.ensures.1 c.put_short-at.ensures.0 c.put_short-at.ensures.1 c.put_short-next.auto.buf c.put_short-at.auto.buf,
      c.range_at-range.ensures.2,
    )

pub returns-after-loop-place : goal.returns-after-loop-place
returns-after-loop-place c =
    let o = (goal.at.returns-after-loop-place c).Start in
    answers o
    (walk-all (started o) c.requires.2 c.loop-place.invariant.0 (nothing-below c.args.words.now c.args.told.end c.args.told.least c.loop-place.place c.loop-place-test.false))

pub returns-then-range-eq0 : goal.returns-then-range-eq0
returns-then-range-eq0 c =
    let o = (goal.at.returns-then-range-eq0 c).Start in
    let a = c.args in
    let r = ranged a.words.now a.told.end a.told.least c.loop-place.place _ _ (c.range_at-range.ensures.0, c.range_at-range.ensures.1) in
    answers o
    (walk-all (started o) c.requires.2 c.loop-place.invariant.0 (size_none (marks o) c.loop-place.place (omega (arith, r.1, c.if-range-eq0.true))))

pub returns-then-told-after : goal.returns-then-told-after
returns-then-told-after c =
    let o = (goal.at.returns-then-told-after c).Start in
    let r = another (goal.at.returns-then-told-after c).Else-range-eq0 in
    answers o
    (walk-full (started o) c.requires.2 c.loop-place.invariant.0 r.0 r.1 c.if-range-eq0.false c.requires.7 (omega (arith, c.if-told-after.true, c.short_width.ensures, c.short_width-in-loop-place.ensures)))
