-- `totals::count_statuses` meets its contract. The loop's invariant: of each status those counted and those still to be counted are all.
-- Assumes nothing.
use Prim.Native.Nat.{◌/◌}
use native.Mathlib.Omega.{arith}
use lib.ListN.{length}
use Rattle.totals.proofs.Counting.{counted_none, counted-few, counted_next, counted-all}
use Rattle.totals.proofs.adding.count_statuses.Goals as goal

pub loop-i-init : goal.loop-i-init
loop-i-init c =
    let s = c.args.records.now in
    let n = length s / 16 in
    (counted_none 0 s n, counted_none 1 s n, counted_none 2 s n, counted_none 3 s n)

pub overflow_add-received : goal.overflow_add-received
overflow_add-received c =
    let s = c.args.records.now in
    let l = c.loop-i in
    let o = c.one_if-received in
    record { fits = omega (arith, c.requires, c.loop-i-test.true, counted-few 0 s (length s / 16) l.i l.received l.invariant.0 o.result o.ensures) }

pub overflow_add-late : goal.overflow_add-late
overflow_add-late c =
    let s = c.args.records.now in
    let l = c.loop-i in
    let o = c.one_if-late in
    record { fits = omega (arith, c.requires, c.loop-i-test.true, counted-few 1 s (length s / 16) l.i l.late l.invariant.1 o.result o.ensures) }

pub overflow_add-lost : goal.overflow_add-lost
overflow_add-lost c =
    let s = c.args.records.now in
    let l = c.loop-i in
    let o = c.one_if-lost in
    record { fits = omega (arith, c.requires, c.loop-i-test.true, counted-few 2 s (length s / 16) l.i l.lost l.invariant.2 o.result o.ensures) }

pub overflow_add-partial : goal.overflow_add-partial
overflow_add-partial c =
    let s = c.args.records.now in
    let l = c.loop-i in
    let o = c.one_if-partial in
    record { fits = omega (arith, c.requires, c.loop-i-test.true, counted-few 3 s (length s / 16) l.i l.partial l.invariant.3 o.result o.ensures) }

pub loop-i-preserved : goal.loop-i-preserved
loop-i-preserved c =
    let s = c.args.records.now in
    let n = length s / 16 in
    let l = c.loop-i in
    let h = c.loop-i-test.true in (
      counted_next 0 s n l.i l.received l.invariant.0 c.one_if-received.result c.one_if-received.ensures h,
      counted_next 1 s n l.i l.late l.invariant.1 c.one_if-late.result c.one_if-late.ensures h,
      counted_next 2 s n l.i l.lost l.invariant.2 c.one_if-lost.result c.one_if-lost.ensures h,
      counted_next 3 s n l.i l.partial l.invariant.3 c.one_if-partial.result c.one_if-partial.ensures h,
    )

pub returns : goal.returns
returns c =
    let s = c.args.records.now in
    let n = length s / 16 in
    let l = c.loop-i in
    let h = c.loop-i-test.false in
    rw (counted-all 0 s n l.i l.received l.invariant.0 h, counted-all 1 s n l.i l.late l.invariant.1 h, counted-all 2 s n l.i l.lost l.invariant.2 h, counted-all 3 s n l.i l.partial l.invariant.3 h)
