-- `ack::walk::put_short` meets its contract: one byte, or two.
-- Assumes nothing.
use native.Mathlib.Omega.{arith}
use lib.ListN.{length-set}
use Rattle.ack.proofs.Short.{one_width, two-width, one-put, two-put}
use Rattle.ack.proofs.walk.put_short.Goals as goal

pub bounds-buf-at : goal.bounds-buf-at
bounds-buf-at c = omega (arith, c.requires, one_width c.args.v c.if-v-lt64.true)

pub returns-then-v-lt64 : goal.returns-then-v-lt64
returns-then-v-lt64 c = one-put c.args.buf.now c.args.at c.args.v c.if-v-lt64.true (omega (arith, c.requires, one_width c.args.v c.if-v-lt64.true))

pub bounds-buf-at-2 : goal.bounds-buf-at-2
bounds-buf-at-2 c = omega (arith, c.requires, two-width c.args.v c.if-v-lt64.false (omega (arith, c.requires)))

pub bounds-buf-at-3 : goal.bounds-buf-at-3
bounds-buf-at-3 c = rw length-set (omega (arith, c.requires, two-width c.args.v c.if-v-lt64.false (omega (arith, c.requires))))

pub returns : goal.returns
returns c =
    let a = c.args in
    two-put a.buf.now a.at a.v c.if-v-lt64.false (omega (arith, c.requires)) (omega (arith, c.requires, two-width a.v c.if-v-lt64.false (omega (arith, c.requires))))
