-- `pieces::header::header_in` meets its contract. The loop's invariant: so many metrics were laid, and the places behind them are 0.
-- Assumes nothing.
use Prim.Native.Nat.{◌<◌, min, zero-le}
use mathlib.Core.Path.{◌≡◌}
use native.Mathlib.Omega.{arith}
use borrow.Author.Rules.{rules}
use mir.Syntax.{w64}
use mir.ValLaws.{to_z-of_z}
use lib.ListN.{get_or}
use Rattle.report.specs.Layout.{at_metrics}
use Rattle.report.specs.Limits.{metric_places}
use Rattle.pieces.proofs.Showing.{kind_at, value_at, none-shown, more-shown, all_shown, header-stands}
use Rattle.pieces.proofs.header.header_in.Goals as goal

pub loop-i-init : goal.loop-i-init
loop-i-init c = (zero-le, (none-shown (kind_at c.args.places.now), none-shown (value_at c.args.places.now)))

pub loop-i-preserved : goal.loop-i-preserved
loop-i-preserved c =
    let l = c.loop-i in
    let places = c.args.places.now in
    let h : l.i < metric_places = omega (arith, c.loop-i-test.true, c.min-shown.ensures) in
    (search rules, (more-shown (kind_at places) l.i l.kinds h l.invariant.1.0, more-shown (value_at places) l.i l.values h l.invariant.1.1))

pub returns : goal.returns
returns c = λ ns n e.
    let places = c.args.places.now in
    let l = c.loop-i in
    let a = c.average-mean in
    let z : l.i ≡ min (get_or places at_metrics 0) metric_places = omega (arith, l.invariant.0, c.loop-i-test.false, c.min-shown.ensures) in
    rw (
      to_z-of_z w64 a.result (record { sfits = a.type_inv }),
      a.ensures,
      all_shown (kind_at places) l.i (get_or places at_metrics 0) l.kinds z l.invariant.1.0,
      all_shown (value_at places) l.i (get_or places at_metrics 0) l.values z l.invariant.1.1,
      c.saturating_sub-last.ensures,
    )
    (header-stands ns c.args.count places n e)
