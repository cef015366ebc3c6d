-- `totals::Totals::with` meets its contract: the sums are taken out, grow and are put back.
-- Assumes nothing.
use native.Mathlib.Omega.{arith}
use borrow.Author.Rules.{rules}
use mir.Val.{Fits}
use mir.Syntax.{w64}
use lib.ListN.{get_or}
use Rattle.totals.proofs.Totals.with.Goals as goal

pub add_in-requires : goal.add_in-requires
add_in-requires c =
    let a = c.args in (
      c.requires,
      record {
        sums-long = search rules;
        marks-long = search rules;
        words = λ i h. let f : Fits w64 (get_or a.self.sums i 0) = search rules in omega (arith, f.fits);
      },
    )
