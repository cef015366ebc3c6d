-- `report::header_of` meets its contract: each field is the number at its place.
-- Assumes nothing.
use mir.Syntax.{w64}
use mir.ValLaws.{to_z-of_z}
use Rattle.report.specs.Header.{header_of}
use Rattle.report.proofs.headers.header_of.Goals as goal

pub returns : goal.returns
unfolding header_of
returns c =
    rw (
      c.last_of.ensures,
      c.number_at-8.ensures,
      c.number_at-7.ensures,
      c.number_at-6.ensures,
      c.number_at-5.ensures,
      c.number_at-4.ensures,
      c.number_at-3.ensures,
      c.number_at-2.ensures,
      to_z-of_z w64 c.average-mean.result (record { sfits = c.average-mean.type_inv }),
      c.average-mean.ensures,
      c.number_at.ensures,
      c.metrics_of-values.ensures,
      c.metrics_of-kinds.ensures,
    )
