-- `week::week` meets its contract: what is laid out goes by what was read.
use Rattle.week.proofs.Turning.{printed-by}
use Rattle.week.proofs.week.Goals as goal

pub returns : goal.returns
returns g c = (printed-by c.read_week-place.result c.read_week-place.ensures c.lay_out.ensures.0, c.lay_out.ensures.1)
