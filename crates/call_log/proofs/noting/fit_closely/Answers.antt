-- `call_log::fit_closely` meets its contract.
-- Assumes nothing.
use native.Mathlib.Omega.{arith}
use lib.ListN.{length-take}
use Rattle.call_log.proofs.Room.{fits_not, fits-copied}
use Rattle.call_log.proofs.noting.fit_closely.Goals as goal

pub returns-then-line-end : goal.returns-then-line-end
returns-then-line-end c = fits_not _ _ _ _ _ c.put_line-end.ensures.0 c.if-line-end.true

pub slice_bounds-put_text-end : goal.slice_bounds-put_text-end
slice_bounds-put_text-end c = rw length-take (omega arith)

pub put_text-requires : goal.put_text-requires
put_text-requires c = rw length-take (omega arith)

pub returns : goal.returns
returns c = fits-copied _ _ _ _ _ _ _ c.put_line-end.ensures.0 c.put_text.ensures.0
