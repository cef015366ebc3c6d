-- `newest::search` meets its contract. The loop's invariant: searching on from here gives the answer of the whole search.
-- Assumes nothing.
use mathlib.Core.Path.{◌≡◌}
use Rattle.newest.specs.Search.{searched, newest_in}
use Rattle.newest.proofs.search.search.Given as goal

abbrev pub invariant-loop-index : goal.invariant-loop-index
invariant-loop-index l = searched l.profile l.records l.index l.top l.next ≡ newest_in l.profile l.records l.count
