-- `totals::count_statuses` meets its contract. The loop's invariant: of each status those counted and those still to be counted are all.
-- Assumes nothing.
use Rattle.totals.proofs.Counting.{Counted}
use Rattle.totals.proofs.adding.count_statuses.Given as goal

abbrev pub invariant-loop-i : goal.invariant-loop-i
invariant-loop-i l =
    (Counted 0 l.records l.n l.i l.received) × (Counted 1 l.records l.n l.i l.late) × (Counted 2 l.records l.n l.i l.lost) × (Counted 3 l.records l.n l.i l.partial)
