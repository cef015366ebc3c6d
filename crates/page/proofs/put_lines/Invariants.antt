-- `totals::put_lines` meets its contract. The loop's invariant: the lines left, behind those written, are the whole.
-- Assumes nothing.
use Rattle.page.proofs.Printing.{Printing}
use Rattle.page.proofs.put_lines.Given as goal

abbrev pub invariant-loop-place : goal.invariant-loop-place
invariant-loop-place l = Printing (record { sums = l.sums; full = l.full }) l.initial.buf l.buf l.at l.place
