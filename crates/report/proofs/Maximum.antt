-- The maximum of the writer: what was kept with less room or a lower one is the end of what is kept now, and what is written holds no more than the maximum.
-- Assumes nothing.
use Prim.Native.Nat.{ℕ, ◌-◌}
use mathlib.Core.Path.{ap, ◌∙◌}
use native.Mathlib.Omega.{arith}
use lib.ListN.{length}
use Rattle.wire.specs.Numbers.{encode_all}
use Rattle.entries.specs.Exactly.{KeptStill}
use Rattle.entries.proofs.Largest.{records-stay}
use Rattle.report.specs.Header.{numbers_of}
use Rattle.report.specs.EachWay.{sent_as}
use Rattle.report.specs.Maximum.{NeverDrops, StaysAccepted, ForOldReceivers}
use Rattle.report.specs.declared.Report.{Report}
use Rattle.report.proofs.Planning.{plan-accepted}
use Rattle.report.proofs.Back.{write_read, write_keeps}
use Rattle.report.proofs.Refusing.{report-writes}

pub never-drops : NeverDrops
never-drops p h entries maximum maximum' xs ys next next' kept kept' m l d q =
    let size : ℕ = length (encode_all (numbers_of p h)) in
    let a = plan-accepted p (numbers_of p h) entries maximum (length xs) next kept d in
    let b = plan-accepted p (numbers_of p h) entries maximum' (length ys) next' kept' q in
    let t : KeptStill p entries kept kept' = rw (a.many, b.many) (records-stay p entries maximum maximum' (length xs - size) (length ys - size) m (omega arith)) in
    record {
      more = t.more;
      last = (write_read p h entries maximum xs next kept d).records ∙ t.last ∙ rw (write_read p h entries maximum' ys next' kept' q).records;
    }

pub stays-accepted : StaysAccepted
stays-accepted p h entries maximum maximum' room room' m l e =
    let a = (report-writes p h entries maximum room).accepted.0 e in
    (report-writes p h entries maximum' room').accepted.1
    (record { front = record { header = a.0.front.header; within = m }; records = a.0.records }, omega (arith, a.1))

pub for-old-receivers : ForOldReceivers
unfolding sent_as
for-old-receivers p h entries maximum xs next kept d =
    let r = (write_read p h entries maximum xs next kept d).header in
    record {
      accepted = ap (λ (x : Report). x.refusal) r;
      few = rw r (write_keeps p h entries maximum xs next kept d).limit;
    }
