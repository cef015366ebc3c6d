-- The ends that an accepted packet leaves are in range.
-- Assumes nothing.
use Prim.Native.Nat.{ℕ, ◌+◌, ◌≤◌, max}
use mathlib.Core.Path.{◌≡◌, ap, ◌∙◌}
use mathlib.Core.Bool.{true}
use native.Mathlib.Nat.{max-le, le-max_right}
use native.Mathlib.Omega.{arith}
use Rattle.wire.specs.Numbers.{limit}
use Rattle.seen.proofs.After.{seen_end}
use Rattle.seen.specs.declared.Micros.{Micros}
use Rattle.seen.specs.declared.Seen.{Seen}
use Rattle.receiver.specs.declared.Pending.{Pending}
use Rattle.receiver.specs.declared.Receiver.{Receiver}
use Rattle.receiver.specs.Record.{consistent}
use Rattle.seen.specs.Received.{seen_after}
use Rattle.receiver.specs.Packet.{InRange, pending_after}
use Rattle.receiver.proofs.Clauses.{consistent-exactly}

-- what the causes ask, of a consistent record and a packet that obeys 5
pub in-range : (r : Receiver) (n : ℕ) (time : Micros) (s : Seen) (p : Pending) → consistent r ≡ true → n ≤ limit → s ≡ seen_after r.seen n time → p ≡ pending_after r.pending n time
    → InRange s p.end
unfolding pending_after
in-range r n time s p e h es ep =
    let k = (consistent-exactly r).0 e in
    let le : r.seen.end ≤ limit + 1 = k.largest in
    let lp : r.pending.end ≤ limit + 1 = omega (arith, k.unacknowledged) in
    let ln : n + 1 ≤ limit + 1 = omega arith in
    let pe : p.end ≡ max r.pending.end (n + 1) = ap (λ (q : Pending). q.end) ep in
    let se : s.end ≡ max r.seen.end (n + 1) = ap (λ (q : Seen). q.end) es ∙ seen_end r.seen n time in
    record {
      some = omega (arith, le-max_right r.pending.end (n + 1));
      unacknowledged = rw pe (max-le lp ln);
      largest = rw se (max-le le ln);
    }
