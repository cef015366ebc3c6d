-- Totals: what the four totals say of the accepted packets, and that they never fall (02, No. 2). That each is `total_of` of the list is Told.
use Rattle.std.specs.Prelude.{ℕ, ◌+◌, ◌≤◌, ◌<◌, ◌≡◌, List, length}
use Rattle.wire.specs.Numbers.{limit}
use Rattle.receiver.specs.declared.Millis.{Millis}
use Rattle.seen.specs.declared.Micros.{Micros}
use Rattle.ecn.specs.declared.Totals.{Totals}
use Rattle.receiver.specs.declared.Receiver.{Receiver}
use Rattle.promises.specs.Sequence.{Call, Calls, step, in_order, after, opening}
use Rattle.promises.specs.Accepted.{accepted_of, packets}

-- none stands at its limit
pub record BelowLimit (t : Totals) : Type 0 where
  pub ect0 : t.ect0 < limit
  pub ect1 : t.ect1 < limit
  pub ce : t.ce < limit
  pub unmarked : t.unmarked < limit

-- "while none stands at its limit the four add up to the number accepted"
abbrev pub AddUp : Type 0
AddUp =
    (t q : ℕ) (m : Millis) (u : Micros) (cs : Calls) → BelowLimit (after (opening t q m u) cs).totals
    → let n = (after (opening t q m u) cs).totals in n.ect0 + n.ect1 + n.ce + n.unmarked ≡ length (packets (accepted_of (opening t q m u) cs))

-- no total of the first is above that of the second
pub record NoneFell (a b : Totals) : Type 0 where
  pub ect0 : a.ect0 ≤ b.ect0
  pub ect1 : a.ect1 ≤ b.ect1
  pub ce : a.ce ≤ b.ce
  pub unmarked : a.unmarked ≤ b.unmarked

-- the totals never fall, at one call on any record and along any calls
pub record TotalsNeverFall : Type 0 where
  pub one : (r : Receiver) (c : Call) → NoneFell r.totals (step r c).next.totals
  pub along : (r : Receiver) (cs : Calls) (l : List Call) → NoneFell (after r cs).totals (after r (in_order cs l)).totals
