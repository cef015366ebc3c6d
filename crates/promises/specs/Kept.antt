-- Kept: every record that the calls hand back is consistent, so refusal 1 never comes.
use Rattle.std.specs.Prelude.{ℕ, ◌≡◌, true}
use Rattle.receiver.specs.declared.Millis.{Millis}
use Rattle.seen.specs.declared.Micros.{Micros}
use Rattle.receiver.specs.declared.Receiver.{Receiver}
use Rattle.receiver.specs.Record.{consistent}
use Rattle.promises.specs.Sequence.{Call, Calls, refused, step, after, replied, opening}

pub record Kept : Type 0 where
  -- an opening is consistent; one that is refused hands back the usual record, which is too
  pub opened : (t q : ℕ) (m : Millis) (u : Micros) → consistent (opening t q m u) ≡ true
  -- every call on a consistent record, accepted or not, hands back a consistent record
  pub call : (r : Receiver) (c : Call) → consistent r ≡ true → consistent (step r c).next ≡ true
  -- so every record along every sequence of calls from an opening is consistent
  pub along : (t q : ℕ) (m : Millis) (u : Micros) (cs : Calls) → consistent (after (opening t q m u) cs) ≡ true
  -- "the record handed in is not consistent": no call along it is refused with 1
  pub never : (t q : ℕ) (m : Millis) (u : Micros) (cs : Calls) (c : Call) → replied (opening t q m u) cs c ≡ refused 1 → ⊥
