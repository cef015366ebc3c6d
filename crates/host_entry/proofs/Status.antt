-- The number that a host gets for a status is the one that the record holds.
-- Assumes nothing.
use Prim.Native.Nat.{ℕ}
use mathlib.Core.Path.{◌≡◌, refl}
use Rattle.entries.specs.Entries.{status_number, entry, with_status}
use Rattle.entries.specs.declared.Status.{Status}
use Rattle.entries.specs.declared.Status.TheVariants.{Received, Late, NotReceived, Partial}

-- the status's number, read as a record's status, is the status
pub status-told : (group object age : ℕ) (status : Status) → with_status group object (status_number status) age ≡ entry group object status age
status-told group object age Received = refl
status-told group object age Late = refl
status-told group object age NotReceived = refl
status-told group object age Partial = refl
