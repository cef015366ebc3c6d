-- A record is consistent after its opening, and every call leaves it so.
use Rattle.std.specs.Prelude.{ℕ, ◌≡◌, true, List, length}
use Rattle.sent.specs.Record.{consistent}
use Rattle.sent.specs.Calls.{opened, send_after}
use Rattle.sent.specs.Heard.{hear}

-- a record has 36 words
pub record Kept : Type 0 where
  pub opening : consistent opened ≡ true
  pub send : (r : List ℕ) → length r ≡ 36 → consistent r ≡ true → consistent (send_after r) ≡ true
  pub heard : (r s : List ℕ) (ackedRoom lostRoom : ℕ) → consistent r ≡ true → consistent (hear r s ackedRoom lostRoom).words ≡ true
