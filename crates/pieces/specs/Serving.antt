-- What some bytes of a part do, from one place in a call to the next: so a call is made of few steps, each by whole fields and records.
use Rattle.std.specs.Prelude.{ℕ, zero, suc, ◌+◌, ◌-◌, ◌*◌, ◌≤◌, ◌<◌, ◌≡◌, ◌⊎◌, Err, List, [], length, get_or, take, drop}
use Rattle.wire.specs.Bytes.{splice}
use Rattle.wire.specs.Numbers.{read_number}
use Rattle.wire.specs.declared.Refusal.TheVariants.{Ends}
use Rattle.entries.specs.Limits.{most_entries}
use Rattle.entries.specs.Profiles.{record_size, most_metrics}
use Rattle.entries.specs.declared.Profile.{Profile}
use Rattle.report.specs.Layout.{at_metrics}
use Rattle.report.specs.Limits.{most_numbers}
use Rattle.report.specs.Header.{wanted_of}
use Rattle.uncut.specs.State.{State, Numbers, Records, Counting, Refused, Accepted}
use Rattle.uncut.specs.Step.{after, delivered}
use Rattle.uncut.specs.Cutting.{taking}
use Rattle.pieces.specs.Record.{Stand, Moved, most_carried, state_in}

-- what holds of a state that is served: what is carried is unfinished
abbrev pub Ready : Profile → State → Type 0
Ready p (Numbers ns held) = ((length ns < wanted_of p ns) × (read_number held 0 ≡ Err Ends)) × (get_or ns at_metrics 0 ≤ most_metrics p)
Ready p (Records ns n last above held) = (length held < record_size p) × (n ≤ most_entries)
Ready p (Counting ns n) = Unit
Ready p (Refused n) = Unit
Ready p (Accepted ns) = Unit

-- and of the words: within their places
pub record Sits (p : Profile) (s : Stand) : Type 0 where
  pub count : s.count ≤ most_numbers
  pub carried : s.carried ≤ most_carried
  pub numbers : length s.numbers ≡ most_numbers
  pub held : length s.held ≡ most_carried
  pub ready : Ready p (state_in s)

-- the first k bytes of a part lead from one state to another, and the rest of the call goes on from there
pub record Went (p : Profile) (room : ℕ) (st : State) (part : List ℕ) (k : ℕ) (st' : State) : Type 0 where
  pub within : k ≤ length part
  pub comes : after p st (take k part) ≡ st'
  pub goes : taking p room st part ≡ k + taking p (room - length (delivered p st (take k part))) st' (drop k part)

-- and the records that they bring stand at the start of the buffer
pub record Served (p : Profile) (st : State) (part out : List ℕ) (m : Moved) (out' : List ℕ) : Type 0 where
  pub went : Went p (length out) st part m.taken (state_in m.now)
  pub bytes : out' ≡ splice out 0 (delivered p st (take m.taken part))
  pub many : record_size p * m.records ≡ length (delivered p st (take m.taken part))
  pub fits : record_size p * m.records ≤ length out
  pub sits : Sits p m.now

-- the header is whole, or all bytes were taken
abbrev pub Past : State → List ℕ → Type 0
Past (Numbers ns held) rest = rest ≡ []
Past (Records ns n last above held) rest = Unit
Past (Counting ns n) rest = Unit
Past (Refused n) rest = Unit
Past (Accepted ns) rest = Unit

-- and a record that is carried cannot be made whole by the rest
abbrev pub Begun : Profile → State → List ℕ → Type 0
Begun p (Numbers ns held) rest = rest ≡ []
Begun p (Records ns zero last above held) rest = Unit
Begun p (Records ns (suc n) last above held) rest = (held ≡ []) ⊎ (length held + length rest < record_size p)
Begun p (Counting ns n) rest = Unit
Begun p (Refused n) rest = Unit
Begun p (Accepted ns) rest = Unit

-- no further record can be made whole by the rest, or the buffer is full
abbrev pub Short : Profile → ℕ → State → List ℕ → Type 0
Short p room (Numbers ns held) rest = rest ≡ []
Short p room (Records ns zero last above held) rest = Unit
Short p room (Records ns (suc n) last above held) rest = (room < record_size p) ⊎ (length held + length rest < record_size p)
Short p room (Counting ns n) rest = Unit
Short p room (Refused n) rest = Unit
Short p room (Accepted ns) rest = Unit
