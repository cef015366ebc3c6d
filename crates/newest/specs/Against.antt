-- The newest lost object beside the full reading, and that nothing before it is read.
use Rattle.std.specs.Prelude.{ℕ, ◌+◌, ◌*◌, ◌<◌, ◌≡◌, ◌↔◌, Err, List, length, take, drop}
use Rattle.wire.specs.Bytes.{Octets}
use Rattle.wire.specs.Refusals.{refusal_number}
use Rattle.wire.specs.declared.Refusal.TheVariants.{BrokenEntry, BytesRemain}
use Rattle.entries.specs.Profiles.{record_size}
use Rattle.entries.specs.declared.Profile.{Profile}
use Rattle.report.specs.Header.{count_of}
use Rattle.report.specs.Reader.{part_of, read_report, entries_of}
use Rattle.report.specs.Exactly.{Headed}
use Rattle.newest.specs.Newest.{newest_lost}
use Rattle.newest.specs.Exactly.{Lost, BadRead, Last}

-- "Where it refuses with 12, 13 comes first if bytes remain; then a bad record among those read .. gives 12"; "Others are not noticed"
pub record WhereTwelve (p : Profile) (s : List ℕ) : Type 0 where
  pub ns : List ℕ
  pub at : ℕ
  pub header : Headed p s ns at
  pub remain : at + record_size p * count_of ns < length s → newest_lost p s ≡ Err BytesRemain
  pub bad : at + record_size p * count_of ns ≡ length s → newest_lost p s ≡ Err BrokenEntry ↔ BadRead p (part_of p s ns at) (count_of ns)
  pub unnoticed : at + record_size p * count_of ns ≡ length s → (BadRead p (part_of p s ns at) (count_of ns) → ⊥) → Last p (part_of p s ns at) (count_of ns) (newest_lost p s)
  pub there : (length s < at + record_size p * count_of ns) → ⊥

pub record Against (p : Profile) (s : List ℕ) : Type 0 where
  -- "For every report that the full reader accepts, the answer equals the last such entry of the full reading"
  pub accepted : (read_report p s).refusal ≡ 0 → Last p (entries_of p s) (read_report p s).header.entries (newest_lost p s)
  -- "Where the full reader refuses with a number other than 12, the answer is that number."
  pub refused : ((read_report p s).refusal ≡ 0 → ⊥) → ((read_report p s).refusal ≡ 12 → ⊥) → refusal_number (newest_lost p s) ≡ (read_report p s).refusal
  pub twelve : (read_report p s).refusal ≡ 12 → WhereTwelve p s

abbrev pub AgainstFull : Type 0
AgainstFull = (p : Profile) (s : List ℕ) → Against p s

-- "stop at the first one found": bytes that agree in the header and from a record on that is marked not received, whatever stands before it, have the same answer
pub record Agree (p : Profile) (s t : List ℕ) (at i : ℕ) : Type 0 where
  pub long : length t ≡ length s
  pub front : take at t ≡ take at s
  pub back : drop (at + i * record_size p) t ≡ drop (at + i * record_size p) s

abbrev pub Unread : Type 0
Unread =
    (p : Profile) (s t ns : List ℕ) (at i : ℕ) → Octets s → Headed p s ns at → i < count_of ns → Lost p (part_of p s ns at) i → Agree p s t at i
    → newest_lost p t ≡ newest_lost p s
