-- The last of good records are good: record i of them is a later record of the whole.
-- Assumes nothing.
use Rattle.std.proofs.Common.{◌≡◌, ℕ, ◌+◌, ◌-◌, ◌*◌, ◌/◌, ◌<◌, true, List, Ok, length, drop, ap, ◌∙◌, arith, length-drop, drop-drop}
use Rattle.wire.specs.Refusals.{refusal_number}
use Rattle.entries.specs.Profiles.{record_size}
use Rattle.entries.specs.Entries.{record_at, entry_of, entries_good, entries_fault}
use Rattle.entries.specs.Fitting.{last_of}
use Rattle.entries.specs.Exactly.{Obeys}
use Rattle.entries.specs.declared.Profile.{Profile}
use Rattle.entries.proofs.Sizes.{further, later, before_last}
use Rattle.entries.proofs.Profiles.{sized}
use Rattle.entries.proofs.Exactly.{entries-judged, fault-judged}

module _ (p : Profile) (s : List ℕ) where
  later-record : (d i : ℕ) → record_at p (drop (d * record_size p) s) i ≡ record_at p s (d + i)
  later-record d i = rw (drop-drop, further (record_size p) d i)

  later-good : (d : ℕ) → entries_good p s ≡ true → entries_good p (drop (d * record_size p) s) ≡ true
  later-good d g = (entries-judged p (drop (d * record_size p) s)).1 (λ i l. at i (later (record_size p) (sized p) (length s) d i (rw (length-drop (d * record_size p) s) at l)))
    where
      at : (i : ℕ) → d + i < length s / record_size p → Obeys p (drop (d * record_size p) s) i
      at i l =
          let x = (entries-judged p s).0 g (d + i) l in
          record {
            group = x.group;
            object = x.object;
            status = x.status;
            age = x.age;
            entry = ap (entry_of p) (later-record d i) ∙ x.entry;
            rises = λ j e. rw (later-record d j) (x.rises (d + j) (omega arith));
          }

  -- the last k of records that bring no refusal
  pub last-good : (k : ℕ) → entries_fault p s ≡ Ok tt → entries_good p (last_of p s k) ≡ true
  last-good k e =
      let f = (fault-judged p s).accepted.0 (ap refusal_number e) in
      rw (before_last (record_size p) (sized p) (length s) k f.even) (later-good (length s / record_size p - k) f.good)
