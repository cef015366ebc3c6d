-- Reader and companion agree: both answer what one judgement of the report finds.
-- Assumes nothing.
use Prim.Native.Nat.{ℕ, ◌-◌, ◌*◌, ◌<◌}
use mathlib.Core.Path.{◌≡◌, refl, ap}
use mathlib.Core.List.{List, []}
use native.Mathlib.Omega.{arith}
use lib.ListN.{length, drop, length-take, length-drop}
use lib.Seq.{take_all}
use Rattle.entries.specs.Profiles.{record_size}
use Rattle.entries.specs.declared.Profile.{Profile}
use Rattle.entries.specs.Fitting.{last_of}
use Rattle.entries.specs.Exactly.{Obeys}
use Rattle.entries.proofs.Profiles.{sized}
use Rattle.entries.proofs.Sizes.{whole-many}
use Rattle.entries.proofs.Exactly.{entries-judged}
use Rattle.report.specs.Header.{count_of, header_of}
use Rattle.report.specs.Reader.{Reading, Whole, Stopped, part_of, report_reading, report_of, read_report, entries_in, entries_of}
use Rattle.report.specs.Exactly.{Sound}
use Rattle.report.specs.EachWay.{BothAgree}
use Rattle.report.proofs.Exactly.{report-reads, sound-judged}

none-refused : (p : Profile) (s : List ℕ) (r : Reading) → ((report_of r).refusal ≡ 0 → ⊥) → entries_in p s r ≡ []
unfolding report_of entries_in
none-refused p s (Whole ns at) n = absurd (n refl)
none-refused p s (Stopped refusal) n = refl

module _ (p : Profile) (s : List ℕ) (e : (read_report p s).refusal ≡ 0) where
  x : Sound p s
  x = (report-reads p s).accepted.0 e

  count : (read_report p s).header.entries ≡ count_of x.ns
  unfolding report_of header_of
  count = ap (λ (r : Reading). (report_of r).header.entries) (sound-judged p s x)

  entries : entries_of p s ≡ part_of p s x.ns x.at
  unfolding entries_in
  entries = ap (entries_in p s) (sound-judged p s x)

  many : length (entries_of p s) ≡ record_size p * (read_report p s).header.entries
  many = rw (count, entries, length-take, length-drop) (omega (arith, x.end))

  good : (i : ℕ) → i < (read_report p s).header.entries → Obeys p (entries_of p s) i
  good i l = (entries-judged p (entries_of p s)).0 (rw entries x.good) i (rw (whole-many (record_size p) (sized p) (length (entries_of p s)) (read_report p s).header.entries many) l)

  part : entries_of p s ≡ last_of p s (read_report p s).header.entries
  part =
      let n : length s - record_size p * count_of x.ns ≡ x.at = omega (arith, x.end) in
      rw (count, n, entries) (take_all (record_size p * count_of x.ns) (drop x.at s) (rw length-drop (omega (arith, x.end))))

pub both-agree : BothAgree
both-agree p s = record { refused = none-refused p s (report_reading p s); many = many p s; each = good p s; part = part p s }
