-- The entries of a report are the end of the caller's own bytes, from `start` on; of a refused report they are nothing, at its end.
-- Assumes nothing.
use Prim.Native.Nat.{ℕ, ◌+◌, ◌-◌, ◌*◌, ◌≤◌, zero-le}
use mathlib.Core.Path.{◌≡◌, refl, sym, ◌∙◌}
use mathlib.Core.List.{List, []}
use native.Mathlib.Omega.{arith}
use lib.ListN.{length, take, drop, length-drop}
use lib.Seq.{length-take-le}
use Rattle.entries.specs.Profiles.{record_size}
use Rattle.report.specs.Header.{count_of}
use Rattle.entries.specs.declared.Profile.{Profile}
use Rattle.entries.proofs.Profiles.{Which, known, other, which, of-known, of_other}
use Rattle.report.specs.Reader.{Reading, Whole, Stopped, part_of, report_reading as judged, entries_in, entries_of, entries_by}
use Rattle.report.proofs.Whole.{Judged, judged-whole}
use Rattle.host_report.specs.Reports.{entries_found}

module _ (p : Profile) (s : List ℕ) where
  part_length : (ns : List ℕ) (at : ℕ) → Judged p s ns at → length (part_of p s ns at) ≡ length s - at
  part_length ns at j = length-take-le (record_size p * count_of ns) (drop at s) (rw (length-drop at s) (within at (record_size p * count_of ns) (length s) j.end)) ∙ left at (record_size p * count_of ns) (length s) j.end
    where
      within : (a b n : ℕ) → a + b ≡ n → b ≤ n - a
      within a b n e = omega arith

      left : (a b n : ℕ) → a + b ≡ n → b ≡ n - a
      left a b n e = omega arith

  no-longer-in : length (entries_of p s) ≤ length s
  unfolding entries_in
  no-longer-in = by (judged p s) refl
    where
      by : (r : Reading) → judged p s ≡ r → length (entries_in p s r) ≤ length s
      by (Stopped refusal) e = zero-le
      by (Whole ns at) e = let l = part_length ns at (judged-whole p s ns at (sym e)) in omega arith

  part-found-in : take (length (entries_of p s)) (drop (length s - length (entries_of p s)) s) ≡ entries_of p s
  unfolding entries_in
  part-found-in = by (judged p s) refl
    where
      start : (a b n : ℕ) → a + b ≡ n → n - (n - a) ≡ a
      start a b n e = omega arith

      count : (a b n : ℕ) → a + b ≡ n → n - a ≡ b
      count a b n e = omega arith

      by : (r : Reading) → judged p s ≡ r → take (length (entries_in p s r)) (drop (length s - length (entries_in p s r)) s) ≡ entries_in p s r
      by (Stopped refusal) e = refl
      by (Whole ns at) e =
          let j = judged-whole p s ns at (sym e) in
          rw (part_length ns at j, start at (record_size p * count_of ns) (length s) j.end, count at (record_size p * count_of ns) (length s) j.end)

pub no_longer : (profile : ℕ) (s : List ℕ) → length (entries_by profile s) ≤ length s
no_longer profile s = by (which profile)
  where
    by : Which profile → length (entries_by profile s) ≤ length s
    by (known p k) = rw (of-known profile [] (λ p. entries_of p s) p k) (no-longer-in p s)
    by (other o) = rw (of_other profile [] (λ p. entries_of p s) o) zero-le

-- "a part of the caller's own bytes, not a copy"
pub part-found : (profile : ℕ) (s : List ℕ) → take (entries_found profile s).length (drop (entries_found profile s).start s) ≡ entries_by profile s
part-found profile s = by (which profile)
  where
    by : Which profile → take (entries_found profile s).length (drop (entries_found profile s).start s) ≡ entries_by profile s
    by (known p k) = rw (of-known profile [] (λ p. entries_of p s) p k) (part-found-in p s)
    by (other o) = rw (of_other profile [] (λ p. entries_of p s) o)
