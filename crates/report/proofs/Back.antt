-- What the writer wrote, the reader reads back: the numbers stand where they were written, and the last of good records are good.
-- Assumes nothing.
use Prim.Native.Nat.{ℕ, ◌+◌, ◌-◌, ◌*◌, ◌/◌, ◌%◌, ◌≤◌, min}
use mathlib.Core.Path.{◌≡◌, refl, sym, ap, ◌∙◌, subst}
use mathlib.Core.List.{List, [], ◌∷◌, ◌++◌, append-nil}
use native.Mathlib.Nat.{min-eq_left, zero-add}
use native.Mathlib.Omega.{arith}
use borrow.Author.Tests.{le-leb, le-ltb, eq-eqb, ne_eqb}
use lib.ListN.{length, get_or, take, drop, length-append}
use lib.Seq.{take_all, take_at, drop_at, drop-append_seam}
use Rattle.std.specs.Prelude.{Result, Ok}
use Rattle.wire.specs.Numbers.{encode_all}
use Rattle.wire.specs.declared.Refusal.{Refusal}
use Rattle.wire.specs.Standing.{StandShortest}
use Rattle.wire.proofs.Small.{all_small_lem}
use Rattle.wire.proofs.Standing.{encoded-short}
use Rattle.entries.specs.Limits.{most_entries}
use Rattle.entries.specs.Profiles.{record_size, most_metrics}
use Rattle.entries.specs.declared.Profile.{Profile}
use Rattle.entries.specs.Fitting.{last_of}
use Rattle.entries.proofs.Last.{last-good as records-good}
use Rattle.report.specs.Layout.{at_lost, at_metrics, fixed_numbers}
use Rattle.report.specs.Average.{stored_of}
use Rattle.report.specs.Header.{judge_later, judge, first_fault, wanted_of, count_of, pairs, numbers_of}
use Rattle.report.specs.Reader.{Whole, part_of, judge_entries, report_reading, report_of, read_report, entries_in, entries_of}
use Rattle.report.specs.Writer.{done, write_answer, report_bytes, stored_as, write_bytes}
use Rattle.report.specs.Exactly.{Headed}
use Rattle.report.specs.EachWay.{ReadsBack, WriteRead, Keeps, WriteKeeps}
use Rattle.report.specs.declared.Header.{Header}
use Rattle.report.specs.declared.Written.{Written}
use Rattle.report.proofs.Places.{metrics-small}
use Rattle.report.proofs.Sent.{length_pairs, count-last, metrics-there, header-sent}
use Rattle.report.proofs.Following.{fault-at, fault-last, headed-whole}
use Rattle.report.proofs.Planning.{Accepted, plan-accepted, kept-given, kept-maximum, kept-limit, kept-longest, fits-room, numbers-small, head-size, records-size}

-- ---- the header's numbers, and the entry count behind them

module _ (p : Profile) (h : Header) (e : first_fault p (numbers_of p h) ≡ Ok tt) where
  pub metrics-few : h.metrics ≤ most_metrics p
  unfolding numbers_of
  metrics-few =
      let seven : List ℕ = h.timestamp ∷ h.interval ∷ h.total ∷ h.received ∷ h.late ∷ h.lost ∷ stored_of h.average ∷ [] in
      metrics-small p seven h.metrics (fault-at p [] seven h.metrics (pairs (min h.metrics (most_metrics p)) 0 h.kinds h.values) e) refl

  length-numbers : length (numbers_of p h) ≡ fixed_numbers + 2 * h.metrics
  unfolding numbers_of
  length-numbers = omega (arith, length_pairs (min h.metrics (most_metrics p)) 0 h.kinds h.values, min-eq_left metrics-few)

  module _ (k : ℕ) (l : k ≤ most_entries) where
    last-good : judge p (numbers_of p h) k ≡ Ok tt
    unfolding judge judge_later
    last-good =
        let n = length-numbers in
        let i : (length (numbers_of p h) - fixed_numbers) / 2 ≡ get_or (numbers_of p h) at_metrics 0 = omega (arith, rw append-nil at (metrics-there p h [])) in
        rw (ne_eqb (length (numbers_of p h)) at_lost (λ q. omega arith), ne_eqb (length (numbers_of p h)) at_metrics (λ q. omega arith), le-ltb (length (numbers_of p h)) fixed_numbers (omega arith), ne_eqb (length (numbers_of p h) % 2) 1 (λ q. omega arith), eq-eqb ((length (numbers_of p h) - fixed_numbers) / 2) (get_or (numbers_of p h) at_metrics 0) i, le-leb k most_entries l)

    pub all-good : first_fault p (numbers_of p h ++ (k ∷ [])) ≡ Ok tt
    all-good = fault-last p [] (numbers_of p h) k e last-good

    pub all_wanted : length (numbers_of p h ++ (k ∷ [])) ≡ wanted_of p (numbers_of p h ++ (k ∷ []))
    all_wanted =
        rw (length-append, metrics-there p h (k ∷ []), min-eq_left metrics-few) (omega (arith, length-numbers))

-- ---- the report that was written is judged sound

module _ (p : Profile) (h : Header) (entries : List ℕ) (maximum room next kept : ℕ) (a : Accepted p (numbers_of p h) entries maximum room next kept) where
  abbrev ns : List ℕ
  ns = numbers_of p h ++ (kept ∷ [])

  abbrev bytes : List ℕ
  bytes = encode_all ns ++ last_of p entries kept

  written-headed : Headed p bytes ns (length (encode_all ns))
  written-headed = record {
    stand = subst (StandShortest bytes 0 ns) (zero-add (length (encode_all ns))) (encoded-short ns bytes [] (last_of p entries kept) 0 ((all_small_lem ns).0 (numbers-small a)) refl refl);
    good = all-good p h a.fault kept (kept-limit a);
    whole = all_wanted p h a.fault kept (kept-limit a);
  }

  count-is : count_of ns ≡ kept
  count-is = count-last (numbers_of p h) kept

  written-part : part_of p bytes ns (length (encode_all ns)) ≡ last_of p entries kept
  written-part = rw (count-is, drop-append_seam (encode_all ns) (last_of p entries kept)) (take_all (record_size p * kept) (last_of p entries kept) (omega (arith, records-size a)))

  pub written-length : length bytes ≡ next
  written-length = rw length-append (omega (arith, head-size a, records-size a, a.size))

  pub written-judged : report_reading p bytes ≡ Whole ns (length (encode_all ns))
  unfolding report_reading judge_entries
  written-judged =
      let l : length (encode_all ns) + record_size p * kept ≡ length bytes = rw length-append (omega (arith, records-size a)) in
      let m : length (encode_all ns) + record_size p * kept ≤ length bytes = omega arith in
      ap (judge_entries p bytes) (headed-whole p bytes ns (length (encode_all ns)) written-headed)
      ∙ rw (written-part, count-is, records-good p entries kept a.good, le-leb (length (encode_all ns) + record_size p * kept) (length bytes) m, eq-eqb (length (encode_all ns) + record_size p * kept) (length bytes) l)

  pub written-entries : entries_of p bytes ≡ last_of p entries kept
  unfolding entries_in
  written-entries = ap (entries_in p bytes) written-judged ∙ written-part

-- ---- the lent buffer

module _ (p : Profile) (h : Header) (entries : List ℕ) (maximum : ℕ) (xs : List ℕ) (next kept : ℕ) (d : done next kept ≡ write_answer p h entries maximum (length xs)) where
  a : Accepted p (numbers_of p h) entries maximum (length xs) next kept
  a = plan-accepted p (numbers_of p h) entries maximum (length xs) next kept d

  buffer : write_bytes p h entries maximum xs ≡ report_bytes p (numbers_of p h) entries kept ++ drop (0 + length (report_bytes p (numbers_of p h) entries kept)) xs
  unfolding stored_as
  buffer = ap (λ (w : Result Written Refusal). stored_as p w (numbers_of p h) entries xs) (sym d)

  long : length (report_bytes p (numbers_of p h) entries kept) ≡ next
  long = written-length p h entries maximum (length xs) next kept a

  pub report-part : take next (write_bytes p h entries maximum xs) ≡ report_bytes p (numbers_of p h) entries kept
  report-part = rw buffer (take_at (report_bytes p (numbers_of p h) entries kept) (drop (0 + length (report_bytes p (numbers_of p h) entries kept)) xs) next long)

  behind-part : drop next (write_bytes p h entries maximum xs) ≡ drop next xs
  behind-part =
      let z : 0 + length (report_bytes p (numbers_of p h) entries kept) ≡ next = omega (arith, long) in
      rw buffer (drop_at (report_bytes p (numbers_of p h) entries kept) (drop (0 + length (report_bytes p (numbers_of p h) entries kept)) xs) next long ∙ ap (λ (n : ℕ). drop n xs) z)

  reads-back : ReadsBack p h entries (write_bytes p h entries maximum xs) next kept
  unfolding report_of
  reads-back =
      let j = written-judged p h entries maximum (length xs) next kept a in
      record {
        header = ap (read_report p) report-part ∙ ap report_of j ∙ ap (λ (x : Header). record { refusal = 0; header = x }) (header-sent p h kept (metrics-few p h a.fault));
        records = ap (entries_of p) report-part ∙ written-entries p h entries maximum (length xs) next kept a;
      }

  keeps : Keeps p h entries maximum xs next kept
  keeps = record {
    within = a.within;
    limit = kept-maximum a;
    given = kept-given a;
    size = a.size;
    fits = fits-room a;
    longest = kept-longest a;
    stay = behind-part;
  }

pub write_read : WriteRead
write_read p h entries maximum xs next kept d = reads-back p h entries maximum xs next kept d

pub write_keeps : WriteKeeps
write_keeps p h entries maximum xs next kept d = keeps p h entries maximum xs next kept d
