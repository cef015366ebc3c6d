-- What the report call has worked out is the summary and the entries of the paper, and its tests are the refusals in their order.
-- Assumes nothing.
use Prim.Native.Nat.{ℕ, suc, ◌+◌, ◌-◌, ◌*◌, ◌≤◌, ◌<◌}
use mathlib.Core.Path.{◌≡◌, refl, sym, ap, ◌∙◌}
use mathlib.Core.Bool.{true, false}
use mathlib.Core.List.{List}
use native.Mathlib.Omega.{arith}
use borrow.Author.Tests.{le-leb, lt-leb}
use lib.Dec.{eqb, ltb}
use lib.IntN.{ℤ}
use lib.ListN.{length}
use Rattle.wire.specs.Bytes.{splice}
use Rattle.entries.specs.Profiles.{record_size}
use Rattle.entries.specs.declared.Profile.TheVariants.{One}
use Rattle.report.specs.Header.{empty_header}
use Rattle.report.specs.declared.Header.{Header}
use Rattle.report.specs.declared.Report.{Report}
use Rattle.tracker.specs.Known.{most_objects}
use Rattle.tracker.specs.Record.{interval_of, both_obey, consistent, known}
use Rattle.tracker.specs.Status.{status_at, entries_from, how_many}
use Rattle.tracker.specs.Average.{arrival_times}
use Rattle.tracker.specs.Counting.{no_arrival, spread_from, loss_end, statuses_by, no_counts, counts_from, mean_by}
use Rattle.tracker.specs.Report.{with_status, total_of, average_at, header_of, summary_of, entries_at, average_fits, made_refusal, report_refusal, report_answer, report_bytes}
use Rattle.tracker.specs.declared.Spread.{Spread}
use Rattle.tracker.specs.declared.Counts.{Counts}
use Rattle.tracker.proofs.Counted.{status-agrees, many-same, many-within, entries-same, received-counted, late-counted, missing-counted, partial-counted, total-parts, entries-length}
use Rattle.tracker.proofs.Gaps.{times-many, average-agrees}

-- ---- what was worked out

pub record Made (r : List ℕ) (time end : ℕ) (c : Counts) (mean : ℤ) : Type 0 where
  pub received : c.received ≡ with_status (known r) time 0
  pub late : c.late ≡ with_status (known r) time 1
  pub missing : c.missing ≡ with_status (known r) time 2
  pub partial : c.partial ≡ with_status (known r) time 3
  pub average : mean ≡ average_at (known r)
  pub entries : entries_from (statuses_by end r) (known r) time most_objects 0 ≡ entries_at (known r) time

module _ (r : List ℕ) (time : ℕ) (sound : consistent r ≡ true) where
  -- the spread, the end and the counts of the code
  abbrev whole : Spread
  whole = spread_from r most_objects 0 no_arrival

  abbrev last : ℕ
  last = loss_end r time whole.top

  abbrev all : Counts
  all = counts_from last r most_objects 0 no_counts

  agrees : (p : ℕ) → p < 0 + most_objects → statuses_by last r p ≡ status_at (known r) time p
  agrees p h = sym (status-agrees r time p sound (omega arith))

  counted : (status : ℕ) → how_many (λ p. eqb (statuses_by last r p) status) most_objects 0 ≡ with_status (known r) time status
  counted status = many-same (λ p. eqb (statuses_by last r p) status) (λ p. eqb (status_at (known r) time p) status) most_objects 0 (λ p h. ap (λ (s : ℕ). eqb s status) (agrees p h))

  arrivals : length (arrival_times (known r).became most_objects 0) ≡ all.received + all.late
  arrivals = times-many (known r).became (λ p. ltb (p + 1) last) most_objects 0 ∙ omega (arith, received-counted last r most_objects 0 no_counts, late-counted last r most_objects 0 no_counts)

  here : Made r time last all (mean_by (whole.latest - whole.earliest) (all.received + all.late - 1) (interval_of r))
  here =
      record {
        received = received-counted last r most_objects 0 no_counts ∙ omega (arith, counted 0);
        late = late-counted last r most_objects 0 no_counts ∙ omega (arith, counted 1);
        missing = missing-counted last r most_objects 0 no_counts ∙ omega (arith, counted 2);
        partial = partial-counted last r most_objects 0 no_counts ∙ omega (arith, counted 3);
        average = ap (λ (n : ℕ). (mean_by (whole.latest - whole.earliest) (n - 1) (interval_of r))) (sym arrivals) ∙ average-agrees r (interval_of r);
        entries = entries-same (statuses_by last r) (status_at (known r) time) (known r) time most_objects 0 agrees;
      }

  pub made : {s : Spread} {end : ℕ} {c : Counts} {gaps spread : ℕ} {mean : ℤ} → s ≡ spread_from r most_objects 0 no_arrival → end ≡ loss_end r time s.top → c ≡ counts_from end r most_objects 0 no_counts
      → gaps ≡ c.received + c.late - 1 → spread ≡ s.latest - s.earliest → mean ≡ mean_by spread gaps (interval_of r) → Made r time end c mean
  made e f g h i j = rw (j, i, h, g, f, e) here

module _ {r : List ℕ} {time end : ℕ} {c : Counts} {mean : ℤ} (m : Made r time end c mean) where
  pub total-is : c.received + c.late + (c.missing + c.partial) ≡ total_of (known r) time
  total-is = omega (arith, m.received, m.late, m.missing, m.partial, total-parts (status_at (known r) time) most_objects 0)

  pub header_is : (interval : ℕ) {h : Header} {average : ℤ} → average ≡ mean
      → h ≡ header_of time interval (c.received + c.late + (c.missing + c.partial)) c.received c.late (c.missing + c.partial) average → h ≡ summary_of (known r) time interval
  unfolding summary_of
  header_is interval e f = f ∙ rw (e, m.average, total-is, m.received, m.late, m.missing, m.partial)

  pub entries-long : length (entries_from (statuses_by end r) (known r) time most_objects 0) ≡ 16 * total_of (known r) time
  entries-long = ap length m.entries ∙ entries-length (status_at (known r) time) (known r) time most_objects 0

-- no count passes the number of objects
pub record Few (c : Counts) : Type 0 where
  pub received : c.received ≤ most_objects
  pub late : c.late ≤ most_objects
  pub missing : c.missing ≤ most_objects
  pub partial : c.partial ≤ most_objects

pub few : (end : ℕ) (r : List ℕ) {c : Counts} → c ≡ counts_from end r most_objects 0 no_counts → Few c
few end r e =
    rw e
    (record {
      received = omega (arith, received-counted end r most_objects 0 no_counts, many-within (λ p. eqb (statuses_by end r p) 0) most_objects 0);
      late = omega (arith, late-counted end r most_objects 0 no_counts, many-within (λ p. eqb (statuses_by end r p) 1) most_objects 0);
      missing = omega (arith, missing-counted end r most_objects 0 no_counts, many-within (λ p. eqb (statuses_by end r p) 2) most_objects 0);
      partial = omega (arith, partial-counted end r most_objects 0 no_counts, many-within (λ p. eqb (statuses_by end r p) 3) most_objects 0);
    })

-- ---- the refusals in their order

module _ (r : List ℕ) (time interval room : ℕ) where
  pub refused-one : consistent r ≡ false → report_refusal r time interval room ≡ 1
  unfolding report_refusal made_refusal
  refused-one e = rw e

  module _ (sound : consistent r ≡ true) where
    pub refused-five : both_obey time interval ≡ false → report_refusal r time interval room ≡ 5
    unfolding report_refusal made_refusal
    refused-five e = rw (sound, e)

    module _ (small : both_obey time interval ≡ true) where
      pub refused-range : average_fits (known r) ≡ false → report_refusal r time interval room ≡ 5
      unfolding report_refusal made_refusal
      refused-range e = rw (sound, small, e)

      module _ (fits : average_fits (known r) ≡ true) where
        pub refused-room : room < record_size One * total_of (known r) time → report_refusal r time interval room ≡ 9
        unfolding report_refusal made_refusal
        refused-room h = rw (sound, small, fits, lt-leb (record_size One * total_of (known r) time) room h)

        pub accepted-room : record_size One * total_of (known r) time ≤ room → report_refusal r time interval room ≡ 0
        unfolding report_refusal made_refusal
        accepted-room h = rw (sound, small, fits, le-leb (record_size One * total_of (known r) time) room h)

-- ---- the answer and the lent buffer

module _ (r : List ℕ) (time interval : ℕ) (xs : List ℕ) where
  pub answer-refused : {n : ℕ} {a : Report} → a ≡ record { refusal = suc n; header = empty_header } → report_refusal r time interval (length xs) ≡ suc n
      → (a ≡ report_answer r time interval (length xs)) × (xs ≡ report_bytes r time interval xs)
  unfolding report_answer report_bytes
  answer-refused f e = rw e (f, refl)

  pub answer-made : {h : Header} {made new : List ℕ} → report_refusal r time interval (length xs) ≡ 0 → h ≡ summary_of (known r) time interval → new ≡ splice xs 0 made → made ≡ entries_at (known r) time
      → (record { refusal = 0; header = h } ≡ report_answer r time interval (length xs)) × (new ≡ report_bytes r time interval xs)
  unfolding report_answer report_bytes
  answer-made e f g k = rw (e, f) (refl, g ∙ ap (splice xs 0) k)
