-- The tracker's header and records pass the writer, and come back from the reader.
-- Assumes nothing.
use Prim.Native.Nat.{ℕ, zero, suc, ◌+◌, ◌-◌, ◌/◌, ◌^◌, ◌≤◌, ◌<◌, min}
use mathlib.Core.Path.{◌≡◌, refl, sym, ap, ◌∙◌}
use mathlib.Core.Bool.{Bool, true, false}
use mathlib.Core.List.{List, [], ◌++◌}
use native.Mathlib.Nat.{min-le_right}
use native.Mathlib.Omega.{arith}
use borrow.Author.Tests.{le-leb, lt-ltb, le-ltb, eq-eqb, eqb-false}
use lib.Dec.{leb, ltb, eqb}
use lib.ListN.{length, take}
use Rattle.std.specs.Prelude.{Result, Ok, Err}
use Rattle.wire.specs.Bytes.{pick, be}
use Rattle.wire.specs.Fields.{fixed}
use Rattle.wire.specs.Numbers.{limit, encode_all, all_small}
use Rattle.wire.specs.Exactly.{Small}
use Rattle.wire.specs.Refusals.{refusal_number}
use Rattle.wire.specs.declared.Refusal.{Refusal}
use Rattle.wire.proofs.Bytes.{be-digits}
use Rattle.wire.proofs.Lengths.{split}
use Rattle.entries.specs.Limits.{most_entries}
use Rattle.entries.specs.Profiles.{record_size}
use Rattle.entries.specs.Entries.{entry_from, entry_behind, entry_of, follows, records_good, entries_fault}
use Rattle.entries.specs.Exactly.{RecordsPass}
use Rattle.entries.proofs.Exactly.{entries-judged}
use Rattle.entries.specs.declared.Profile.TheVariants.{One}
use Rattle.report.specs.Average.{stored_of}
use Rattle.report.specs.Header.{numbers_of, pairs, first_fault}
use Rattle.report.specs.Writer.{report_size, kept_of, planned, write_answer}
use Rattle.report.specs.Exactly.{SumHolds, MetricsObey}
use Rattle.report.specs.declared.Written.{Written}
use Rattle.report.proofs.Refusing.{report-writes}
use Rattle.report.proofs.Heeding.{number-some}
use Rattle.report.proofs.Back.{write_read}
use Rattle.tracker.specs.Known.{most_objects, Known}
use Rattle.tracker.specs.Record.{first_of, known}
use Rattle.tracker.specs.Status.{status_at, no_status, since_of, age_of, entry_bytes, entries_from, how_many}
use Rattle.tracker.specs.Report.{total_of, average_at, summary_of, entries_at}
use Rattle.tracked.specs.Passes.{EntriesCounted, WriterTakes, EntriesRise, GoesThrough, ThroughAndBack}
use Rattle.tracker.proofs.Counted.{many-within, total-parts, entries-length}
use Rattle.tracker.proofs.Exactly.{exactly}

sum-holds : (k : Known) (time interval : ℕ) → SumHolds (summary_of k time interval)
unfolding summary_of
sum-holds k time interval = total-parts (status_at k time) most_objects 0

pub entries-counted : EntriesCounted
unfolding summary_of
entries-counted k time interval = entries-length (status_at k time) k time most_objects 0

-- ---- one record obeys its rule

object-back : (object : ℕ) → object ≤ limit → be 0 (fixed 8 object) ≡ object
object-back object h = be-digits 8 object [] 0 ∙ omega arith

age-back : (age : ℕ) → age ≤ 4294967295 → be 0 (fixed 4 age) ≡ age
age-back age h = be-digits 4 age [] 0 ∙ omega arith

-- a record that obeys its rule is followed by those above it
followed : (above object status age : ℕ) (f : ℕ → ℕ → Bool) → above ≤ object → object ≤ limit → status < no_status → (status ≡ 2 → age ≡ 0) → follows 0 above (entry_from 0 object status 0 age) f ≡ f 0 (suc object)
unfolding entry_from
followed above object zero age f a h s z = rw (le-leb object limit h, le-leb above object a)
followed above object (suc zero) age f a h s z = rw (le-leb object limit h, le-leb above object a)
followed above object (suc (suc zero)) age f a h s z = rw (le-leb object limit h, z refl, le-leb above object a)
followed above object (suc (suc (suc zero))) age f a h s z = rw (le-leb object limit h, le-leb above object a)
followed above object (suc (suc (suc (suc s)))) age f a h k z = absurd (omega arith)

age-small : (status time since : ℕ) → age_of status time since ≤ 4294967295
age-small status time since = go (eqb status 2)
  where
    go : (b : Bool) → pick b 0 (min (time - since) (2 ^ 32 - 1)) ≤ 4294967295
    go true = omega arith
    go false = min-le_right (time - since) 4294967295

entry-made : (object status age : ℕ) (rest : List ℕ) → object ≤ limit → age ≤ 4294967295 → entry_of One (take (record_size One) (entry_bytes object status age ++ rest)) ≡ entry_from 0 object status 0 age
unfolding entry_behind
entry-made object status age rest h l =
    ap (λ (o : ℕ). entry_from 0 o status 0 (be 0 (fixed 4 age))) (object-back object h) ∙ ap (entry_from 0 object status 0) (age-back age l)

-- ---- records in a row

good : (status : ℕ → ℕ) (k : Known) (time n place above : ℕ) → above ≤ k.first + place → k.first + place + n ≤ limit + 1
    → records_good One (how_many (λ p. ltb (status p) no_status) n place) 0 above (entries_from status k time n place) ≡ true
unfolding records_good how_many entries_from
good status k time zero place above a h = refl
good status k time (suc n) place above a h =
    let m : ℕ = how_many (λ p. ltb (status p) no_status) n (suc place) in
    split (suc (status place)) no_status
    (λ l.
    let st : ℕ = status place in
    let age : ℕ = age_of st time (since_of (k.became place)) in
    let one : 1 + m ≡ suc m = omega arith in
    let f : ℕ → ℕ → Bool = λ group next. records_good One m group next (entries_from status k time n (suc place)) in
    rw (lt-ltb (status place) no_status (omega arith), one)
    (ap (λ e. follows 0 above e f) (entry-made (k.first + place) st age (entries_from status k time n (suc place)) (omega arith) (age-small st time (since_of (k.became place))))
    ∙ followed above (k.first + place) st age f a (omega arith) (omega arith) (λ e. rw (eq-eqb st 2 e))
    ∙ good status k time n (suc place) (suc (k.first + place)) (omega arith) (omega arith)))
    (λ l.
    let none : 0 + m ≡ m = omega arith in
    rw (le-ltb (status place) no_status (omega arith), none) (good status k time n (suc place) above (omega arith) (omega arith)))

records-pass : (r : List ℕ) (time : ℕ) → first_of r + 255 ≤ limit → RecordsPass One (entries_at (known r) time)
records-pass r time h =
    let l = entries-length (status_at (known r) time) (known r) time most_objects 0 in
    let w = many-within (λ p. ltb (status_at (known r) time p) no_status) most_objects 0 in
    let d : length (entries_at (known r) time) / record_size One ≡ total_of (known r) time = omega (arith, l) in
    record {
      even = omega (arith, l);
      few = omega (arith, l, w);
      good = rw d (good (status_at (known r) time) (known r) time most_objects 0 0 (omega arith) (omega arith));
    }

-- ---- the header

header-small : (r : List ℕ) (time interval : ℕ) → time ≤ limit → interval ≤ limit → stored_of (average_at (known r)) ≤ limit → Small (numbers_of One (summary_of (known r) time interval))
unfolding numbers_of summary_of pairs
header-small r time interval h i a =
    let few : (test : ℕ → Bool) → how_many test most_objects 0 ≤ most_objects = λ test. many-within test most_objects 0 in (
      h,
      (
        i,
        (
          omega (arith, few (λ p. ltb (status_at (known r) time p) no_status)),
          (
            omega (arith, few (λ p. eqb (status_at (known r) time p) 0)),
            (
              omega (arith, few (λ p. eqb (status_at (known r) time p) 1)),
              (omega (arith, few (λ p. eqb (status_at (known r) time p) 2), few (λ p. eqb (status_at (known r) time p) 3)), (a, (omega arith, tt))),
            ),
          ),
        ),
      ),
    )

no-metrics : (r : List ℕ) (time interval : ℕ) → MetricsObey One (summary_of (known r) time interval)
unfolding summary_of
no-metrics r time interval = record { few = omega arith; known = λ i h. absurd (omega arith); rising = λ i h. absurd (omega arith) }

pub writer-takes : WriterTakes
writer-takes r time interval room maximum e m =
    let ok = (exactly.report r time interval room).accepted.0 e in
    record {
      front = record {
        header = record { small = header-small r time interval ok.1.0.0 ok.1.0.1 ok.1.1.0; sum = sum-holds (known r) time interval; metrics = no-metrics r time interval };
        within = m;
      };
      records = records-pass r time ok.0.last;
    }

pub entries-rise : EntriesRise
entries-rise r time interval room e i h =
    let l = entries-length (status_at (known r) time) (known r) time most_objects 0 in
    (entries-judged One (entries_at (known r) time)).0 (writer-takes r time interval room 0 e (omega arith)).records.good i (omega (arith, l))

pub through-and-back : ThroughAndBack
through-and-back r time interval room maximum xs e m l =
    go (write_answer One (summary_of (known r) time interval) (entries_at (known r) time) maximum (length xs)) refl ((report-writes One (summary_of (known r) time interval) (entries_at (known r) time) maximum (length xs)).accepted.1 (writer-takes r time interval room maximum e m, l))
  where
    go : (w : Result Written Refusal) → w ≡ write_answer One (summary_of (known r) time interval) (entries_at (known r) time) maximum (length xs) → refusal_number (write_answer One (summary_of (known r) time interval) (entries_at (known r) time) maximum (length xs)) ≡ 0
        → GoesThrough r time interval maximum xs
    go (Ok w) q z = record { next = w.next; kept = w.kept; written = q; back = write_read One (summary_of (known r) time interval) (entries_at (known r) time) maximum xs w.next w.kept q }
    go (Err refusal) q z = absurd (number-some refusal (ap refusal_number q ∙ z))
