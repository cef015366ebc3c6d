-- An accepted report is what the writer writes from its header and its entries: its numbers are the header's again, in their shortest forms.
-- Assumes nothing.
use Prim.Native.Nat.{ℕ, zero, suc, ◌+◌, ◌-◌, ◌*◌, ◌/◌, ◌≤◌, ◌<◌}
use mathlib.Core.Path.{◌≡◌, refl, sym, ap, ◌∙◌, subst}
use mathlib.Core.Bool.{true}
use mathlib.Core.List.{List, [], ◌∷◌, ◌++◌}
use native.Mathlib.Nat.{zero-add, min-eq_left}
use native.Mathlib.Omega.{arith}
use borrow.Author.Tests.{lt-ltb}
use lib.ListN.{length, get_or, take, drop, length-append, length-drop, length-take, drop_of_length-le, take-append-drop}
use lib.Seq.{drop-cons, get_or-drop, split_at, length-take-le, take_all}
use Rattle.std.specs.Prelude.{Ok}
use Rattle.wire.specs.Bytes.{Octets}
use Rattle.wire.specs.Numbers.{width_of, encode_all, all_small}
use Rattle.wire.proofs.Lengths.{width-pos}
use Rattle.wire.proofs.Small.{all_small_lem, small-append}
use Rattle.wire.proofs.Standing.{short-stands, stand-small, short-long, short-bytes}
use Rattle.entries.specs.Limits.{most_entries}
use Rattle.entries.specs.Profiles.{record_size, most_metrics}
use Rattle.entries.specs.declared.Profile.{Profile}
use Rattle.entries.specs.Entries.{entries_fault}
use Rattle.entries.specs.Fitting.{fitting_of}
use Rattle.entries.proofs.Profiles.{sized}
use Rattle.entries.proofs.Sizes.{whole-many, whole-even}
use Rattle.entries.proofs.Exactly.{fault-judged}
use Rattle.entries.proofs.Largest.{records-fit}
use Rattle.entries.proofs.Values.{same-records}
use Rattle.report.specs.Layout.{at_metrics, fixed_numbers, at_type, at_value}
use Rattle.report.specs.Limits.{metric_places}
use Rattle.report.specs.Header.{first_fault, wanted_of, count_of, each, metric_at, header_of, pairs, numbers_of}
use Rattle.report.specs.Reader.{Reading, Whole, part_of, report_reading, report_of, read_report, entries_in, entries_of}
use Rattle.report.specs.Writer.{done, report_size, write_answer, write_bytes}
use Rattle.report.specs.Exactly.{Headed, Sound}
use Rattle.report.specs.EachWay.{WritesBack, ReadWrite, EqualBytes, Agree}
use Rattle.report.specs.declared.Header.{Header}
use Rattle.report.proofs.Signed.{stored-average}
use Rattle.report.proofs.Whole.{Judged, judged-whole}
use Rattle.report.proofs.Heeding.{not-refused}
use Rattle.report.proofs.Planning.{length_last, plan-done, done-same}
use Rattle.report.proofs.Following.{metrics-placed, End, header, numbers-end, fault-at, fault-start}
use Rattle.report.proofs.Exactly.{report-reads, sound-judged}
use Rattle.report.proofs.Places.{metrics-small, entries-small}
use Rattle.report.proofs.Back.{report-part}
use Rattle.report.proofs.Agreeing.{both-agree}

-- ---- the numbers of a whole header are those of the header that they make

get_or-each : (n i k : ℕ) (f : ℕ → ℕ) → k < n → get_or (each n i f) k 0 ≡ f (i + k)
get_or-each zero i k f h = absurd (omega arith)
get_or-each (suc n) i zero f h = ap f (omega arith)
get_or-each (suc n) i (suc k) f h = get_or-each n (suc i) k f (omega arith) ∙ ap f (omega arith)

module _ (p : Profile) (ns : List ℕ) (g : first_fault p ns ≡ Ok tt) (w : length ns ≡ wanted_of p ns) where
  abbrev m : ℕ
  m = get_or ns at_metrics 0

  few : m ≤ most_metrics p
  few =
      let l : length (take at_metrics ns) ≡ at_metrics = length-take-le at_metrics ns (omega arith) in
      metrics-small p (take at_metrics ns) m (fault-at p [] (take at_metrics ns) m (drop fixed_numbers ns) (rw (← split_at ns at_metrics 0 (omega arith)) g)) l

  long : length ns ≡ fixed_numbers + 2 * m + 1
  long = w ∙ rw (min-eq_left few) refl

  abbrev kinds : List ℕ
  kinds = each metric_places 0 (λ i. metric_at ns i (at_type i))

  abbrev values : List ℕ
  values = each metric_places 0 (λ i. metric_at ns i (at_value i))

  kind_at : (i : ℕ) → i < m → get_or kinds i 0 ≡ get_or ns (at_type i) 0
  kind_at i h =
      get_or-each metric_places 0 i (λ i. metric_at ns i (at_type i)) (omega (arith, few, metrics-placed p))
      ∙ ap (λ (j : ℕ). metric_at ns j (at_type j)) (zero-add i) ∙ rw (lt-ltb i m h)

  value-at : (i : ℕ) → i < m → get_or values i 0 ≡ get_or ns (at_value i) 0
  value-at i h =
      get_or-each metric_places 0 i (λ i. metric_at ns i (at_value i)) (omega (arith, few, metrics-placed p))
      ∙ ap (λ (j : ℕ). metric_at ns j (at_value j)) (zero-add i) ∙ rw (lt-ltb i m h)

  pairs-again : (k i : ℕ) → i + k ≡ m → drop (at_type i) ns ≡ pairs k i kinds values ++ (count_of ns ∷ [])
  unfolding pairs
  pairs-again zero i l =
      let e : at_type i ≡ length ns - 1 = omega (arith, long) in
      let d : drop (suc (length ns - 1)) ns ≡ [] = drop_of_length-le ns {i = suc (length ns - 1)} (omega arith) in
      rw e (drop-cons ns (length ns - 1) 0 (omega (arith, long)) ∙ ap (λ (r : List ℕ). count_of ns ∷ r) d)
  pairs-again (suc k) i l =
      let at : ℕ = at_type i in
      let v : suc at ≡ at + 1 = omega arith in
      let n : suc (suc at) ≡ at_type (suc i) = omega arith in
      drop-cons ns at 0 (omega (arith, long))
      ∙ ap (λ (r : List ℕ). get_or ns at 0 ∷ r) (drop-cons ns (suc at) 0 (omega (arith, long)))
      ∙ rw (n, v, kind_at i (omega arith), value-at i (omega arith)) (ap (λ (r : List ℕ). get_or ns at 0 ∷ get_or ns (at + 1) 0 ∷ r) (pairs-again k (suc i) (omega arith)))

  eight : ns ≡ get_or ns 0 0 ∷ get_or ns 1 0 ∷ get_or ns 2 0 ∷ get_or ns 3 0 ∷ get_or ns 4 0 ∷ get_or ns 5 0 ∷ get_or ns 6 0 ∷ m ∷ drop fixed_numbers ns
  eight =
      let l : fixed_numbers < length ns = omega (arith, long) in
      drop-cons ns 0 0 (omega arith) ∙ ap (λ (r : List ℕ). get_or ns 0 0 ∷ r)
      (drop-cons ns 1 0 (omega arith) ∙ ap (λ (r : List ℕ). get_or ns 1 0 ∷ r)
      (drop-cons ns 2 0 (omega arith) ∙ ap (λ (r : List ℕ). get_or ns 2 0 ∷ r)
      (drop-cons ns 3 0 (omega arith) ∙ ap (λ (r : List ℕ). get_or ns 3 0 ∷ r)
      (drop-cons ns 4 0 (omega arith) ∙ ap (λ (r : List ℕ). get_or ns 4 0 ∷ r)
      (drop-cons ns 5 0 (omega arith) ∙ ap (λ (r : List ℕ). get_or ns 5 0 ∷ r)
      (drop-cons ns 6 0 (omega arith) ∙ ap (λ (r : List ℕ). get_or ns 6 0 ∷ r)
      (drop-cons ns 7 0 (omega arith))))))))

  pub numbers-again : numbers_of p (header_of ns) ++ (count_of ns ∷ []) ≡ ns
  unfolding numbers_of header_of
  numbers-again =
      rw (stored-average, min-eq_left few)
      (ap (λ (r : List ℕ). get_or ns 0 0 ∷ get_or ns 1 0 ∷ get_or ns 2 0 ∷ get_or ns 3 0 ∷ get_or ns 4 0 ∷ get_or ns 5 0 ∷ get_or ns 6 0 ∷ m ∷ r) (sym (pairs-again m 0 (zero-add m))) ∙ sym eight)

  abbrev us : List ℕ
  us = numbers_of p (header_of ns)

  one_less : length us + 1 ≡ length ns
  one_less = sym (length-append us (count_of ns ∷ [])) ∙ ap length numbers-again

  metrics-again : get_or us at_metrics 0 ≡ m
  unfolding numbers_of header_of
  metrics-again = refl

  -- the entry count is within its limit
  pub count-few : count_of ns ≤ most_entries
  count-few =
      entries-small p us (count_of ns) (fault-at p [] us (count_of ns) [] (rw numbers-again g))
      (record { behind = omega (arith, one_less, long); even = λ e. omega (arith, one_less, long) })
      (omega (arith, one_less, long, metrics-again))

-- ---- the writer on an accepted report

headed : (p : Profile) (s ns : List ℕ) (at : ℕ) → End p s (Whole ns at) → Headed p s ns at
headed p s ns at (header h) = h

antisym : (a b : ℕ) → a ≤ b → b ≤ a → a ≡ b
antisym a b h l = omega arith

module _ (p : Profile) (s ns xs : List ℕ) (at maximum : ℕ) (o : Octets s) (w : Whole ns at ≡ report_reading p s) (allowed : count_of ns ≤ maximum) (within : maximum ≤ most_entries) (r : length s ≤ length xs) where
  j : Judged p s ns at
  j = judged-whole p s ns at w

  h : Headed p s ns at
  h = headed p s ns at (subst (End p s) j.numbers (numbers-end p s))

  t : take at s ≡ encode_all ns
  t = let z : at ≡ length (encode_all ns) = short-long s o h.stand ∙ zero-add (length (encode_all ns)) in rw (← z) at (short-bytes s o h.stand)

  abbrev k : ℕ
  k = count_of ns

  abbrev front : List ℕ
  front = numbers_of p (header_of ns)

  again : front ++ (k ∷ []) ≡ ns
  again = numbers-again p ns h.good h.whole

  k-few : k ≤ most_entries
  k-few = count-few p ns h.good h.whole

  entries-are : entries_of p s ≡ part_of p s ns at
  unfolding entries_in
  entries-are = ap (entries_in p s) (sym w)

  entries-long : length (entries_of p s) ≡ record_size p * k
  entries-long = rw (entries-are, length-take, length-drop) (omega (arith, j.end))

  given : length (entries_of p s) / record_size p ≡ k
  given = whole-many (record_size p) (sized p) (length (entries_of p s)) k entries-long

  entries-fine : entries_fault p (entries_of p s) ≡ Ok tt
  entries-fine =
      not-refused (entries_fault p (entries_of p s))
      ((fault-judged p (entries_of p s)).accepted.1
      (record { even = whole-even (record_size p) (sized p) (length (entries_of p s)) k entries-long; few = rw given (omega (arith, k-few)); good = rw entries-are j.good }))

  front-small : all_small front ≡ true
  front-small = (all_small_lem front).1 ((small-append front (k ∷ [])).0 (rw again (stand-small s o (short-stands h.stand)))).0

  front-good : first_fault p front ≡ Ok tt
  front-good = fault-start p [] front (k ∷ []) (rw again h.good)

  abbrev size : ℕ
  size = length (encode_all front)

  -- the numbers take the bytes up to the entries
  head-long : size + width_of k ≡ at
  head-long =
      sym (length_last front k (omega (arith, k-few))) ∙ ap (λ (l : List ℕ). length (encode_all l)) again ∙ ap length (sym t) ∙ length-take-le at s (omega (arith, j.end))

  all-fits : report_size p size k ≡ length s
  all-fits = omega (arith, head-long, j.end)

  kept-all : fitting_of p (length (entries_of p s) / record_size p) maximum (length xs - size) ≡ k
  kept-all =
      let n : ℕ = fitting_of p (length (entries_of p s) / record_size p) maximum (length xs - size) in
      let l = records-fit p (length (entries_of p s) / record_size p) maximum (length xs - size) in
      antisym n k (omega (arith, l.given, given)) (l.longest k allowed (omega (arith, given)) (omega (arith, all-fits)))

  answer : done (length s) k ≡ write_answer p (header_of ns) (entries_of p s) maximum (length xs)
  answer =
      let less : size < length xs = omega (arith, all-fits, width-pos k (omega (arith, k-few))) in
      let l : size + width_of k + record_size p * k ≡ length s = omega (arith, all-fits) in
      rw (← l) (plan-done p front (entries_of p s) maximum (length xs) front-small front-good within entries-fine size k (width_of k) refl less (sym kept-all) refl)

  bytes : take (length s) (write_bytes p (header_of ns) (entries_of p s) maximum xs) ≡ s
  bytes =
      let z : length (entries_of p s) - record_size p * k ≡ 0 = omega (arith, entries-long) in
      let e : take (record_size p * k) (drop at s) ≡ drop at s = take_all (record_size p * k) (drop at s) (rw length-drop (omega (arith, j.end))) in
      report-part p (header_of ns) (entries_of p s) maximum xs (length s) k answer
      ∙ rw (again, ← t, z, entries-are, e) (take-append-drop at s)

-- ---- by what the reader answers

module _ (p : Profile) (s : List ℕ) (o : Octets s) (e : (read_report p s).refusal ≡ 0) where
  x : Sound p s
  x = (report-reads p s).accepted.0 e

  whole : Whole x.ns x.at ≡ report_reading p s
  whole = sym (sound-judged p s x)

  header_read : (read_report p s).header ≡ header_of x.ns
  unfolding report_of
  header_read = ap (λ (r : Reading). (report_of r).header) (sym whole)

  -- the writer's answer and bytes are about the header that was read
  writes-back : (maximum : ℕ) (xs : List ℕ) → count_of x.ns ≤ maximum → maximum ≤ most_entries → length s ≤ length xs → WritesBack p s maximum xs
  unfolding header_of
  writes-back maximum xs f m r = record {
    answer = subst (λ (h : Header). done (length s) h.entries ≡ write_answer p h (entries_of p s) maximum (length xs)) (sym header_read) (answer p s x.ns xs x.at maximum o whole f m r);
    bytes = subst (λ (h : Header). take (length s) (write_bytes p h (entries_of p s) maximum xs) ≡ s) (sym header_read) (bytes p s x.ns xs x.at maximum o whole f m r);
  }

  count-read : (read_report p s).header.entries ≡ count_of x.ns
  unfolding header_of
  count-read = ap (λ (h : Header). h.entries) header_read

  -- what the reader accepts has no more entries than the limit
  pub entries-few : (read_report p s).header.entries ≤ most_entries
  entries-few = rw count-read (count-few p x.ns x.header.good x.header.whole)

pub read-write : ReadWrite
read-write p s maximum xs o e f m r = writes-back p s o e maximum xs (rw (count-read p s o e) at f) m r

-- the entries of a report are bytes of it
entries-bytes : (p : Profile) (s : List ℕ) → Octets s → (read_report p s).refusal ≡ 0 → Octets (entries_of p s)
entries-bytes p s o e =
    let k : ℕ = record_size p * (read_report p s).header.entries in
    rw ((both-agree p s).part e) (λ i. rw get_or-drop (o (length s - k + i)))

-- entries with equal values are equal bytes, and both reports are what the writer writes into the same room from the same header and these entries
pub equal-bytes : EqualBytes
equal-bytes p s t o q same = sym a.bytes ∙ rw (long, same.headers, alike) b.bytes
  where
    x : Agree p s
    x = both-agree p s

    y : Agree p t
    y = both-agree p t

    alike : entries_of p s ≡ entries_of p t
    alike =
        same-records p (read_report p s).header.entries (entries_of p s) (entries_of p t) (entries-bytes p s o same.accepted.0) (entries-bytes p t q same.accepted.1)
        (x.many same.accepted.0) (y.many same.accepted.1 ∙ ap (λ (h : Header). record_size p * h.entries) (sym same.headers))
        (x.each same.accepted.0) same.entries

    xs : List ℕ
    xs = s ++ t

    a : WritesBack p s most_entries xs
    a = read-write p s most_entries xs o same.accepted.0 (entries-few p s o same.accepted.0) (omega arith) (rw length-append (omega arith))

    b : WritesBack p t most_entries xs
    b = read-write p t most_entries xs q same.accepted.1 (entries-few p t q same.accepted.1) (omega arith) (rw length-append (omega arith))

    same_answer : done (length s) (read_report p s).header.entries ≡ done (length t) (read_report p t).header.entries
    same_answer = a.answer ∙ rw (same.headers, alike) (sym b.answer)

    long : length s ≡ length t
    long = (done-same same_answer).0
