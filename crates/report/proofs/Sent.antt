-- A header as it goes over the wire: each of its numbers stands at its place, so the header that they make is the one that was sent.
-- Assumes nothing.
use Prim.Native.Nat.{ℕ, zero, suc, ◌+◌, ◌-◌, ◌*◌, ◌≤◌, ◌<◌, min}
use mathlib.Core.Path.{◌≡◌, refl, ap, ◌∙◌}
use mathlib.Core.List.{List, [], ◌∷◌, ◌++◌}
use native.Mathlib.Nat.{min-eq_left, zero-add}
use native.Mathlib.Omega.{arith}
use borrow.Author.Tests.{lt-ltb, le-ltb}
use lib.Dec.{ltb}
use lib.ListN.{length, get_or, take, length-append, get_or-append}
use lib.IntN.{ℤ}
use lib.Seq.{get_or-append_seam, get_or-append-add, take-append-add}
use Rattle.wire.specs.Bytes.{pick}
use Rattle.wire.proofs.Lengths.{split}
use Rattle.report.specs.Layout.{at_average, at_metrics, fixed_numbers, at_type, at_value}
use Rattle.entries.specs.Profiles.{most_metrics}
use Rattle.entries.specs.declared.Profile.{Profile}
use Rattle.report.specs.Limits.{metric_places}
use Rattle.report.specs.Average.{stored_of, average_of}
use Rattle.report.specs.Header.{count_of, each, metric_at, header_of, pairs, with_metrics, numbers_of}
use Rattle.report.specs.EachWay.{sent_as}
use Rattle.report.specs.declared.Header.{Header}
use Rattle.report.proofs.Signed.{average-stored}

-- ---- the numbers of a header, and the entry count behind them

pub length_pairs : (n i : ℕ) (ks vs : List ℕ) → length (pairs n i ks vs) ≡ 2 * n
unfolding pairs
length_pairs zero i ks vs = refl
length_pairs (suc n) i ks vs = omega (arith, length_pairs n (suc i) ks vs)

pub count-last : (ns : List ℕ) (k : ℕ) → count_of (ns ++ (k ∷ [])) ≡ k
count-last ns k = let n : length (ns ++ (k ∷ [])) - 1 ≡ length ns = rw length-append (omega arith) in rw n (get_or-append_seam ns k [] 0)

-- the metric count stands at its place, whatever follows the numbers
pub metrics-there : (p : Profile) (h : Header) (vs : List ℕ) → get_or (numbers_of p h ++ vs) at_metrics 0 ≡ h.metrics
unfolding numbers_of
metrics-there p h vs = refl

-- the first metrics of all that a header has places for
take-pairs : (m n i : ℕ) (ks vs zs : List ℕ) → m ≤ n → take (2 * m) (pairs n i ks vs ++ zs) ≡ pairs m i ks vs
unfolding pairs
take-pairs zero n i ks vs zs h = refl
take-pairs (suc m) zero i ks vs zs h = absurd (omega arith)
take-pairs (suc m) (suc n) i ks vs zs h = let e : 2 * suc m ≡ suc (suc (2 * m)) = omega arith in rw (e, take-pairs m n (suc i) ks vs zs (omega arith))

-- the numbers that are looked at come first of all that the code lays out
pub numbers-first : (p : Profile) (h : Header) (m : ℕ) → m ≡ min h.metrics (most_metrics p) → m ≤ metric_places → take (fixed_numbers + 2 * m) (with_metrics h metric_places ++ (0 ∷ [])) ≡ numbers_of p h
unfolding numbers_of
numbers-first p h m e l =
    let fixed : List ℕ = h.timestamp ∷ h.interval ∷ h.total ∷ h.received ∷ h.late ∷ h.lost ∷ stored_of h.average ∷ h.metrics ∷ [] in
    take-append-add fixed (pairs metric_places 0 h.kinds h.values ++ (0 ∷ [])) (2 * m)
    ∙ ap (λ (ys : List ℕ). fixed ++ ys) (take-pairs m metric_places 0 h.kinds h.values (0 ∷ []) l ∙ ap (λ (n : ℕ). pairs n 0 h.kinds h.values) e)

-- ---- the header that they make

each_same : (n i : ℕ) (f g : ℕ → ℕ) → ((j : ℕ) → f j ≡ g j) → each n i f ≡ each n i g
each_same zero i f g e = refl
each_same (suc n) i f g e = rw (e i, each_same n (suc i) f g e)

pair-type : (n b i : ℕ) (ks vs : List ℕ) → i < n → get_or (pairs n b ks vs) (2 * i) 0 ≡ get_or ks (b + i) 0
unfolding pairs
pair-type zero b i ks vs h = absurd (omega arith)
pair-type (suc n) b zero ks vs h = ap (λ (x : ℕ). get_or ks x 0) (omega arith)
pair-type (suc n) b (suc i) ks vs h =
    let e : 2 * suc i ≡ suc (suc (2 * i)) = omega arith in
    rw e (pair-type n (suc b) i ks vs (omega arith) ∙ ap (λ (x : ℕ). get_or ks x 0) (omega arith))

pair-value : (n b i : ℕ) (ks vs : List ℕ) → i < n → get_or (pairs n b ks vs) (2 * i + 1) 0 ≡ get_or vs (b + i) 0
unfolding pairs
pair-value zero b i ks vs h = absurd (omega arith)
pair-value (suc n) b zero ks vs h = ap (λ (x : ℕ). get_or vs x 0) (omega arith)
pair-value (suc n) b (suc i) ks vs h =
    let e : 2 * suc i + 1 ≡ suc (suc (2 * i + 1)) = omega arith in
    rw e (pair-value n (suc b) i ks vs (omega arith) ∙ ap (λ (x : ℕ). get_or vs x 0) (omega arith))

module _ (p : Profile) (h : Header) (k : ℕ) (l : h.metrics ≤ most_metrics p) where
  abbrev sent : List ℕ
  sent = numbers_of p h ++ (k ∷ [])

  abbrev metrics : List ℕ
  metrics = pairs (min h.metrics (most_metrics p)) 0 h.kinds h.values

  -- among the metrics, and before the entry count
  metric-there : (q : ℕ) → q < 2 * h.metrics → get_or sent (fixed_numbers + q) 0 ≡ get_or metrics q 0
  unfolding numbers_of
  metric-there q r =
      get_or-append-add (h.timestamp ∷ h.interval ∷ h.total ∷ h.received ∷ h.late ∷ h.lost ∷ stored_of h.average ∷ h.metrics ∷ []) (metrics ++ (k ∷ [])) q 0
      ∙ get_or-append metrics (k ∷ []) 0 q (omega (arith, length_pairs (min h.metrics (most_metrics p)) 0 h.kinds h.values, min-eq_left l))

  counted : (place : ℕ → ℕ) (xs : List ℕ) → ((i : ℕ) → i < h.metrics → get_or sent (place i) 0 ≡ get_or xs i 0) → (i : ℕ) → metric_at sent i (place i) ≡ pick (ltb i h.metrics) (get_or xs i 0) 0
  counted place xs f i =
      split h.metrics i
      (λ q. rw (metrics-there, le-ltb i h.metrics q))
      (λ q. rw (metrics-there, lt-ltb i h.metrics q, f i q))

  sent-kind : (i : ℕ) → i < h.metrics → get_or sent (at_type i) 0 ≡ get_or h.kinds i 0
  sent-kind i q = metric-there (2 * i) (omega arith) ∙ rw (min-eq_left l) (pair-type h.metrics 0 i h.kinds h.values q ∙ ap (λ (x : ℕ). get_or h.kinds x 0) (zero-add i))

  sent-value : (i : ℕ) → i < h.metrics → get_or sent (at_value i) 0 ≡ get_or h.values i 0
  sent-value i q =
      let e : at_value i ≡ fixed_numbers + (2 * i + 1) = omega arith in
      rw e (metric-there (2 * i + 1) (omega arith) ∙ rw (min-eq_left l) (pair-value h.metrics 0 i h.kinds h.values q ∙ ap (λ (x : ℕ). get_or h.values x 0) (zero-add i)))

  sent-kinds : each metric_places 0 (λ i. metric_at sent i (at_type i)) ≡ each metric_places 0 (λ i. pick (ltb i h.metrics) (get_or h.kinds i 0) 0)
  sent-kinds = each_same metric_places 0 (λ i. metric_at sent i (at_type i)) (λ i. pick (ltb i h.metrics) (get_or h.kinds i 0) 0) (counted at_type h.kinds sent-kind)

  sent-values : each metric_places 0 (λ i. metric_at sent i (at_value i)) ≡ each metric_places 0 (λ i. pick (ltb i h.metrics) (get_or h.values i 0) 0)
  sent-values = each_same metric_places 0 (λ i. metric_at sent i (at_value i)) (λ i. pick (ltb i h.metrics) (get_or h.values i 0) 0) (counted at_value h.values sent-value)

  sent-average : average_of (get_or sent at_average 0) ≡ h.average
  unfolding numbers_of
  sent-average = average-stored h.average

  abbrev with : ℤ → List ℕ → List ℕ → ℕ → Header
  with a ks vs e = record {
    timestamp = h.timestamp;
    interval = h.interval;
    total = h.total;
    received = h.received;
    late = h.late;
    lost = h.lost;
    average = a;
    metrics = h.metrics;
    kinds = ks;
    values = vs;
    entries = e;
  }

  pub header-sent : header_of sent ≡ sent_as h k
  unfolding header_of sent_as numbers_of
  header-sent =
      let ks : List ℕ = each metric_places 0 (λ i. metric_at sent i (at_type i)) in
      let vs : List ℕ = each metric_places 0 (λ i. metric_at sent i (at_value i)) in
      let js : List ℕ = each metric_places 0 (λ i. pick (ltb i h.metrics) (get_or h.kinds i 0) 0) in
      let us : List ℕ = each metric_places 0 (λ i. pick (ltb i h.metrics) (get_or h.values i 0) 0) in
      ap (λ (a : ℤ). with a ks vs (count_of sent)) sent-average
      ∙ ap (λ (l : List ℕ). with h.average l vs (count_of sent)) sent-kinds
      ∙ ap (λ (l : List ℕ). with h.average js l (count_of sent)) sent-values
      ∙ ap (λ (e : ℕ). with h.average js us e) (count-last (numbers_of p h) k)
