-- What each number of a header brings, and the header that the numbers are.
use Rattle.std.specs.Prelude.{ℕ, zero, suc, ◌+◌, ◌-◌, ◌*◌, ◌/◌, ◌%◌, min, List, [], ◌∷◌, ◌++◌, Bool, true, false, Result, Ok, Err, eqb, leb, ltb, length, get_or, pos}
use Rattle.wire.specs.Bytes.{pick}
use Rattle.wire.specs.declared.Refusal.{Refusal}
use Rattle.wire.specs.declared.Refusal.TheVariants.{BrokenCount, OtherTotal, LongerForm}
use Rattle.entries.specs.Limits.{most_entries}
use Rattle.entries.specs.Profiles.{most_metrics, type_allowed}
use Rattle.report.specs.Layout.{at_timestamp, at_interval, at_total, at_received, at_late, at_lost, at_average, at_metrics, fixed_numbers, at_type, at_value}
use Rattle.report.specs.Limits.{metric_places}
use Rattle.report.specs.Average.{stored_of, average_of}
use Rattle.entries.specs.declared.Profile.{Profile}
use Rattle.report.specs.declared.Header.{Header}

-- the refusal unless the test holds
abbrev pub unless : Refusal → Bool → Result Unit Refusal
unless refusal ok = pick ok (Ok tt) (Err refusal)

-- what comes next where nothing is refused, or what f makes of the refusal
abbrev pub heeding : {R : Type 0} → Result Unit Refusal → (Refusal → R) → R → R
heeding (Ok u) f next = next
heeding (Err refusal) f next = f refusal

-- ---- what each number brings: p is the report's profile, ns are the numbers so far, v the next one

-- "types strictly rising": the first one, or above the one before it
abbrev pub type_rises : List ℕ → ℕ → Bool
type_rises ns v = pick (eqb (length ns) fixed_numbers) true (ltb (get_or ns (length ns - 2) 0) v)

-- behind the metrics that were counted the entry count, otherwise a type
unfoldable pub judge_later : Profile → List ℕ → ℕ → Result Unit Refusal
judge_later p ns v =
    pick (eqb ((length ns - fixed_numbers) / 2) (get_or ns at_metrics 0)) (unless BrokenCount (leb v most_entries))
    (unless BrokenCount (pick (type_allowed p v) (type_rises ns v) false))

-- "The sum (11) is checked after lost; 10 after each count or type"; nothing is refused of a metric's value
unfoldable pub judge : Profile → List ℕ → ℕ → Result Unit Refusal
judge p ns v =
    pick (eqb (length ns) at_lost) (unless OtherTotal (eqb (get_or ns at_total 0) (get_or ns at_received 0 + get_or ns at_late 0 + v)))
    (pick (eqb (length ns) at_metrics) (unless BrokenCount (leb v (most_metrics p)))
    (pick (ltb (length ns) fixed_numbers) (Ok tt)
    (pick (eqb (length ns % 2) 1) (Ok tt)
    (judge_later p ns v))))

-- what a field brings to a reader: "15, given at the field, before 10 and 11" (02, No. 5), then what its number does
abbrev pub judge_field : Profile → List ℕ → ℕ → Bool → Result Unit Refusal
judge_field p ns v shortest = pick shortest (judge p ns v) (Err LongerForm)

-- the first refusal of the numbers vs that follow ns
unfoldable pub fault_after : Profile → List ℕ → List ℕ → Result Unit Refusal
fault_after p ns [] = Ok tt
fault_after p ns (v ∷ vs) = heeding (judge p ns v) Err (fault_after p (ns ++ (v ∷ [])) vs)

abbrev pub first_fault : Profile → List ℕ → Result Unit Refusal
first_fault p vs = fault_after p [] vs

-- how many numbers there are with the entry count, as far as the numbers so far tell
abbrev pub wanted_of : Profile → List ℕ → ℕ
wanted_of p ns = fixed_numbers + 2 * min (get_or ns at_metrics 0) (most_metrics p) + 1

-- the entry count is the last of the numbers
abbrev pub count_of : List ℕ → ℕ
count_of ns = get_or ns (length ns - 1) 0

-- ---- between the numbers and the header

-- f i, and so on, n of them
abbrev pub each : ℕ → ℕ → (ℕ → ℕ) → List ℕ
each zero i f = []
each (suc n) i f = f i ∷ each n (suc i) f

-- what stands at the place, if metric i is among those counted
abbrev pub metric_at : List ℕ → ℕ → ℕ → ℕ
metric_at ns i place = pick (ltb i (get_or ns at_metrics 0)) (get_or ns place 0) 0

-- the header that the numbers are
unfoldable pub header_of : List ℕ → Header
header_of ns = record {
  timestamp = get_or ns at_timestamp 0;
  interval = get_or ns at_interval 0;
  total = get_or ns at_total 0;
  received = get_or ns at_received 0;
  late = get_or ns at_late 0;
  lost = get_or ns at_lost 0;
  average = average_of (get_or ns at_average 0);
  metrics = get_or ns at_metrics 0;
  kinds = each metric_places 0 (λ i. metric_at ns i (at_type i));
  values = each metric_places 0 (λ i. metric_at ns i (at_value i));
  entries = count_of ns;
}

-- all numbers 0, no metrics, no entries: what a refused read hands back
unfoldable pub empty_header : Header
empty_header = record {
  timestamp = 0;
  interval = 0;
  total = 0;
  received = 0;
  late = 0;
  lost = 0;
  average = pos 0;
  metrics = 0;
  kinds = each metric_places 0 (λ i. 0);
  values = each metric_places 0 (λ i. 0);
  entries = 0;
}

-- n metrics from the i-th on, each as its type and its value
unfoldable pub pairs : ℕ → ℕ → List ℕ → List ℕ → List ℕ
pairs zero i ks vs = []
pairs (suc n) i ks vs = get_or ks i 0 ∷ get_or vs i 0 ∷ pairs n (suc i) ks vs

-- the numbers of a header before the entry count, with its first n metrics
abbrev pub with_metrics : Header → ℕ → List ℕ
with_metrics h n =
    h.timestamp ∷ h.interval ∷ h.total ∷ h.received ∷ h.late ∷ h.lost ∷ stored_of h.average ∷ h.metrics
    ∷ pairs n 0 h.kinds h.values

-- "metrics beyond the count or the limit are not looked at"
unfoldable pub numbers_of : Profile → Header → List ℕ
numbers_of p h = with_metrics h (min h.metrics (most_metrics p))
