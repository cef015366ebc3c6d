-- The spread that one walk gathers and the number of arrivals give the average of the paper.
-- Assumes nothing.
use Prim.Native.Nat.{ℕ, zero, suc, ◌+◌, ◌-◌, ◌≤◌, max, min}
use mathlib.Core.Path.{◌≡◌, refl, sym, ap, ◌∙◌}
use mathlib.Core.Bool.{Bool, true, false}
use mathlib.Core.List.{List, [], ◌∷◌}
use native.Mathlib.Omega.{arith}
use lib.Dec.{eqb}
use lib.IntN.{ℤ}
use lib.ListN.{length}
use Rattle.wire.specs.Bytes.{pick}
use Rattle.wire.specs.Numbers.{limit}
use Rattle.tracker.specs.Known.{most_objects, Fate, unknown, ended, came, has_come}
use Rattle.tracker.specs.Record.{word_at, time_of, has_arrived, known}
use Rattle.tracker.specs.Status.{status_from, how_many}
use Rattle.tracker.specs.Average.{with_time, arrival_times, in_order, gaps_of, toward_zero, mean_of, average_from}
use Rattle.tracker.specs.Counting.{no_arrival, reached, spread_from, mean_by}
use Rattle.tracker.specs.declared.Spread.{Spread}
use Rattle.tracker.proofs.Arrivals.{arrives}
use Rattle.tracker.proofs.Fates.{time-of, no-time-of, came-counts}
use Rattle.tracker.proofs.Losses.{spread-yes, spread-no}
use Rattle.tracker.proofs.Averages.{Rising, sum, gaps-sum, gaps-many, first-least, highest, lowest, Sorted, sorted}
use Rattle.tracker.proofs.Deviations.{deviation-sum, mean-is}

module _ (r : List ℕ) where
  abbrev became : ℕ → Fate
  became = (known r).became

  -- one more object, by whether it arrived
  times-yes : (n place : ℕ) → has_arrived (word_at r place) ≡ true → arrival_times became (suc n) place ≡ time_of (word_at r place) ∷ arrival_times became n (suc place)
  unfolding arrival_times
  times-yes n place a = time-of (word_at r place) (arrival_times became n (suc place)) a

  times-no : (n place : ℕ) → has_arrived (word_at r place) ≡ false → arrival_times became (suc n) place ≡ arrival_times became n (suc place)
  unfolding arrival_times
  times-no n place a = no-time-of (word_at r place) (arrival_times became n (suc place)) a

  latest-is : (n place : ℕ) (s : Spread) → (spread_from r n place s).latest ≡ max s.latest (highest (arrival_times became n place))
  unfolding spread_from arrival_times
  latest-is zero place s = omega arith
  latest-is (suc n) place s =
      arrives (word_at r place)
      (λ a. rw (spread-yes r n place s a, times-yes n place a) (omega (arith, latest-is n (suc place) (reached s (time_of (word_at r place)) place))))
      (λ a. rw (spread-no r n place s a, times-no n place a) (latest-is n (suc place) s))

  lowest-min : (a b : ℕ) (ts : List ℕ) → lowest (min a b) ts ≡ min b (lowest a ts)
  lowest-min a b [] = omega arith
  lowest-min a b (t ∷ ts) = omega (arith, lowest-min a b ts)

  earliest-is : (n place : ℕ) (s : Spread) → (spread_from r n place s).earliest ≡ lowest s.earliest (arrival_times became n place)
  unfolding spread_from arrival_times
  earliest-is zero place s = refl
  earliest-is (suc n) place s =
      arrives (word_at r place)
      (λ a. rw (spread-yes r n place s a, times-yes n place a) (earliest-is n (suc place) (reached s (time_of (word_at r place)) place) ∙ lowest-min s.earliest (time_of (word_at r place)) (arrival_times became n (suc place))))
      (λ a. rw (spread-no r n place s a, times-no n place a) (earliest-is n (suc place) s))

  times-small : (n place : ℕ) → highest (arrival_times became n place) ≤ limit
  unfolding arrival_times
  times-small zero place = omega arith
  times-small (suc n) place =
      arrives (word_at r place)
      (λ a. rw (times-yes n place a) (omega (arith, times-small n (suc place))))
      (λ a. rw (times-no n place a) (times-small n (suc place)))

-- ---- the arrivals are those received and those late

time-counts : (fate : Fate) (times : List ℕ) → length (with_time fate times) ≡ pick (has_come fate) 1 0 + length times
time-counts unknown times = omega arith
time-counts (ended time) times = omega arith
time-counts (came time late) times = omega arith

pub times-many : (became : ℕ → Fate) (lost : ℕ → Bool) (n place : ℕ) → length (arrival_times became n place)
    ≡ how_many (λ p. eqb (status_from (became p) (lost p)) 0) n place + how_many (λ p. eqb (status_from (became p) (lost p)) 1) n place
unfolding arrival_times how_many
times-many became lost zero place = refl
times-many became lost (suc n) place =
    omega (arith, times-many became lost n (suc place), time-counts (became place) (arrival_times became n (suc place)), came-counts (became place) (lost place))

-- ---- the average

mean-of : (interval first : ℕ) (others : List ℕ) → Rising first others → (mean_by (sum (gaps_of (first ∷ others))) (length others) interval) ≡ mean_of interval (gaps_of (first ∷ others))
unfolding gaps_of mean_of mean_by
mean-of interval first [] h = refl
mean-of interval first (y ∷ ys) h =
    let k : length (gaps_of (first ∷ y ∷ ys)) ≡ length (y ∷ ys) = gaps-many first (y ∷ ys) in
    rw (← k) (sym (ap (λ (d : ℤ). toward_zero d (length (gaps_of (first ∷ y ∷ ys)))) (deviation-sum interval (gaps_of (first ∷ y ∷ ys))) ∙ mean-is (sum (gaps_of (first ∷ y ∷ ys))) (length (gaps_of (first ∷ y ∷ ys))) interval (omega arith)))

pub average-of : (interval : ℕ) (ts : List ℕ) → highest ts ≤ limit → (mean_by (highest ts - lowest limit ts) (length ts - 1) interval) ≡ average_from interval ts
unfolding in_order gaps_of mean_of mean_by
average-of interval [] h = refl
average-of interval (t ∷ ts) h =
    let s : Sorted t ts = sorted t ts in
    let g = gaps-sum s.first s.others s.rising in
    let l = first-least s.first s.others s.rising in
    let d : highest (t ∷ ts) - lowest limit (t ∷ ts) ≡ sum (gaps_of (s.first ∷ s.others)) = omega (arith, g, l, s.last, s.least limit) in
    let n : length (t ∷ ts) - 1 ≡ length s.others = omega (arith, s.many) in
    ap (λ (x : ℕ). (mean_by x (length (t ∷ ts) - 1) interval)) d
    ∙ ap (λ (x : ℕ). (mean_by (sum (gaps_of (s.first ∷ s.others))) x interval)) n
    ∙ mean-of interval s.first s.others s.rising
    ∙ ap (λ (x : List ℕ). mean_of interval (gaps_of x)) (sym s.is)

-- the spread of all objects and the number that arrived
pub average-agrees : (r : List ℕ) (interval : ℕ)
    → (mean_by ((spread_from r most_objects 0 no_arrival).latest - (spread_from r most_objects 0 no_arrival).earliest) (length (arrival_times (known r).became most_objects 0) - 1) interval)
    ≡ average_from interval (arrival_times (known r).became most_objects 0)
average-agrees r interval =
    let ts : List ℕ = arrival_times (known r).became most_objects 0 in
    let l : (spread_from r most_objects 0 no_arrival).latest ≡ highest ts = latest-is r most_objects 0 no_arrival ∙ omega arith in
    let e : (spread_from r most_objects 0 no_arrival).earliest ≡ lowest limit ts = earliest-is r most_objects 0 no_arrival in
    rw (l, e) (average-of interval ts (times-small r most_objects 0))
