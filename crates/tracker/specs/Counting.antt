-- How the code comes to the summary: what one walk over the objects gathers, from where on objects are lost, and the average of a spread.
use Rattle.std.specs.Prelude.{ℕ, zero, suc, ◌+◌, ◌-◌, ◌/◌, ◌%◌, max, min, List, eqb, leb, ltb, ℤ, pos, neg_ℤ}
use Rattle.wire.specs.Bytes.{pick}
use Rattle.wire.specs.Numbers.{limit}
use Rattle.tracker.specs.Record.{interval_of, named_of, word_at, time_of, fate_of, has_arrived, first_place, first_time}
use Rattle.tracker.specs.Status.{status_from}
use Rattle.tracker.specs.declared.Spread.{Spread}
use Rattle.tracker.specs.declared.Counts.{Counts}

-- ---- the arrivals: the end of the highest place, the earliest and the latest time

abbrev pub no_arrival : Spread
no_arrival = record { top = 0; earliest = limit; latest = 0 }

abbrev pub reached : Spread → ℕ → ℕ → Spread
reached s time place = record { top = place + 1; earliest = min s.earliest time; latest = max s.latest time }

abbrev pub widened : Spread → ℕ → ℕ → Spread
widened s word place = pick (has_arrived word) (reached s (time_of word) place) s

unfoldable pub spread_from : List ℕ → ℕ → ℕ → Spread → Spread
spread_from r zero place s = s
spread_from r (suc n) place s = spread_from r n (suc place) (widened s (word_at r place) place)

-- ---- the places below which an object of which nothing is known is lost, as an end

-- how many intervals have passed whole, and more: 257 stands for more than there are places
abbrev pub reach_of : ℕ → ℕ → ℕ
reach_of interval passed = pick (eqb passed 0) 0 (pick (eqb interval 0) 257 ((passed - 1) / interval))

unfoldable pub loss_end : List ℕ → ℕ → ℕ → ℕ
loss_end r time top =
    pick (eqb (named_of r) 0) 0 (max top (first_place r + reach_of (interval_of r) (time - first_time r)))

-- the status of an object by that end
abbrev pub status_by : ℕ → ℕ → ℕ → ℕ
status_by end word place = status_from (fate_of word) (ltb (place + 1) end)

abbrev pub statuses_by : ℕ → List ℕ → ℕ → ℕ
statuses_by end r place = status_by end (word_at r place) place

-- ---- how many objects have each status

abbrev pub no_counts : Counts
no_counts = record { received = 0; late = 0; missing = 0; partial = 0 }

abbrev pub counted_in : Counts → ℕ → Counts
counted_in c status =
    record {
      received = pick (eqb status 0) (c.received + 1) c.received;
      late = pick (eqb status 1) (c.late + 1) c.late;
      missing = pick (eqb status 2) (c.missing + 1) c.missing;
      partial = pick (eqb status 3) (c.partial + 1) c.partial;
    }

unfoldable pub counts_from : ℕ → List ℕ → ℕ → ℕ → Counts → Counts
counts_from end r zero place c = c
counts_from end r (suc n) place c = counts_from end r n (suc place) (counted_in c (statuses_by end r place))

-- ---- the average of so many gaps that add up to a spread: a division and no product

abbrev pub rounded_up : ℕ → ℕ → ℕ
rounded_up spread gaps = pick (eqb (spread % gaps) 0) (spread / gaps) (spread / gaps + 1)

unfoldable pub mean_by : ℕ → ℕ → ℕ → ℤ
mean_by spread gaps interval =
    pick (eqb gaps 0) (pos 0)
    (pick (leb interval (spread / gaps)) (pos (spread / gaps - interval))
    (neg_ℤ (pos (interval - rounded_up spread gaps))))
