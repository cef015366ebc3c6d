-- The average deviation of the arrival gaps.
use Rattle.std.specs.Prelude.{ℕ, zero, suc, ◌-◌, ◌/◌, List, [], ◌∷◌, leb, ℤ, pos, negsuc, neg_ℤ, ◌+ℤ◌, length}
use Rattle.std.proofs.Math.IntN.{sub_ℕ}
use Rattle.wire.specs.Bytes.{pick}
use Rattle.tracker.specs.Known.{Fate, unknown, ended, came}

-- "over arrived objects, late ones included"
abbrev pub with_time : Fate → List ℕ → List ℕ
with_time (came time late) times = time ∷ times
with_time (ended time) times = times
with_time unknown times = times

-- the arrival times of n objects from a place on
unfoldable pub arrival_times : (ℕ → Fate) → ℕ → ℕ → List ℕ
arrival_times became zero place = []
arrival_times became (suc n) place = with_time (became place) (arrival_times became n (suc place))

-- "by arrival time"
unfoldable pub insert : ℕ → List ℕ → List ℕ
insert t [] = t ∷ []
insert t (x ∷ xs) = pick (leb t x) (t ∷ x ∷ xs) (x ∷ insert t xs)

unfoldable pub in_order : List ℕ → List ℕ
in_order [] = []
in_order (t ∷ ts) = insert t (in_order ts)

-- the gap after each arrival but the last
unfoldable pub gaps_of : List ℕ → List ℕ
gaps_of [] = []
gaps_of (a ∷ []) = []
gaps_of (a ∷ b ∷ ts) = (b - a) ∷ gaps_of (b ∷ ts)

-- "the sum of gaps less the interval each"
unfoldable pub deviation : ℕ → List ℕ → ℤ
deviation interval [] = pos 0
deviation interval (gap ∷ gaps) = sub_ℕ gap interval +ℤ deviation interval gaps

-- "divided by the number of gaps, rounded toward zero"
abbrev pub toward_zero : ℤ → ℕ → ℤ
toward_zero (pos n) k = pos (n / k)
toward_zero (negsuc n) k = neg_ℤ (pos (suc n / k))

-- "0 for fewer than two arrivals"
unfoldable pub mean_of : ℕ → List ℕ → ℤ
mean_of interval [] = pos 0
mean_of interval (gap ∷ gaps) = toward_zero (deviation interval (gap ∷ gaps)) (length (gap ∷ gaps))

abbrev pub average_from : ℕ → List ℕ → ℤ
average_from interval times = mean_of interval (gaps_of (in_order times))
