-- One step of each walk over the objects, and its end.
-- Assumes nothing.
use Prim.Native.Nat.{ℕ, suc, ◌+◌, ◌-◌, ◌≤◌, ◌<◌}
use mathlib.Core.Path.{◌≡◌}
use mathlib.Core.Bool.{Bool, true, false}
use mathlib.Core.List.{List}
use native.Mathlib.Nat.{max-le}
use native.Mathlib.Numerals.{add-one}
use native.Mathlib.Omega.{arith}
use lib.Dec.{eqb}
use Rattle.wire.specs.Bytes.{pick}
use Rattle.wire.specs.Numbers.{limit}
use Rattle.tracker.specs.Known.{most_objects}
use Rattle.tracker.specs.Record.{word_at, time_of, has_arrived}
use Rattle.tracker.specs.Counting.{reached, widened, spread_from, status_by, counted_in, counts_from}
use Rattle.tracker.specs.declared.Spread.{Spread}
use Rattle.tracker.specs.declared.Counts.{Counts}

-- what remains from a place on is one more than what remains after it, and nothing remains at the end
pub remains : (place : ℕ) → place < most_objects → most_objects - place ≡ suc (most_objects - (place + 1))
remains place h = omega arith

pub none-remains : (place : ℕ) → most_objects ≤ place → most_objects - place ≡ 0
none-remains place h = omega arith

module _ (r : List ℕ) (place : ℕ) where
  pub spread-next : (s w : Spread) → place < most_objects → w ≡ widened s (word_at r place) place
      → spread_from r (most_objects - (place + 1)) (place + 1) w ≡ spread_from r (most_objects - place) place s
  unfolding spread_from
  spread-next s w h e = rw (remains place h, add-one, e)

  pub spread-done : (s : Spread) → most_objects ≤ place → spread_from r (most_objects - place) place s ≡ s
  unfolding spread_from
  spread-done s h = rw (none-remains place h)

  pub counts-next : (end : ℕ) (c d : Counts) (status : ℕ) → place < most_objects → d ≡ counted_in c status → status ≡ status_by end (word_at r place) place
      → counts_from end r (most_objects - (place + 1)) (place + 1) d ≡ counts_from end r (most_objects - place) place c
  unfolding counts_from
  counts-next end c d status h e f = rw (remains place h, add-one, e, f)

  pub counts-done : (end : ℕ) (c : Counts) → most_objects ≤ place → counts_from end r (most_objects - place) place c ≡ c
  unfolding counts_from
  counts-done end c h = rw (none-remains place h)

-- the latest time obeys 5
pub widened_small : (s w : Spread) (word place : ℕ) → s.latest ≤ limit → w ≡ widened s word place → w.latest ≤ limit
widened_small s w word place h e = rw e (go (has_arrived word))
  where
    go : (b : Bool) → (pick b (reached s (time_of word) place) s).latest ≤ limit
    go true = max-le h (omega arith)
    go false = h

-- no count passes the number of objects
pub record Within (c : Counts) (n : ℕ) : Type 0 where
  pub received : c.received ≤ n
  pub late : c.late ≤ n
  pub missing : c.missing ≤ n
  pub partial : c.partial ≤ n

raised : (b : Bool) (m n : ℕ) → m ≤ n → pick b (m + 1) m ≤ n + 1
raised true m n h = omega arith
raised false m n h = omega arith

pub counted-within : (c d : Counts) (status n : ℕ) → Within c n → d ≡ counted_in c status → Within d (n + 1)
counted-within c d status n w e =
    rw e
    (record {
      received = raised (eqb status 0) c.received n w.received;
      late = raised (eqb status 1) c.late n w.late;
      missing = raised (eqb status 2) c.missing n w.missing;
      partial = raised (eqb status 3) c.partial n w.partial;
    })
