-- What a word of the record says of its object, by its state: whether it came, since when, and the age of its entry.
-- Assumes nothing.
use Prim.Native.Nat.{ℕ, zero, suc, ◌+◌, ◌≤◌, ◌<◌}
use mathlib.Core.Path.{◌≡◌, refl, sym}
use mathlib.Core.Bool.{Bool, true, false, not}
use mathlib.Core.List.{List, ◌∷◌}
use native.Mathlib.Omega.{arith}
use borrow.Author.Tests.{le-leb, leb-true, leb-false}
use lib.Dec.{leb, eqb}
use Rattle.wire.specs.Bytes.{pick}
use Rattle.tracker.specs.Known.{Fate, unknown, ended, came, has_come}
use Rattle.tracker.specs.Record.{word_at, state_of, time_of, fate_in, fate_of, ended_early, received, late, has_arrived, none_arrived, known}
use Rattle.tracker.specs.Status.{some_came, no_status, status_from, since_of, age_of}
use Rattle.tracker.specs.Average.{with_time}
use Rattle.tracker.proofs.Tests.{clash}

-- ---- whether it came

come-in : (state time : ℕ) → has_come (fate_in state time) ≡ leb received state
come-in zero time = refl
come-in (suc zero) time = refl
come-in (suc (suc zero)) time = refl
come-in (suc (suc (suc state))) time = sym (le-leb received (suc (suc (suc state))) (omega arith))

pub word-came : (word : ℕ) → has_come (fate_of word) ≡ has_arrived word
word-came word = come-in (state_of word) (time_of word)

pub some-came : (r : List ℕ) (n place : ℕ) → some_came (known r).became n place ≡ not (none_arrived n place r)
unfolding some_came none_arrived
some-came r zero place = refl
some-came r (suc n) place = rw (word-came (word_at r place)) (go (has_arrived (word_at r place)) (some_came (known r).became n (suc place)) (none_arrived n (suc place) r) (some-came r n (suc place)))
  where
    go : (b s m : Bool) → s ≡ not m → pick b true s ≡ not (pick b false m)
    go true s m e = refl
    go false s m e = e

-- ---- its time among the arrivals

time-in : (state time : ℕ) (times : List ℕ) → received ≤ state → with_time (fate_in state time) times ≡ time ∷ times
time-in zero time times h = absurd (omega arith)
time-in (suc zero) time times h = absurd (omega arith)
time-in (suc (suc zero)) time times h = refl
time-in (suc (suc (suc state))) time times h = refl

no-time-in : (state time : ℕ) (times : List ℕ) → state < received → with_time (fate_in state time) times ≡ times
no-time-in zero time times h = refl
no-time-in (suc zero) time times h = refl
no-time-in (suc (suc state)) time times h = absurd (omega arith)

pub time-of : (word : ℕ) (times : List ℕ) → has_arrived word ≡ true → with_time (fate_of word) times ≡ time_of word ∷ times
time-of word times a = time-in (state_of word) (time_of word) times (leb-true received (state_of word) a)

pub no-time-of : (word : ℕ) (times : List ℕ) → has_arrived word ≡ false → with_time (fate_of word) times ≡ times
no-time-of word times a = no-time-in (state_of word) (time_of word) times (leb-false received (state_of word) a)

-- ---- the status of an object that came does not ask whether it would be lost

pub status-came : (fate : Fate) (a b : Bool) → has_come fate ≡ true → status_from fate a ≡ status_from fate b
status-came unknown a b e = clash e refl
status-came (ended time) a b e = clash e refl
status-came (came time l) a b e = refl

-- by the tests of its state, one after the other
status-in : (state time : ℕ) (lost : Bool) → state < 4 → status_from (fate_in state time) lost ≡ pick (eqb state received) 0 (pick (eqb state late) 1 (pick (eqb state ended_early) 3 (pick lost 2 no_status)))
status-in zero time lost h = refl
status-in (suc zero) time lost h = refl
status-in (suc (suc zero)) time lost h = refl
status-in (suc (suc (suc zero))) time lost h = refl
status-in (suc (suc (suc (suc state)))) time lost h = absurd (omega arith)

pub status-tests : (word : ℕ) (lost : Bool) → status_from (fate_of word) lost ≡ pick (eqb (state_of word) received) 0 (pick (eqb (state_of word) late) 1 (pick (eqb (state_of word) ended_early) 3 (pick lost 2 no_status)))
status-tests word lost = status-in (state_of word) (time_of word) lost (omega arith)

-- those that came are those received and those late
pub came-counts : (fate : Fate) (lost : Bool) → pick (has_come fate) 1 0 ≡ pick (eqb (status_from fate lost) 0) 1 0 + pick (eqb (status_from fate lost) 1) 1 0
came-counts unknown true = refl
came-counts unknown false = refl
came-counts (ended time) lost = refl
came-counts (came time true) lost = refl
came-counts (came time false) lost = refl

-- ---- the age of its entry: of an object of which nothing is known the time is not asked for

age-in : (state since status time : ℕ) (lost : Bool) → status ≡ status_from (fate_in state since) lost → status < no_status → age_of status time since ≡ age_of status time (since_of (fate_in state since))
age-in zero since status time true e h = rw e
age-in zero since status time false e h = absurd (omega arith)
age-in (suc zero) since status time lost e h = refl
age-in (suc (suc zero)) since status time lost e h = refl
age-in (suc (suc (suc state))) since status time lost e h = refl

pub age-since : (word status time : ℕ) (lost : Bool) → status ≡ status_from (fate_of word) lost → status < no_status → age_of status time (time_of word) ≡ age_of status time (since_of (fate_of word))
age-since word status time lost e h = age-in (state_of word) (time_of word) status time lost e h
